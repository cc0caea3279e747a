-- A step of Manne's rules in pointers, marriages and flags alone, where any nodes move at once: what stays, and
-- what a node that did not get its way was before.
--
-- A pointer has hope if its target is above its node and not flagged. If flags are right and no pair is new,
-- hope stays, and each new pointer has it.
use Rattle.round_laws.proofs.Prelude.{◌≡◌, ◌≢◌, ℕ, ◌<◌, ◌≤◌, Bool, true, false, not, List, [], Option, None, Some, sym, ◌∙◌, inl, inr, ◌⊎◌, ⊎_elim, arith, cases_lt, cases_Bool, none-some, IsIn}

-- What v does. A node that updates has a wrong flag. A node that writes its pointer is neither married nor
-- flagged: it takes a suitor; or has none and courts a null node above it; or leaves one that is flagged or not
-- above it.
pub data JointTurn (p p' : ℕ → Option ℕ) (m f f' moved : ℕ → Bool) (v : ℕ) : Type 0 where
  idles : moved v ≡ false → p' v ≡ p v → f' v ≡ f v → JointTurn p p' m f f' moved v
  updates : p' v ≡ p v → f v ≡ not (m v) → f' v ≡ m v → JointTurn p p' m f f' moved v
  takes : (w : ℕ) → p v ≡ None → p w ≡ Some v → m w ≡ false → p' v ≡ Some w → m v ≡ false → f v ≡ false → f' v ≡ false → JointTurn p p' m f f' moved v
  courts : (w : ℕ) → p v ≡ None → ((u : ℕ) → p u ≡ Some v → ⊥) → p w ≡ None → m w ≡ false → p' v ≡ Some w → v < w → m v ≡ false → f v ≡ false → f' v ≡ false → JointTurn p p' m f f' moved v
  leaves : (w : ℕ) → p v ≡ Some w → p w ≢ Some v → p' v ≡ None → (f w ≡ true) ⊎ (w ≤ v) → m v ≡ false → f v ≡ false → f' v ≡ false → JointTurn p p' m f f' moved v

pub record IsJoint (p p' : ℕ → Option ℕ) (m m' f f' moved : ℕ → Bool) : Type 0 where
  pub turns : (v : ℕ) → JointTurn p p' m f f' moved v
  pub weds : (v w : ℕ) → p' v ≡ Some w → p' w ≡ Some v → m' v ≡ true
  pub stays : (v : ℕ) → m v ≡ true → m' v ≡ true

-- only married nodes are flagged
abbrev pub IsHonest : (ℕ → Bool) → (ℕ → Bool) → Type 0
IsHonest m f = (v : ℕ) → f v ≡ true → m v ≡ true

-- exactly the married nodes are
abbrev pub IsRight : (ℕ → Bool) → (ℕ → Bool) → Type 0
IsRight m f = (v : ℕ) → f v ≡ m v

-- each pointer of an unmarried node has hope, or its node is pending
abbrev pub IsSorted : (ℕ → Option ℕ) → (ℕ → Bool) → (ℕ → Bool) → List ℕ → Type 0
IsSorted p m f pending = (v w : ℕ) → p v ≡ Some w → m v ≡ false → ((v < w) × (f w ≡ false)) ⊎ IsIn v pending

module _ {p p' : ℕ → Option ℕ} {m m' f f' moved : ℕ → Bool} (it : IsJoint p p' m m' f f' moved) where
  pub honest_then : IsHonest m f → IsHonest m' f'
  honest_then honest v on = grind (arith, it.turns v, it.stays v, honest v)

  -- a wrong flag is an old one of a node that did not move
  pub raised_was : (v : ℕ) → f' v ≡ true → m' v ≡ false → (moved v ≡ false) × (f v ≡ true) × (m v ≡ false)
  raised_was v on single = grind (arith, it.turns v, it.stays v)

  -- a pointer with hope stays
  pub hope_stays : (v w : ℕ) → p v ≡ Some w → v < w → f w ≡ false → p' v ≡ Some w
  hope_stays v w at up off = grind (arith, it.turns v)

  -- ---- if no pair is new

  module _ (same : (v : ℕ) → m' v ≡ m v) where
    pub unset_was : (v : ℕ) → m' v ≡ true → f' v ≡ false → (moved v ≡ false) × (m v ≡ true) × (f v ≡ false)
    unset_was v wed off = grind (arith, it.turns v, same v)

    pub right_then : IsRight m f → IsRight m' f'
    right_then right v = grind (arith, it.turns v, same v, right v)

    -- a node that keeps its pointer did not move
    pub idle_was : IsRight m f → (v : ℕ) → p' v ≡ p v → moved v ≡ false
    idle_was right v kept = grind (arith, it.turns v, right v)

    -- a new pointer has hope
    pub hope_begins : IsRight m f → (v w : ℕ) → p' v ≡ Some w → (p' v ≡ p v) ⊎ ((p v ≡ None) × (v < w) × (f' w ≡ false))
    hope_begins right v w now = grind (arith, it.turns v, right_then right w, same v, same w, hope_stays w v, it.weds v w, cases_lt v w)

    -- each pointer of an unmarried node has hope, or its node is pending still
    pub sorted_then : IsRight m f → (pending pending' : List ℕ) → ((v w : ℕ) → IsIn v pending → moved v ≡ false → p' v ≡ Some w → m' v ≡ false → (f' w ≡ true) ⊎ (w ≤ v) → IsIn v pending') → IsSorted p m f pending → IsSorted p' m' f' pending'
    sorted_then right pending pending' still sorted v w now single =
        ⊎_elim
        (λ kept. ⊎_elim
        (λ (up : v < w). ⊎_elim (λ on. inr (by_old kept (inl on))) (λ off. inl (up, off)) (cases_Bool (f' w)))
        (λ (down : w ≤ v). inr (by_old kept (inr down)))
        (cases_lt v w))
        (λ new. inl (new.1, new.2))
        (hope_begins right v w now)
      where
        by_old : p' v ≡ p v → (f' w ≡ true) ⊎ (w ≤ v) → IsIn v pending'
        by_old kept lost =
            ⊎_elim
            (λ hope. absurd (no_hope hope lost))
            (λ there. still v w there (idle_was right v kept) now single lost)
            (sorted v w (sym kept ∙ now) (sym (same v) ∙ single))
          where
            no_hope : (v < w) × (f w ≡ false) → (f' w ≡ true) ⊎ (w ≤ v) → ⊥
            no_hope hope lost = grind (arith, right_then right w, same w, right w)

    -- if all others have hope, a null node with a suitor stays null
    pub courted_stays : IsRight m f → IsSorted p m f [] → (v u : ℕ) → p v ≡ None → p u ≡ Some v → p' v ≡ None
    courted_stays right sorted v u null suits = by_turn (it.turns v)
      where
        by_turn : JointTurn p p' m f f' moved v → p' v ≡ None
        by_turn (idles none e kept) = e ∙ null
        by_turn (updates e wrong kept) = e ∙ null
        by_turn (takes w gone suitor alone at single plain kept) = grind (arith, sorted w v, hope_stays w v, it.weds v w, same v)
        by_turn (courts w gone none other alone at up single plain kept) = absurd (none u suits)
        by_turn (leaves w to apart now lost single plain kept) = absurd (none-some w (sym null ∙ to))
