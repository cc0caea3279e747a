-- Manne and others: a pointer has hope as long as its target is higher and not flagged. An edge is closed for
-- good if an end is married.
--
-- A node that moves its pointer has a right flag and is in no pair, so its flag is false; and a flag becomes
-- true only at a married node. So hope ends in marriage only.
use Rattle.machine_laws.proofs.ChargePrelude.{◌≡◌, ◌≢◌, ℕ, ◌+◌, ◌<◌, ◌≤◌, Bool, true, false, cond, not, ◌&&◌, ◌||◌, ◌⊎◌, List, length, count_by, sum_by, sym, ap, ◌∙◌, inl, inr, arith, and_parts, true≢false, State, IsState, Item, Moved, IsStep, manne, manne_charge, manne_closed, manne_node_charge, names, neighbours, edge_list, pointer, flag, points, married, has_suitor, is_settled, is_unanswered, is_at, is_none, nat_lt, nat_le, Option, None, Some, null_unmarried, unanswered_unmarried}
use Rattle.machine_laws.proofs.WritesOfSteps.{is_mover_in}
use Rattle.machine_laws.proofs.NodeMoves.{Deed, idles, updates, marries, seduces, abandons, IsDone, step_done}
use Rattle.machine_laws.proofs.PresentMovers.{holds_is, manne_inside}
use Rattle.machine_laws.proofs.PaidMoves.{bit, differs, IsWrite, pair_charge, pair_pays, IsSeen, seen, turned, pointer_turns, falls}

-- What v does. A node that updates has a wrong flag. A node that writes its pointer has a right flag, which
-- is false, since it is in no pair: it takes a suitor; courts a null, unflagged node above it; or leaves one
-- that is flagged or not above it.
pub data FlagTurn (p p' : ℕ → Option ℕ) (m f f' moved : ℕ → Bool) (v : ℕ) : Type 0 where
  idle : moved v ≡ false → p' v ≡ p v → f' v ≡ f v → FlagTurn p p' m f f' moved v
  update : p' v ≡ p v → f v ≡ not (m v) → f' v ≡ m v → FlagTurn p p' m f f' moved v
  take : (w : ℕ) → p v ≡ None → p w ≡ Some v → p' v ≡ Some w → f v ≡ false → f' v ≡ f v → FlagTurn p p' m f f' moved v
  court : (w : ℕ) → p v ≡ None → p w ≡ None → p' v ≡ Some w → v < w → f w ≡ false → f v ≡ false → f' v ≡ f v → FlagTurn p p' m f f' moved v
  leave : (w : ℕ) → p v ≡ Some w → p w ≢ Some v → p' v ≡ None → (f w ≡ true) ⊎ (w ≤ v) → f v ≡ false → f' v ≡ f v → FlagTurn p p' m f f' moved v

abbrev hope : (ℕ → Bool) → ℕ → ℕ → Bool
hope f a b = nat_lt a b && not (f b)

module _ (p p' : ℕ → Option ℕ) (m m' c c' f f' moved : ℕ → Bool) (old : IsSeen p m c) (new : IsSeen p' m' c') (turns : (v : ℕ) → FlagTurn p p' m f f' moved v) where
  kept : (v w : ℕ) → p v ≡ Some w → p w ≡ Some v → p' v ≡ Some w
  kept v w at back = grind (arith, turns v)

  married_stays : (v : ℕ) → m v ≡ true → m' v ≡ true
  married_stays v h = let pair = old.wed v h in new.weds v pair.0 (kept v pair.0 pair.1 pair.2) (kept pair.0 v pair.2 pair.1)

  aims : (a b : ℕ) → is_at (p a) b ≡ false → is_at (p' a) b ≡ true → (m a ≡ false) × (f a ≡ false) × ((p b ≡ Some a) ⊎ ((p b ≡ None) × (a < b) × (f b ≡ false)))
  aims a b h k = grind (arith, turns a, old.wed a)

  answers : (a b : ℕ) → (a ≡ b → ⊥) → p a ≡ None → p b ≡ Some a → is_at (p' b) a ≡ false → f a ≡ false → (a < b) × (f' b ≡ false)
  answers a b apart null at gone plain = grind (arith, turns b)

  lonely : (a b : ℕ) → p a ≡ None → p b ≡ None → a < b → is_at (p' a) b ≡ true → is_at (p' b) a ≡ false
  lonely a b null other up at = grind (arith, turns b)

  write : (a b : ℕ) → (a ≡ b → ⊥) → IsWrite (is_at (p a) b) (is_at (p' a) b) (is_at (p b) a) (is_at (p' b) a) (hope f a b) (hope f' a b) (m a || m b || false) (m' a || m' b || false)
  write a b apart = record {
    writes = λ h k. grind (arith, aims a b h k, answers a b apart, lonely a b, old.wed b);
    gives_up = λ h k. grind (arith, turns a);
    lasts = λ h k. grind (arith, turns b, married_stays b);
  }

  pub pair : (a b : ℕ) → a < b → pair_charge (is_at (p' a) b) (is_at (p' b) a) (hope f' a b) (hope f' b a) (m' a || m' b) false + bit (differs (is_at (p a) b) (is_at (p' a) b)) + bit (differs (is_at (p b) a) (is_at (p' b) a)) ≤ pair_charge (is_at (p a) b) (is_at (p b) a) (hope f a b) (hope f b a) (m a || m b) false
  pair a b up =
      pair_pays _ _ _ _ _ _ _ _ _ _ _ _ _ _ (write a b (λ same. omega (arith, same))) (write b a (λ same. omega (arith, same))) (grind arith) (grind arith)
      (λ h k. grind arith) (λ h k. grind arith) (λ h. grind (arith, married_stays a, married_stays b))

  pub node : (v : ℕ) → cond (m' v) (cond (f' v) 0 1) (cond (f' v) 2 1) + bit (differs (f v) (f' v)) ≤ cond (m v) (cond (f v) 0 1) (cond (f v) 2 1)
  node v = grind (arith, turns v, married_stays v)

-- ---- the step in pointers and flags

-- what guards and targets say; m is married, f the flag
wrong_flag : (m f : Bool) → not (cond m f (not f)) ≡ true → f ≡ not m
wrong_flag m f h = grind arith

marry_is : (p : ℕ → Option ℕ) (v w : ℕ) (m f c l : Bool) → (cond m f (not f) && is_none (p v) && c) ≡ true → (l && is_at (p w) v) ≡ true → (p v ≡ None) × (p w ≡ Some v) × (m ≡ false → f ≡ false)
marry_is p v w m f c l guard allowed = grind arith

seduce_is : (p : ℕ → Option ℕ) (v w : ℕ) (m f c k g l o : Bool) → (cond m f (not f) && is_none (p v) && c && k) ≡ true → (l && (is_none (p w) && not g && nat_lt v w) && o) ≡ true → (p v ≡ None) × (p w ≡ None) × (v < w) × (g ≡ false) × (m ≡ false → f ≡ false)
seduce_is p v w m f c k g l o guard allowed = grind arith

abandon_is : (p : ℕ → Option ℕ) (v w : ℕ) (g : Bool) → (not (is_at (p w) v) && (g || nat_le w v)) ≡ true → (p w ≢ Some v) × ((g ≡ true) ⊎ (w ≤ v))
abandon_is p v w g h = ((λ at. grind arith), grind arith)

settled_is : (m f : Bool) → cond m f (not f) ≡ true → m ≡ false → f ≡ false
settled_is m f h single = grind arith

own_turn : (s s' : State) (moves : List Moved) (v : ℕ) → IsState s → Deed manne s s' moves v → FlagTurn (pointer s) (pointer s') (married s) (flag s) (flag s') (is_mover_in moves) v
own_turn s s' moves v good (idles none e f) = idle none e f
own_turn s s' moves v good (updates goes guard e f) = update e (wrong_flag (married s v) (flag s v) guard) f
own_turn s s' moves v good (marries w goes guard allowed e f) = let is = marry_is (pointer s) v w _ _ _ _ guard allowed in take w is.0 is.1 e (is.2 (null_unmarried s v is.0)) f
own_turn s s' moves v good (seduces w goes guard allowed e f) = let is = seduce_is (pointer s) v w _ _ _ _ _ _ _ guard allowed in court w is.0 is.1 e is.2 is.3 (is.4 (null_unmarried s v is.0)) f
own_turn s s' moves v good (abandons goes guard e f) =
    let parts = and_parts (is_settled s v) _ guard in
    let aim = holds_is (λ w. not (points s.registers w v) && (flag s w || nat_le w v)) (pointer s v) parts.1 in
    let is = abandon_is (pointer s) v aim.0 _ aim.2 in
    leave aim.0 aim.1 is.0 e is.1 (settled_is (married s v) (flag s v) parts.0 (unanswered_unmarried s v aim.0 aim.1 is.0)) f

-- ---- the charge

-- the pointer of the higher end closes nothing
upward : (c p q f g : Bool) (a b : ℕ) → a < b → (c || (p && (nat_lt a b && not f)) || (q && (nat_lt b a && not g)) || false) ≡ (c || (p && not f))
upward c p q f g a b up = grind arith

-- the charge falls by the moves of a step
pub manne_falls : (s : State) (items : List Item) (moves : List Moved) (s' : State) → IsState s → IsStep manne s items moves s' → manne_charge s' + length moves ≤ manne_charge s
manne_falls s items moves s' good step =
    let done = step_done manne manne_inside s good items moves s' step in
    let turns : (v : ℕ) → FlagTurn (pointer s) (pointer s') (married s) (flag s) (flag s') (is_mover_in moves) v = λ v. own_turn s s' moves v good (done.deeds v) in
    let less = falls s s' moves (manne_closed s) (manne_closed s') (manne_node_charge s) (manne_node_charge s') (λ v. bit (differs (flag s v) (flag s' v))) good done.is_state done.network done.counted
    (λ a b up.
    let pays = pair (pointer s) (pointer s') (married s) (married s') (has_suitor s) (has_suitor s') (flag s) (flag s') (is_mover_in moves) (seen s good) (seen s' done.is_state) turns a b up in
    let before = ap (λ e. bit (not e)) (upward (married s a || married s b) (points s.registers a b) (points s.registers b a) (flag s b) (flag s a) a b up) in
    let after = ap (λ e. bit (not e)) (upward (married s' a || married s' b) (points s'.registers a b) (points s'.registers b a) (flag s' b) (flag s' a) a b up) in
    omega (arith, pays, before, after))
    (node (pointer s) (pointer s') (married s) (married s') (has_suitor s) (has_suitor s') (flag s) (flag s') (is_mover_in moves) (seen s good) (seen s' done.is_state) turns)
    (λ v goes. writes done v goes (turns v)) in
    let edges = ap (λ net. count_by (λ e. not (manne_closed s' e)) (edge_list net)) done.network in
    let nodes = ap (λ net. count_by (is_unanswered s') (names net)) done.network in
    let costs = ap (λ net. sum_by (manne_node_charge s') (names net)) done.network in
    omega (arith, less, edges, nodes, costs)
  where
    writes : IsDone manne s s' moves → (v : ℕ) → is_mover_in moves v ≡ true → FlagTurn (pointer s) (pointer s') (married s) (flag s) (flag s') (is_mover_in moves) v → 1 ≤ bit (differs (flag s v) (flag s' v)) + count_by (turned s s' v) (neighbours s.network v)
    writes done v goes (idle none e f) = absurd (true≢false (sym goes ∙ none))
    writes done v goes (update e wrong f) = grind arith
    writes done v goes (take w null suitor now plain kept) = let one = pointer_turns s s' good done.is_state done.network v w (inr (null, now)) in omega (arith, one)
    writes done v goes (court w null other now up open_flag plain kept) = let one = pointer_turns s s' good done.is_state done.network v w (inr (null, now)) in omega (arith, one)
    writes done v goes (leave w at alone now lost plain kept) = let one = pointer_turns s s' good done.is_state done.network v w (inl (at, now)) in omega (arith, one)
