-- The greatest neighbour that a node may court.
use Rattle.std.proofs.Common.{◌≡◌, ℕ, zero, suc, ◌+◌, ◌<◌, ◌≤◌, Bool, true, false, cond, ◌&&◌, List, [], ◌∷◌, Option, None, Some, is_some, find, filter, IsTrue, refl, sym, ap, ◌∙◌, subst, inl, inr, ⊎_elim, ◌⊎◌, arith}
use Rattle.std.specs.List.{range_with_len}
use Rattle.std.proofs.lemmas.Bool.{and_parts, cases_eq}
use Rattle.rule_machine.specs.Network.{IsNetwork, linked, neighbours, names, present}
use Rattle.rule_machine.specs.State.{State}
use Rattle.rule_machine.specs.Manne.{manne_opens, may_court}
use Rattle.machine_laws.proofs.Neighbours.{option_cases, present_range, linked_back, linked_present, near_found, near_fails}
use Rattle.std.proofs.Common.{reverse}
use Rattle.std.specs.Option.{option_or}
use Rattle.std.proofs.lemmas.List.{reverse-append}
use Rattle.std.proofs.lemmas.List.Folds.{find-append}
use Rattle.rule_machine.specs.RuleTable.{last_open_above}

-- the last item that passes
abbrev pub last : {X : Type 0} → (X → Bool) → List X → Option X
last p [] = None
last p (x ∷ xs) = option_or (last p xs) (cond (p x) (Some x) None)

-- the first of the reversed list
find-reverse : {X : Type 0} (p : X → Bool) (xs : List X) → find p (reverse xs) ≡ last p xs
find-reverse p [] = refl
find-reverse p (x ∷ xs) =
    ap (find p) (reverse-append (x ∷ []) xs) ∙ find-append p (reverse xs) (x ∷ []) ∙ ap (λ o. option_or o (cond (p x) (Some x) None)) (find-reverse p xs)

last-filter : {X : Type 0} (p q : X → Bool) (xs : List X) → last p (filter q xs) ≡ last (λ x. q x && p x) xs
last-filter p q [] = refl
last-filter p q (x ∷ xs) =
    elim (q x) as (λ b. last p (cond b (x ∷ filter q xs) (filter q xs)) ≡ option_or (last (λ y. q y && p y) xs) (cond (b && p x) (Some x) None)) [
      | true ↦ ap (λ o. option_or o (cond (p x) (Some x) None)) (last-filter p q xs)
      | false ↦ last-filter p q xs ∙ no_more (last (λ y. q y && p y) xs)
    ]
  where
    no_more : {Y : Type 0} (o : Option Y) → o ≡ option_or o None
    no_more o = grind arith

-- the last is the last of the rest, or the first if none of the rest passes
or-none : {X : Type 0} (o : Option X) (b : Bool) (x : X) → option_or o (cond b (Some x) None) ≡ None → (o ≡ None) × (b ≡ false)
or-none None true x e = absurd cc
or-none None false x e = (refl, refl)
or-none (Some y) b x e = absurd cc

or-some : {X : Type 0} (o : Option X) (b : Bool) (x y : X) → option_or o (cond b (Some x) None) ≡ Some y → (o ≡ Some y) ⊎ ((o ≡ None) × (b ≡ true) × (x ≡ y))
or-some None true x y e = inr (refl, refl, cc)
or-some None false x y e = absurd cc
or-some (Some z) b x y e = inl e

last_none : (p : ℕ → Bool) (a n : ℕ) → last p (range_with_len a n) ≡ None → (x : ℕ) → a ≤ x → x < a + n → p x ≡ false
last_none p a zero e x low high = absurd (omega arith)
last_none p a (suc n) e x low high =
    let parts = or-none (last p (range_with_len (a + 1) n)) (p a) a e in
    ⊎_elim (λ same. subst (λ y. p y ≡ false) same parts.1) (λ apart. last_none p (a + 1) n parts.0 x (omega arith) (omega arith)) (cases_eq a x)

last_some : (p : ℕ → Bool) (a n x : ℕ) → last p (range_with_len a n) ≡ Some x → (a ≤ x) × (p x ≡ true) × ((y : ℕ) → x < y → y < a + n → p y ≡ false)
last_some p a zero x e = absurd cc
last_some p a (suc n) x e =
    ⊎_elim
    (
    λ rest. let more = last_some p (a + 1) n x rest in
    (omega arith, more.1, λ y above high. more.2 y above (omega arith))
    )
    (
    λ here. (
      omega arith,
      subst (λ y. p y ≡ true) here.2 here.1,
      λ y above high. last_none p (a + 1) n here.0 y (omega arith) (omega arith),
    )
    )
    (or-some (last p (range_with_len (a + 1) n)) (p a) a x e)

-- the greatest neighbour that v may court, if any
abbrev pub greatest : State → ℕ → Option ℕ
greatest s v = last_open_above manne_opens s v

as_last : (s : State) (v : ℕ) → greatest s v ≡ last (λ x. present s.network x && (linked s.network v x && may_court s v x)) (range_with_len 1 s.network.size)
as_last s v =
    find-reverse (may_court s v) (neighbours s.network v)
    ∙ last-filter (may_court s v) (linked s.network v) (names s.network)
    ∙ last-filter (λ x. linked s.network v x && may_court s v x) (present s.network) (range_with_len 1 s.network.size)

-- v may court none
pub greatest_none : (s : State) (v : ℕ) → IsNetwork s.network → greatest s v ≡ None → (w : ℕ) → IsTrue (linked s.network v w) → may_court s v w ≡ false
greatest_none s v is_network e w h =
    let has = linked_present s.network w v is_network (linked_back s.network w v ∙ h) in
    let bounds = present_range s.network w has in
    ap (λ b. b && may_court s v w) (sym h)
    ∙ ap (λ b. b && (linked s.network v w && may_court s v w)) (sym has)
    ∙ last_none (λ x. present s.network x && (linked s.network v x && may_court s v x)) 1 s.network.size (sym (as_last s v) ∙ e) w bounds.0 (omega arith)

-- v may court w and none above w
pub greatest_some : (s : State) (v w : ℕ) → IsNetwork s.network → greatest s v ≡ Some w → IsTrue (linked s.network v w) × IsTrue (may_court s v w) × ((x : ℕ) → IsTrue (linked s.network v x) → w < x → may_court s v x ≡ false)
greatest_some s v w is_network e =
    let found = last_some (λ x. present s.network x && (linked s.network v x && may_court s v x)) 1 s.network.size w (sym (as_last s v) ∙ e) in
    let parts = and_parts (linked s.network v w) (may_court s v w) (and_parts (present s.network w) _ found.1).1 in (
      parts.0,
      parts.1,
      λ x h above. let has = linked_present s.network x v is_network (linked_back s.network x v ∙ h) in
          let bounds = present_range s.network x has in
          ap (λ b. b && may_court s v x) (sym h) ∙ ap (λ b. b && (linked s.network v x && may_court s v x)) (sym has) ∙ found.2 x above (omega arith),
    )

-- there is a greatest if there is any
pub greatest_reaches : (s : State) (v : ℕ) → IsNetwork s.network → is_some (find (may_court s v) (neighbours s.network v)) ≡ is_some (greatest s v)
greatest_reaches s v is_network =
    ⊎_elim
    (λ none. ap is_some (near_fails s.network (may_court s v) v (greatest_none s v is_network none)) ∙ sym (ap is_some none))
    (
    λ some. let parts = greatest_some s v some.0 is_network some.1 in
    ap is_some (near_found s.network (may_court s v) v some.0 is_network parts.0 parts.1).1 ∙ sym (ap is_some some.1)
    )
    (option_cases (greatest s v))
