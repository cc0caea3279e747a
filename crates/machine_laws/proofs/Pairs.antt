-- The list of mutual pairs.
use Rattle.machine_laws.proofs.ChargePrelude.Imports.{◌≡◌, ℕ, Bool, true, false, cond, filter, IsTrue, zero, suc, ◌+◌, ◌<◌, ◌≤◌, List, [], ◌∷◌, Option, None, Some, Contains, Any, nat_lt, filter_map, refl, sym, ap, ◌∙◌, subst, ⊎_elim, ◌⊎◌, arith, lt-ltb, range_with_len, cons_option, cases_eq, cases_order, cond-true, cond_some, Contains-push, Contains-push_cases, Contains-append_left, Contains-append_right, Contains-append_cases, names, Network, present, State, IsState, pointer, partner, pair_above, mutual_pairs}
use Rattle.std.proofs.Common.{ltb-true}
use Rattle.machine_laws.proofs.Neighbours.{present_range, linked_present, linked_apart}
use Rattle.machine_laws.proofs.Pointers.{pointer_linked, partner_some, partner_from}

-- membership in a list by its first item and its rest
pub contains_first : {X : Type 0} (x : X) (xs : List X) → Contains (x ∷ xs) x
contains_first x xs = Contains-append_left (x ∷ []) xs x (Contains-push [] x)

pub contains_rest : {X : Type 0} (x y : X) (xs : List X) → Contains xs y → Contains (x ∷ xs) y
contains_rest x y xs h = Contains-append_right (x ∷ []) xs y h

pub contains_empty : {X : Type 0} (y : X) → Contains [] y → ⊥
contains_empty y h = let none = h.1 in absurd (omega arith)

pub contains_cases : {X : Type 0} (x y : X) (xs : List X) → Contains (x ∷ xs) y → (x ≡ y) ⊎ Contains xs y
contains_cases x y xs h = grind (arith, contains_empty, Contains-push_cases, Contains-append_cases)

-- an item that some number gave
pub filter_map_from : {X Y : Type 0} (h : X → Option Y) (xs : List X) (y : Y) → Contains (filter_map h xs) y → (x : X) × (h x ≡ Some y)
filter_map_from h [] y c = absurd (contains_empty y c)
filter_map_from {X = X} {Y = Y} h (x ∷ xs) y c = go (h x) refl (filter_map_from h xs y) c
  where
    go : (o : Option Y) → h x ≡ o → (Contains (filter_map h xs) y → (z : X) × (h z ≡ Some y)) → Contains (cons_option o (filter_map h xs)) y → (z : X) × (h z ≡ Some y)
    go None e more k = more k
    go (Some z) e more k = ⊎_elim (λ same. (x, e ∙ ap Some same)) more (contains_cases z y (filter_map h xs) k)

cons_option_contains : {Y : Type 0} (o : Option Y) (ys : List Y) (y : Y) → Contains ys y → Contains (cons_option o ys) y
cons_option_contains None ys y at = at
cons_option_contains (Some z) ys y at = contains_rest z y ys at

-- what h gives of an element is among what it gives
pub filter_map_contains : {X Y : Type 0} (h : X → Option Y) (xs : List X) (x : X) (y : Y) → Contains xs x → h x ≡ Some y → Contains (filter_map h xs) y
filter_map_contains h [] x y at e = absurd (contains_empty x at)
filter_map_contains h (z ∷ xs) x y at e =
    ⊎_elim
    (λ same. subst (λ o. Contains (cons_option o (filter_map h xs)) y) (sym (ap h same ∙ e)) (contains_first y _))
    (λ there. cons_option_contains (h z) (filter_map h xs) y (filter_map_contains h xs x y there e))
    (contains_cases z x xs at)

filter_has : (p : ℕ → Bool) (a n v : ℕ) → a ≤ v → v < a + n → IsTrue (p v) → Contains (filter p (range_with_len a n)) v
filter_has p a zero v low high passes = absurd (omega arith)
filter_has p a (suc n) v low high passes =
    ⊎_elim
    (λ same. subst (λ b. Contains (cond b (a ∷ filter p (range_with_len (a + 1) n)) (filter p (range_with_len (a + 1) n))) v) (sym (ap p same ∙ passes)) (subst (λ x. Contains (a ∷ filter p (range_with_len (a + 1) n)) x) same (contains_first a _)))
    (λ apart. kept (p a) (filter_has p (a + 1) n v (omega arith) (omega arith) passes))
    (cases_eq a v)
  where
    kept : (b : Bool) → Contains (filter p (range_with_len (a + 1) n)) v → Contains (cond b (a ∷ filter p (range_with_len (a + 1) n)) (filter p (range_with_len (a + 1) n))) v
    kept true c = contains_rest a v _ c
    kept false c = c

-- a node that is present is among the names
pub names_contains : (net : Network) (v : ℕ) → IsTrue (present net v) → Contains (names net) v
names_contains net v has =
    let bounds = present_range net v has in filter_has (present net) 1 net.size v bounds.0 (omega arith) has

-- the lower end comes first, and the two ends point at each other
pub record IsMutualPair (s : State) (e : ℕ × ℕ) : Type 0 where
  pub ordered : e.0 < e.1
  pub there : pointer s e.0 ≡ Some e.1
  pub back : pointer s e.1 ≡ Some e.0

-- each listed pair is a mutual pair
pub pair_from : (s : State) (e : ℕ × ℕ) → Contains (mutual_pairs s) e → IsMutualPair s e
pair_from s e c =
    let given = filter_map_from (λ v. pair_above v (partner s v)) (names s.network) e c in
    go given.0 (partner s given.0) refl given.1
  where
    go : (v : ℕ) (o : Option ℕ) → partner s v ≡ o → pair_above v o ≡ Some e → IsMutualPair s e
    go v None p h = absurd cc
    go v (Some w) p h =
        let both = partner_some s v w p in
        let parts = cond_some (nat_lt v w) (v, w) e h in
        subst (IsMutualPair s) parts.1 (record { ordered = ltb-true v w parts.0; there = both.0; back = both.1 })

-- two nodes that point at each other are a listed pair
pub pair_listed : (s : State) (v w : ℕ) → IsState s → v < w → pointer s v ≡ Some w → pointer s w ≡ Some v → Contains (mutual_pairs s) (v, w)
pair_listed s v w is_state below there back =
    let has = linked_present s.network v w is_state.is_network (pointer_linked s v w is_state there) in
    let given : pair_above v (partner s v) ≡ Some (v, w) = ap (pair_above v) (partner_from s v w is_state there back) ∙ cond-true (nat_lt v w) (Some (v, w)) None (lt-ltb v w below) in
    filter_map_contains (λ v. pair_above v (partner s v)) (names s.network) v (v, w) (names_contains s.network v has) given

-- the pair of a married node
pub pair_at : (s : State) (v w : ℕ) → IsState s → pointer s v ≡ Some w → pointer s w ≡ Some v → Any (λ f. (v ≡ f.0) ⊎ (v ≡ f.1)) (mutual_pairs s)
pair_at s v w is_state there back = grind (arith, linked_apart, pointer_linked, pair_listed, cases_order)
