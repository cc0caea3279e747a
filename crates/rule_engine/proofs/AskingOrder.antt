-- The neighbours that ask for a node come before the first that does not.
use Rattle.rule_engine.proofs.Prelude.{◌≡◌, ◌≢◌, ℕ, ◌+◌, ◌<◌, ◌≤◌, Bool, true, false, ◌&&◌, ◌||◌, List, length, take, drop, get_or, nat_eq, sym, ap, ◌∙◌, subst, ⊎_elim, arith, or-false, list_any, IsStrictlyIncreasing, and_right, cases_eq, le-ltb, ltb-false, get_or_default, get_or-drop, length-drop, take-append-drop, list_any-append, list_any_none, AllPairs-from_increasing, IsStrictlyIncreasing-filter, Network, IsNetwork, linked, names, neighbours, State, RuleTable, names_increasing, asks_for, IsRefreshed}
use Rattle.rule_engine.proofs.GuardRefresh.{looked_alike, looked_neighbours}

-- if no later item passes, those so far settle the answer
any_so_far : (p : ℕ → Bool) (xs : List ℕ) (i : ℕ) → ((j d : ℕ) → i ≤ j → j < length xs → p (get_or xs j d) ≡ false) → list_any p (take i xs) ≡ list_any p xs
any_so_far p xs i none =
    let rest = list_any_none p (drop i xs) (λ k d there. ap p (get_or-drop i xs k d) ∙ none (i + k) d (omega arith) (omega (arith, length-drop i xs))) in
    sym (ap (list_any p) (sym (take-append-drop i xs)) ∙ list_any-append p (take i xs) (drop i xs) ∙ ap (λ b. list_any p (take i xs) || b) rest ∙ or-false (list_any p (take i xs)))

-- a node that does not ask for v is no lower than v, and so is every higher name
higher_ask_not : (above : Bool) (v w x : ℕ) → asks_for above w v ≡ false → w ≤ x → asks_for above x v ≡ false
higher_ask_not true v w x none higher = let low = ltb-false w v none in le-ltb x v (omega arith)
higher_ask_not false v w x none higher = absurd (let e : true ≡ false = none in cc)

-- from the first neighbour on that does not ask, none does
ask_no_more : (above : Bool) (net : Network) (v : ℕ) (c : ℕ → Bool) (list : List ℕ) (i w x : ℕ) → list ≡ neighbours net v → i < length list → w ≡ get_or list i w → asks_for above w v ≡ false → list_any (λ y. nat_eq x y && (asks_for above y v && c y)) (take i list) ≡ list_any (λ y. nat_eq x y && (asks_for above y v && c y)) list
ask_no_more above net v c list i w x all inside is none =
    any_so_far (λ y. nat_eq x y && (asks_for above y v && c y)) list i (
    λ j d later within.
    let y = get_or list j d in
    let there : get_or list i d ≡ get_or list i w = get_or_default list i d w inside in
    let higher : w ≤ y = ⊎_elim
    (λ (here : i ≡ j). let e = ap (λ n. get_or list n d) here in omega (arith, e, there, is))
    (λ (apart : i ≢ j). let lt = AllPairs-from_increasing list rising i j d (omega arith) within in omega (arith, lt, there, is))
    (cases_eq i j) in
    and_right (nat_eq x y) (asks_for above y v && c y) (ap (λ b. b && c y) (higher_ask_not above v w y none higher))
    )
  where
    rising : IsStrictlyIncreasing list
    rising = subst IsStrictlyIncreasing (sym all) (IsStrictlyIncreasing-filter (linked net v) (names net) (names_increasing net))

-- so looks at those that ask before it are looks at all that do
pub looked_below : (t : RuleTable) (s : State) (above : Bool) (v : ℕ) (c : ℕ → Bool) (list : List ℕ) (i w : ℕ) (a b : List Bool) → IsNetwork s.network → list ≡ neighbours s.network v → i < length list → w ≡ get_or list i w → asks_for above w v ≡ false → IsRefreshed t s (λ x. list_any (λ y. nat_eq x y && (asks_for above y v && c y)) (take i list)) a b → IsRefreshed t s (λ x. linked s.network v x && (asks_for above x v && c x)) a b
looked_below t s above v c list i w a b good all inside is none looked =
    looked_neighbours t s v (λ y. asks_for above y v && c y) list a b good all
    (looked_alike t s (λ x. list_any (λ y. nat_eq x y && (asks_for above y v && c y)) (take i list)) (λ x. list_any (λ y. nat_eq x y && (asks_for above y v && c y)) list) a b
    (λ x. ask_no_more above s.network v c list i w x all inside is none) looked)
