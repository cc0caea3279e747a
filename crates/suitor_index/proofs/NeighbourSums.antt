-- Sums over the neighbours of a node.
use Rattle.suitor_index.proofs.Prelude.{◌≡◌, ◌≢◌, ℕ, ◌+◌, ◌≤◌, true, cond, nat_eq, IsTrue, sym, ap, ap₂, ◌∙◌, arith, ◌&&◌, sum_by, list_any, both_ways, IsStrictlyIncreasing, and_parts, eqb-true, IsStrictlyIncreasing-filter, any-filter_same, Network, IsNetwork, linked, neighbours, names, present, linked_back, linked_present, names_increasing, sum_by-le, get_or, names_contains, names_without_repeats, nat_eq_equiv, in_names, list_any-from_Contains, few_neighbours, sum_agree}
use Rattle.suitor_index.proofs.Sums.{sum_filter, sum_turn}

-- the term of a name that may be a neighbour
abbrev pub term : Network → ℕ → (ℕ → ℕ) → ℕ → ℕ
term net k f x = cond (linked net k x) (f x) 0

-- sums over the neighbours that k has in two networks of the same nodes whose terms differ at one name
pub near_turn : (net net' : Network) (k v : ℕ) (f g : ℕ → ℕ) → names net ≡ names net' → IsTrue (present net v) → ((x : ℕ) → x ≢ v → term net k f x ≡ term net' k g x) → sum_by f (neighbours net k) + term net' k g v ≡ sum_by g (neighbours net' k) + term net k f v
near_turn net net' k v f g nodes here same =
    let one = sum_filter f (linked net k) (names net) in
    let two = sum_filter g (linked net' k) (names net') ∙ ap (sum_by (term net' k g)) (sym nodes) in
    let turn = sum_turn (term net k f) (term net' k g) v (names net) (names_without_repeats net) (in_names net v here) same in
    omega (arith, one, two, turn)

-- and those whose terms don't differ
pub near_same : (net net' : Network) (k : ℕ) (f g : ℕ → ℕ) → names net ≡ names net' → ((x : ℕ) → term net k f x ≡ term net' k g x) → sum_by f (neighbours net k) ≡ sum_by g (neighbours net' k)
near_same net net' k f g nodes same =
    sum_filter f (linked net k) (names net) ∙ sum_agree (term net k f) (term net' k g) same (names net)
    ∙ ap (sum_by (term net' k g)) nodes ∙ sym (sum_filter g (linked net' k) (names net'))

-- a count is at most the number of names
pub near_ones : (net : Network) (k : ℕ) (f : ℕ → ℕ) → ((x : ℕ) → f x ≤ 1) → sum_by f (neighbours net k) ≤ net.size
near_ones net k f few = omega (arith, sum_by-le f 1 (neighbours net k) (λ j d _. few (get_or (neighbours net k) j d)), few_neighbours net k)

-- the neighbours rise
pub neighbours_rise : (net : Network) (v : ℕ) → IsStrictlyIncreasing (neighbours net v)
neighbours_rise net v = IsStrictlyIncreasing-filter (linked net v) (names net) (names_increasing net)

-- the names in a node's list of neighbours are those that it is linked to
listed_is : (net : Network) (v k : ℕ) → list_any (nat_eq k) (neighbours net v) ≡ (linked net v k && list_any (nat_eq k) (names net))
listed_is net v k = any-filter_same (nat_eq k) (linked net v) (linked net v k) (λ x same. ap (linked net v) (sym (eqb-true k x same))) (names net)

pub listed_linked : (net : Network) (v k : ℕ) → list_any (nat_eq k) (neighbours net v) ≡ true → IsTrue (linked net v k)
listed_linked net v k h = (and_parts (linked net v k) (list_any (nat_eq k) (names net)) (sym (listed_is net v k) ∙ h)).0

pub listed_is_linked : (net : Network) (v k : ℕ) → IsNetwork net → list_any (nat_eq k) (neighbours net v) ≡ linked net v k
listed_is_linked net v k is_network = both_ways _ _ (listed_linked net v k) (λ h.
    let named = list_any-from_Contains nat_eq_equiv k (names net) (names_contains net k (linked_present net k v is_network (linked_back net k v ∙ h))) in
    listed_is net v k ∙ ap₂ (λ s t. s && t) h named)
