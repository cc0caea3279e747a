-- Lists and sums over the names of a network's nodes, by a scan of all names up to its capacity.
use Rattle.net_totals.proofs.Prelude.{◌≡◌, ℕ, ◌≤◌, Bool, false, cond, ◌&&◌, List, [], ◌∷◌, filter, filter_map, sum_by, Option, None, refl, sym, ap, ◌∙◌, arith, range_with_len, true≢false, length-range_with_len, count_by-le-length, length-filter, Network, names, present, node_count, State, IsState, partner, is_mutual, mutual_pairs, pair_above, linked_present, near_fails, sum_filter, answered_by}
use Rattle.net_totals.proofs.Partners.{partner_answered}

-- what passes both of two filters
pub kept_twice : (p q : ℕ → Bool) (xs : List ℕ) → filter p (filter q xs) ≡ filter (λ x. q x && p x) xs
kept_twice p q [] = refl
kept_twice p q (x ∷ xs) = let rest = kept_twice p q xs in grind arith

-- there are at most as many nodes as names
pub few_names : (net : Network) → node_count net ≤ net.size
few_names net =
    let kept = length-filter (present net) (range_with_len 1 net.size) in
    let most = count_by-le-length (present net) (range_with_len 1 net.size) in
    let all = length-range_with_len 1 net.size in
    omega (arith, kept, most, all)

-- a sum over the nodes, as a scan of all names makes it
pub names_sum : (f : ℕ → ℕ) (net : Network) → sum_by f (names net) ≡ sum_by (λ v. cond (present net v) (f v) 0) (range_with_len 1 net.size)
names_sum f net = sum_filter f (present net) (range_with_len 1 net.size)

-- a filter keeps all that is found if the others have no result
pub found_kept : {X : Type 0} (f : ℕ → Option X) (p : ℕ → Bool) → ((v : ℕ) → p v ≡ false → f v ≡ None) → (xs : List ℕ) → filter_map f (filter p xs) ≡ filter_map f xs
found_kept f p none [] = refl
found_kept f p none (x ∷ xs) =
    let rest = found_kept f p none xs in
    let nothing = none x in
    grind arith

-- an absent node has no partner
absent_unmarried : (s : State) (v : ℕ) → IsState s → present s.network v ≡ false → partner s v ≡ None
absent_unmarried s v good absent =
    near_fails s.network (is_mutual s v) v (λ w linked. absurd (true≢false (sym (linked_present s.network v w good.is_network linked) ∙ absent)))

-- so all names have the mutual pairs
pub pairs_scanned : (s : State) → IsState s → mutual_pairs s ≡ filter_map (λ v. pair_above v (answered_by s.registers v)) (range_with_len 1 s.network.size)
pairs_scanned s good =
    found_kept (λ v. pair_above v (partner s v)) (present s.network) (λ v absent. ap (pair_above v) (absent_unmarried s v good absent)) (range_with_len 1 s.network.size)
    ∙ (λ i. filter_map (λ v. pair_above v (partner_answered s v good i)) (range_with_len 1 s.network.size))
