-- How many edges are at a name.
use Rattle.reply_checker.proofs.Prelude.{◌≡◌, ℕ, ◌≤◌, false, is_some, sym, ap, ◌∙◌, arith, range_with_len, true≢false, false_from_ne_true, length-range_with_len, count_by-le-length, length-filter, Network, IsNetwork, names, present, linked, State, IsState, suits, has_suitor, linked_present, near_fails, degree, none_count}

-- at most as many as names
pub few_edges : (net : Network) (v : ℕ) → net.size ≤ 65535 → degree net v ≤ 65535
few_edges net v few =
    let near = length-filter (linked net v) (names net) in
    let most = count_by-le-length (linked net v) (names net) in
    let kept = length-filter (present net) (range_with_len 1 net.size) in
    let named = count_by-le-length (present net) (range_with_len 1 net.size) in
    let all = length-range_with_len 1 net.size in
    omega (arith, few, near, most, kept, named, all)

-- none if no node has it
absent_alone : (net : Network) (v w : ℕ) → IsNetwork net → present net v ≡ false → linked net v w ≡ false
absent_alone net v w good absent =
    false_from_ne_true (linked net v w) (λ near. true≢false (sym (linked_present net v w good near) ∙ absent))

pub no_edges : (s : State) (v : ℕ) → IsState s → present s.network v ≡ false → degree s.network v ≡ 0
no_edges s v good absent =
    length-filter (linked s.network v) (names s.network)
    ∙ none_count (linked s.network v) (names s.network) (λ w there. absent_alone s.network v w good.is_network absent)

pub no_suitor : (s : State) (v : ℕ) → IsState s → present s.network v ≡ false → has_suitor s v ≡ false
no_suitor s v good absent =
    ap is_some (near_fails s.network (suits s v) v (λ w near. absurd (true≢false (sym (linked_present s.network v w good.is_network near) ∙ absent))))
