-- Counts and sums that grow by one name, and what they come to.
use Rattle.rule_engine.proofs.Prelude.{◌≡◌, ℕ, ◌+◌, ◌*◌, ◌≤◌, Bool, cond, count_by, sum_by, arith, mul-le, Network, names, node_count, edge_count, edge_list, State, is_unanswered, ends_open, charge_bound, sum_add, node_part}

-- what was counted comes to the charge
pub charge_counted : (courted_close : Bool) (closes : ℕ → Bool) (adds : ℕ → ℕ) (s : State) (charge open_ones added closing : ℕ) → charge + 2 * count_by closes (names s.network) ≡ 2 * count_by (ends_open courted_close s) (edge_list s.network) + count_by (is_unanswered s) (names s.network) + sum_by adds (names s.network) → open_ones ≡ count_by (ends_open courted_close s) (edge_list s.network) → added ≡ sum_by (node_part adds s) (names s.network) → closing ≡ count_by closes (names s.network) → charge + 2 * closing ≡ 2 * open_ones + added
charge_counted courted_close closes adds s charge open_ones added closing law opened add close =
    let parts = sum_add (λ v. cond (is_unanswered s v) 1 0) adds (names s.network) in
    omega (arith, law, opened, parts, add, close)

-- what is within the bound fits 32 bits
pub bound_fits : (weight : ℕ) (net : Network) → weight ≤ 3 → node_count net ≤ 65535 → edge_count net ≤ 1048576 → charge_bound weight net ≤ 2293757
bound_fits weight net light nodes edges = let most = mul-le weight (node_count net) 3 65535 light nodes in omega (arith, most)
