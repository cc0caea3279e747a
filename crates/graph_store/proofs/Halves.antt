-- The place of a name, looked for by halves.
use Rattle.graph_store.proofs.Prelude.{◌≡◌, ℕ, suc, ◌+◌, ◌-◌, ◌/◌, ◌^◌, ◌<◌, ◌≤◌, true, false, List, get_or, subst, arith, pow-succ', is_lt, nat_cmp, IsStrictlyIncreasing, nat_tests, AllPairs-from_increasing, IsPartFor}
use Rattle.graph_store.proofs.Results.{never_falls}

-- what the order of two names says
pub in_order : (a b : ℕ) → is_lt (nat_cmp a b) ≡ true → a < b
in_order a b h = grind (arith, nat_tests)

pub out_of_order : (a b : ℕ) → is_lt (nat_cmp a b) ≡ false → b ≤ a
out_of_order a b h = grind (arith, nat_tests)

-- the upper half, if the name in the middle is not above
pub upper_half : (row : List ℕ) (name start size : ℕ) → IsStrictlyIncreasing row → IsPartFor row name start size → get_or row (start + size / 2) 0 ≤ name → IsPartFor row name (start + size / 2) (size - size / 2)
upper_half row name start size up part low = grind (arith, AllPairs-from_increasing row up)

-- the lower half, if it is
pub lower_half : (row : List ℕ) (name start size : ℕ) → IsStrictlyIncreasing row → IsPartFor row name start size → name < get_or row (start + size / 2) 0 → IsPartFor row name start (size - size / 2)
lower_half row name start size up part high = grind (arith, never_falls row up)

-- after each turn a part is at most half as long
pub halved : (turn size half : ℕ) → turn < 6 → size ≤ 2 ^ (6 - turn) → half ≡ size - size / 2 → half ≤ 2 ^ (6 - (turn + 1))
halved turn size half lt le is =
    let next : 6 - turn ≡ suc (6 - (turn + 1)) = omega arith in
    let all : size ≤ 2 ^ suc (6 - (turn + 1)) = subst (λ n. size ≤ 2 ^ n) next le in
    let two = pow-succ' 2 (6 - (turn + 1)) in
    omega (arith, all, two, is)
