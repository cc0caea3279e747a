-- The potential in numbers. With k unmarried nodes, f of them idle and c of them stuck it is k² - 2k + 4c +
-- 2f, twice the moves that a run can still cost. Both sides of each line are written without subtraction.
use Rattle.dense_laws.proofs.Prelude.{◌≡◌, ℕ, ◌+◌, ◌*◌, ◌-◌, ◌<◌, ◌≤◌, ap, arith, cases_lt}

-- it is lower afterwards, by the room at least
abbrev pub Falls : ℕ → ℕ → ℕ → ℕ → ℕ → ℕ → ℕ → Type 0
Falls room k c f k' c' f' = k' * k' + 4 * c' + 2 * f' + 2 * k + room ≤ k * k + 4 * c + 2 * f + 2 * k'

square_same : (k k' : ℕ) → k' ≡ k → k' * k' ≡ k * k
square_same k k' same = ap (λ x. x * x) same

-- the number of unmarried nodes stays
pub falls_beside : (room k c f k' c' f' : ℕ) → k' ≡ k → 4 * c' + 2 * f' + room ≤ 4 * c + 2 * f → Falls room k c f k' c' f'
falls_beside room k c f k' c' f' same less = let square = square_same k k' same in omega (arith, square, same, less)

square_more : (k d : ℕ) → (k + d) * (k + d) ≡ k * k + 2 * (k * d) + d * d
square_more k d = omega arith

-- two nodes marry: what may become stuck then is paid by the squares
pub falls_by_two : (k f k' c' f' : ℕ) → k' + 2 ≤ k → f' + c' ≤ k' → 1 ≤ f → k' * k' + 4 * c' + 2 * f' + 2 * k + 2 ≤ k * k + 2 * f + 2 * k'
falls_by_two k f k' c' f' pair most idle =
    let d = k - (k' + 2) in
    let split : k ≡ k' + (2 + d) = omega arith in
    let square = square_same (k' + (2 + d)) k split in
    let opened = square_more k' (2 + d) in
    let cross : k' * (2 + d) ≡ 2 * k' + k' * d = omega arith in
    let own = square_more 2 d in
    omega (arith, split, square, opened, cross, own, pair, most, idle)

-- ---- from a state, with n nodes

square_le : (k n : ℕ) → k ≤ n → k * k + 2 * k ≤ n * n + 2 * n
square_le k n most = grind (arith, square_same, square_more)

pub most_at_all : (k c f n : ℕ) → f + c ≤ k → k ≤ n → k * k + 4 * c + 2 * f ≤ n * n + 2 * n + 2 * k
most_at_all k c f n parts most = let square = square_le k n most in omega (arith, square, parts)

-- a pair is there
pub most_with_pair : (k c f n : ℕ) → f + c ≤ k → k + 2 ≤ n → k * k + 4 * c + 2 * f + 4 ≤ n * n + 2 * n + 2 * k
most_with_pair k c f n parts most = grind (arith, square_le, square_more)

-- a node hopes, so that one is idle
pub most_with_hope : (k c f n : ℕ) → f + c + 1 ≤ k → 1 ≤ f → k ≤ n → k * k + 4 * c + 2 * f + 4 ≤ n * n + 2 * n + 2 * k
most_with_hope k c f n parts idle most = let square = square_le k n most in omega (arith, square, parts, idle)

-- all unmarried nodes are idle
pub most_idle : (k f n : ℕ) → f ≤ k → k ≤ n → 2 ≤ n → k * k + 2 * f + 4 ≤ n * n + 2 * n + 2 * k
most_idle k f n parts most two = grind (arith, square_same, square_more)

-- ---- at the end it is not below zero

pub least : (k c f : ℕ) → (1 ≤ k → 1 ≤ f + c) → 2 * k ≤ k * k + 4 * c + 2 * f
least k c f some = grind (arith, square_same, cases_lt, square_more)

-- two are stuck
pub least_stuck : (k c f : ℕ) → 2 ≤ c → 2 * k + 4 ≤ k * k + 4 * c + 2 * f
least_stuck k c f two = grind (arith, square_same, square_more, cases_lt)

-- ---- one fall after another, where high and low are the two sides

pub falls_on : (a b room hs ls hm lm he le : ℕ) → 2 * a + hm + ls ≤ hs + lm → 2 * b + he + lm + room ≤ hm + le → 2 * (a + b) + he + ls + room ≤ hs + le
falls_on a b room hs ls hm lm he le first second = omega arith

-- one node
pub most_alone : (k f : ℕ) → f ≤ k → k < 2 → k * k + 2 * f ≤ 2 * k + 1
most_alone k f parts few = grind (arith, square_same, cases_lt)
