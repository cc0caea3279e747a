-- Counts over the neighbours of a node, and over all nodes.
use Rattle.std.proofs.Common.{◌≡◌, ℕ, ◌+◌, ◌≤◌, Bool, true, false, cond, ◌&&◌, List, [], ◌∷◌, count_by, filter, length, refl, sym, ap, ◌∙◌, arith}
use Rattle.std.specs.List.{range_with_len}
use mir.Val.{bool_byte}
use Rattle.std.proofs.lemmas.List.FromFn.{length-range_with_len}
use Rattle.std.proofs.lemmas.List.Sums.{sum_by-cons, count_by-le-length, length-filter}
use Rattle.rule_machine.specs.Network.{Network, linked, names, neighbours, present}

filter_step : (p : ℕ → Bool) (x : ℕ) (kept : List ℕ) (n : ℕ) (b : Bool) → count_by p kept ≡ n → count_by p (cond b (x ∷ kept) kept) ≡ cond (b && p x) 1 0 + n
filter_step p x kept n true rest = sum_by-cons (λ y. cond (p y) 1 0) x kept ∙ ap (λ m. cond (p x) 1 0 + m) rest
filter_step p x kept n false rest = omega (arith, rest)

count_filter : (p q : ℕ → Bool) (xs : List ℕ) → count_by p (filter q xs) ≡ count_by (λ x. q x && p x) xs
count_filter p q [] = refl
count_filter p q (x ∷ xs) = filter_step p x (filter q xs) _ (q x) (count_filter p q xs) ∙ sym (sum_by-cons (λ y. cond (q y && p y) 1 0) x xs)

-- those of the neighbours that pass a test are the nodes that are linked and pass it
pub near_count : (net : Network) (p : ℕ → Bool) (v : ℕ) → count_by p (neighbours net v) ≡ count_by (λ w. linked net v w && p w) (names net)
near_count net p v = count_filter p (linked net v) (names net)

pub few_bytes : (b : Bool) → bool_byte b ≤ 1
few_bytes true = omega arith
few_bytes false = omega arith

-- a node has no more neighbours than there are names
pub few_near : (net : Network) (v : ℕ) → length (neighbours net v) ≤ net.size
few_near net v =
    let kept = length-filter (linked net v) (names net) in
    let most = count_by-le-length (linked net v) (names net) in
    let nodes = length-filter (present net) (range_with_len 1 net.size) in
    let few = count_by-le-length (present net) (range_with_len 1 net.size) in
    let all = length-range_with_len 1 net.size in
    omega (arith, kept, most, nodes, few, all)
