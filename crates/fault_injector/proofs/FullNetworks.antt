-- If there are as many nodes as names, each name is a node.
use Rattle.std.proofs.Common.{◌≡◌, ℕ, ◌+◌, ◌<◌, ◌≤◌, suc, Bool, true, false, cond, filter, List, [], ◌∷◌, length, get_or, refl, sym, ap, ◌∙◌, arith}
use Rattle.std.specs.List.{range_with_len}
use Rattle.std.proofs.lemmas.List.FromFn.{length-range_with_len, get_or-range_with_len}
use Rattle.rule_machine.specs.Network.{Network, names, node_count, present}

few_kept : (p : ℕ → Bool) (xs : List ℕ) → length (filter p xs) ≤ length xs
few_kept p [] = omega arith
few_kept p (x ∷ xs) = step (p x) (few_kept p xs)
  where
    step : (b : Bool) → length (filter p xs) ≤ length xs → length (cond b (x ∷ filter p xs) (filter p xs)) ≤ suc (length xs)
    step true few = omega (arith, few)
    step false few = omega (arith, few)

all_kept : (p : ℕ → Bool) (xs : List ℕ) → length (filter p xs) ≡ length xs → filter p xs ≡ xs
all_kept p [] all = refl
all_kept p (x ∷ xs) all = step (p x) (all_kept p xs) (few_kept p xs) all
  where
    step : (b : Bool) → (length (filter p xs) ≡ length xs → filter p xs ≡ xs) → length (filter p xs) ≤ length xs → length (cond b (x ∷ filter p xs) (filter p xs)) ≡ suc (length xs) → cond b (x ∷ filter p xs) (filter p xs) ≡ x ∷ xs
    step true kept few more = ap (λ l. x ∷ l) (kept (omega (arith, more)))
    step false kept few more = absurd (omega (arith, more, few))

-- the name at a place is then the next number
pub name_at : (net : Network) (place : ℕ) → node_count net ≡ net.size → place < node_count net → get_or (names net) place 0 ≡ place + 1
name_at net place whole within =
    ap (λ l. get_or l place 0) (all_kept (present net) (range_with_len 1 net.size) (whole ∙ sym (length-range_with_len 1 net.size)))
    ∙ get_or-range_with_len 1 net.size place 0 (omega (arith, whole, within)) ∙ (let same : 1 + place ≡ place + 1 = omega arith in same)
