-- Rising numbers are distinct.
use Rattle.step_log.proofs.Prelude.{◌≡◌, ℕ, suc, ◌<◌, false, List, [], ◌∷◌, get_or, nat_eq, arith, IsStrictlyIncreasing, ne_eqb, recursion_from_All, AllPairs-from_increasing, rises_tail}
use Rattle.std.specs.List.{IsDistinct}

pub rising_distinct : (xs : List ℕ) → IsStrictlyIncreasing xs → IsDistinct nat_eq xs
unfolding IsDistinct
rising_distinct [] rises = tt
rising_distinct (x ∷ xs) rises = (
  recursion_from_All (λ y. nat_eq x y ≡ false) xs (λ k d below.
      let under : x < get_or xs k d = AllPairs-from_increasing (x ∷ xs) rises 0 (suc k) d (omega arith) (omega arith) in
      ne_eqb x (get_or xs k d) (λ e. omega (arith, under, e))),
  rising_distinct xs (rises_tail x xs rises),
)
