-- A pass over a list that writes each element anew.
use Rattle.std.proofs.Common.{◌≡◌, ℕ, zero, suc, ◌+◌, ◌<◌, List, [], ◌∷◌, ◌++◌, length, map, take, drop, get_or, set, refl, ap, arith, add-one}

-- the list after the first elements are written
abbrev pub passed : {X : Type 0} → (X → X) → List X → ℕ → List X
passed f xs k = map f (take k xs) ++ drop k xs

-- the next element is as it was
pub passed_next : {X : Type 0} (f : X → X) (xs : List X) (k : ℕ) (d : X) → get_or (passed f xs k) k d ≡ get_or xs k d
passed_next f [] zero d = refl
passed_next f [] (suc k) d = refl
passed_next f (x ∷ xs) zero d = refl
passed_next f (x ∷ xs) (suc k) d = passed_next f xs k d

-- one more element
pub passed_more : {X : Type 0} (f : X → X) (xs : List X) (k : ℕ) (d : X) → k < length xs → set (passed f xs k) k (f (get_or xs k d)) ≡ passed f xs (k + 1)
passed_more f xs k d within = rw add-one (go f xs k d within) where
  go : {X : Type 0} (f : X → X) (xs : List X) (k : ℕ) (d : X) → k < length xs → set (passed f xs k) k (f (get_or xs k d)) ≡ passed f xs (suc k)
  go f [] k d within = absurd (omega arith)
  go f (x ∷ xs) zero d within = refl
  go f (x ∷ xs) (suc k) d within = ap (λ rest. f x ∷ rest) (go f xs k d (omega (arith, within)))
