-- What `map_err` passes on, and the order of a rising list's places.
use Rattle.graph_store.proofs.Prelude.{◌≡◌, ℕ, ◌-◌, ◌<◌, ◌≤◌, List, length, get_or, Result, Ok, Err, IfOk, OnOk, MatchResult, sym, subst, arith, IsErrAnd, IsStrictlyIncreasing, IsGapFor, cases_lt, AllPairs-from_increasing}

-- what holds of an `Ok` holds of the value that `map_err` passed on
pub from_map_err : {T E F : Type 0} (P : T → Type 0) (r : Result T E) (v : Result T F) (x : T) (Q : E → F → Type 0) → v ≡ Ok x → MatchResult r (λ y. v ≡ Ok y) (λ e. IsErrAnd v (Q e)) → IfOk r P → P x
from_map_err P (Ok y) v x Q is passed h = let same : y ≡ x = cc in subst P same h
from_map_err P (Err d) v x Q is passed h = absurd (subst (λ w. IsErrAnd w (Q d)) is passed)

-- what follows from an `Ok` holds if `map_err` passed one on
pub on_ok_map_err : {T E F : Type 0} (P Q : Type 0) (r : Result T E) (v : Result T F) (R : E → F → Type 0) → MatchResult r (λ y. v ≡ Ok y) (λ e. IsErrAnd v (R e)) → (P → Q) → OnOk r P → OnOk v Q
on_ok_map_err P Q (Ok y) v R passed step h = subst (λ w. OnOk w Q) (sym passed) (step h)
on_ok_map_err P Q (Err d) (Ok x) R passed step h = absurd passed
on_ok_map_err P Q (Err d) (Err e) R passed step h = tt

-- what follows from an `Ok` holds after it
pub on_ok_weaker : {T E : Type 0} (P Q : Type 0) (r : Result T E) → (P → Q) → OnOk r P → OnOk r Q
on_ok_weaker P Q (Ok y) step h = step h
on_ok_weaker P Q (Err d) step h = tt

-- a later place of a rising list has no lower name
pub never_falls : (xs : List ℕ) → IsStrictlyIncreasing xs → (i j : ℕ) → i ≤ j → j < length xs → get_or xs i 0 ≤ get_or xs j 0
never_falls xs up i j le inside = grind (arith, AllPairs-from_increasing xs up i j 0, cases_lt)

-- a name belongs at a place of an ascending list if the name before it is lower and the name at it is higher
pub gap_here : (row : List ℕ) (name place : ℕ) → IsStrictlyIncreasing row → place ≤ length row → (0 < place → get_or row (place - 1) 0 < name) → (place < length row → name < get_or row place 0) → IsGapFor row name place
gap_here row name place up inside low high = grind (arith, never_falls row up)
