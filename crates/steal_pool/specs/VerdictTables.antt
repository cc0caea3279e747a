-- Verdicts laid out by place.
use Rattle.std.specs.Prelude.{◌≡◌, ℕ, ◌+◌, ◌-◌, ◌<◌, List, [], ◌∷◌, length, slice_get, slice_set, All}
use Rattle.std.specs.List.{sum_by}
use Rattle.steal_pool.specs.declared.deque.ledger.Ledger.{Ledger}
use Rattle.steal_pool.specs.declared.deque.end.DequeEnd.{DequeEnd}
use Rattle.steal_pool.specs.Ends.{end_taken}
use Rattle.rule_machine.specs.declared.verdict.Verdict.{Verdict}

-- the table with each verdict written at its place
abbrev pub laid : List Verdict → List Verdict → List Verdict
laid table [] = table
laid table (verdict ∷ verdicts) = laid (slice_set table verdict.place verdict) verdicts

-- each verdict has a place in a table of this length
abbrev pub HavePlacesBelow : ℕ → List Verdict → Type 0
HavePlacesBelow size verdicts = All (λ verdict. verdict.place < size) verdicts

-- 1 at k, else 0
abbrev pub at_place : ℕ → ℕ → ℕ
at_place k y = 1 - ((y - k) + (k - y))

-- how often a place was taken, by these ends or by the ends that a ledger has joined
abbrev pub taken_by : List DequeEnd → ℕ → ℕ
taken_by ends k = sum_by (λ e. sum_by (at_place k) (end_taken e)) ends

abbrev pub taken_in : Ledger → ℕ → ℕ
taken_in v k = sum_by (at_place k) v.taken

-- the table has a place for each of all verdicts, and the right verdict at each place that was taken
pub record IsVerdictTable (all table : List Verdict) (times : ℕ → ℕ) : Type 0 where
  pub size : length table ≡ length all
  pub right : (k : ℕ) → k < length all → 0 < times k → slice_get table k ≡ slice_get all k

-- if `old` is right, `new` is right with these places added
abbrev pub IsRightWith : List Verdict → List ℕ → List Verdict → List Verdict → Type 0
IsRightWith all places old new = (times : ℕ → ℕ) → IsVerdictTable all old times → IsVerdictTable all new (λ k. times k + sum_by (at_place k) places)
