-- Places that occur once.
use Rattle.std.specs.Prelude.{◌≡◌, ◌≤◌, ℕ, List, map, if◌then◌else◌, nat_eq, nat_lt}
use Rattle.std.specs.List.{count_by}
use Rattle.rule_machine.specs.declared.verdict.Verdict.{Verdict}

-- how often a place occurs in the list
abbrev pub times : ℕ → List ℕ → ℕ
times place places = count_by (nat_eq place) places

-- these are places below the count, each at most once
abbrev pub StandOnce : ℕ → List ℕ → Type 0
StandOnce count places = (place : ℕ) → times place places ≤ (if nat_lt place count then 1 else 0)

-- these are all places below the count, each once
abbrev pub AllStandOnce : ℕ → List ℕ → Type 0
AllStandOnce count places = (place : ℕ) → times place places ≡ (if nat_lt place count then 1 else 0)

-- the place of each verdict
abbrev pub places_of : List Verdict → List ℕ
places_of verdicts = map (λ verdict. verdict.place) verdicts
