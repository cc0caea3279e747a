-- The laws of a charge, for a table of rules and the weight of a node: the contracts of the functions of src/.
use Rattle.std.specs.Prelude.{◌≡◌, ℕ, ◌+◌, ◌*◌, ◌≤◌, List, [], length, All}
use Rattle.rule_machine.specs.declared.base.Base.{Base}
use Rattle.rule_machine.specs.declared.event.Event.{Event}
use Rattle.rule_machine.specs.Base.{base_of, IsBaseMoment}
use Rattle.rule_machine.specs.State.{State, IsState, opening_with}
use Rattle.rule_machine.specs.RuleTable.{RuleTable, enabled_names}
use Rattle.rule_machine.specs.Stable.{IsStable, mutual_pairs}
use Rattle.rule_machine.specs.Run.{Entry, Moment, Run, beginning_with, epoch_at, epochs_from}
use Rattle.machine_laws.specs.HalfMatchings.{IsMatching}
use Rattle.machine_laws.specs.ChargeWords.{charge_bound, moves_in, steps_in, IsUndisturbed}
use Rattle.machine_laws.specs.Costs.{path_cost, end_of_path, path_entries}
use Rattle.machine_laws.specs.Epochs.{IsPath, IsBoundedEpoch}
use Rattle.machine_laws.specs.SilentRuns.{IsDriven}

-- ---- runs without a disturbance

-- This holds of each run without a disturbance, from any state, whatever the daemon chooses.
abbrev pub HoldsOfRuns : RuleTable → (Moment → List Entry → Moment → Type 0) → Type 0
HoldsOfRuns t P =
    (start : Moment) → IsState start.state → (log : List Entry) (end : Moment) → Run t start log end → IsUndisturbed log → P start log end

-- The moves are at most twice the edges plus the weight of each node.
abbrev pub MovesAreBounded : RuleTable → ℕ → Type 0
MovesAreBounded t weight = HoldsOfRuns t (λ start log end. moves_in log ≤ charge_bound weight start.state.network)

-- The moves plus the charge left are at most the charge at the start, and that is within the bound.
abbrev pub MovesArePaid : RuleTable → ℕ → Type 0
MovesArePaid t weight =
    HoldsOfRuns t (λ start log end. (moves_in log + t.charge end.state ≤ t.charge start.state) × (t.charge start.state ≤ charge_bound weight start.state.network))

-- After as many moves as the charge at the start, the network is stable.
abbrev pub EnoughMovesSettle : RuleTable → Type 0
EnoughMovesSettle t = HoldsOfRuns t (λ start log end. t.charge start.state ≤ moves_in log → IsStable t.flags end.state)

-- After as many accepted steps as the charge at the start, the network is stable.
abbrev pub EnoughStepsSettle : RuleTable → Type 0
EnoughStepsSettle t = HoldsOfRuns t (λ start log end. t.charge start.state ≤ steps_in log → IsStable t.flags end.state)

-- After as many moves as the charge at the start, no matching has more than twice as many edges as there are
-- mutual pairs.
abbrev pub EnoughMovesGiveHalf : RuleTable → Type 0
EnoughMovesGiveHalf t =
    HoldsOfRuns t (λ start log end. t.charge start.state ≤ moves_in log → (other : List (ℕ × ℕ)) → IsMatching end.state.network other → length other ≤ 2 * length (mutual_pairs end.state))

-- ---- runs from the opening state or a base, with disturbances

-- The moves since the last accepted disturbance plus the charge are within the bound.
abbrev pub SpendingIsBounded : RuleTable → ℕ → Type 0
SpendingIsBounded t weight =
    (size count : ℕ) (log : List Entry) (end : Moment) → Run t (beginning_with size count) log end → end.spent + t.charge end.state ≤ charge_bound weight end.state.network

-- Each epoch is within its bound, the first and the last included.
abbrev pub EpochsAreBounded : RuleTable → ℕ → Type 0
EpochsAreBounded t weight =
    (size count : ℕ) (path : List (Entry × State)) → IsPath t (beginning_with size count) path → All (IsBoundedEpoch weight) (epochs_from 1 (epoch_at 0 (opening_with size count)) path)

-- Each moment of a run from the opening state gives a valid base.
abbrev pub RunsMayBegin : RuleTable → ℕ → Type 0
RunsMayBegin t weight =
    (size count number : ℕ) (log : List Entry) (end : Moment) → Run t (beginning_with size count) log end → IsBaseMoment t (charge_bound weight) size (base_of number end) end

-- Each moment of a run from a valid base gives a valid base.
abbrev pub RunsMayGoOn : RuleTable → ℕ → Type 0
RunsMayGoOn t weight =
    (size number : ℕ) (base : Base) (start : Moment) → IsBaseMoment t (charge_bound weight) size base start
    → (log : List Entry) (end : Moment) → Run t start log end → IsBaseMoment t (charge_bound weight) size (base_of number end) end

-- From any state: the moves plus the charge left are at most the charge at the start plus the costs.
abbrev pub DisturbedMovesArePaid : RuleTable → (State → Event → ℕ) → Type 0
DisturbedMovesArePaid t cost =
    (start : Moment) → IsState start.state → (path : List (Entry × State)) → IsPath t start path
    → moves_in (path_entries path) + t.charge (end_of_path start.state path) ≤ t.charge start.state + path_cost cost start.state path

-- ---- silence

-- A silent network is silent until a disturbance.
abbrev pub SilenceLasts : RuleTable → Type 0
SilenceLasts t =
    (start : Moment) → IsState start.state → enabled_names t start.state ≡ [] → (path : List (Entry × State)) → IsPath t start path
    → IsUndisturbed (path_entries path) → enabled_names t (end_of_path start.state path) ≡ []

-- A driven path without a disturbance that has as many entries as the charge at its start ends silent.
abbrev pub LongRunsEndSilent : RuleTable → Type 0
LongRunsEndSilent t =
    (start : Moment) → IsState start.state → (path : List (Entry × State)) → IsPath t start path → IsUndisturbed (path_entries path)
    → IsDriven t start.state path → t.charge start.state ≤ length path → enabled_names t (end_of_path start.state path) ≡ []
