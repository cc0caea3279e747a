-- How many moves a run can still make: none in silence, else at most the charge, and at most a bound by the
-- number of nodes alone.
use Rattle.std.specs.Prelude.{◌≡◌, ℕ, ◌≤◌, min, List, [], ◌∷◌, Option, None, Some}
use Rattle.rule_machine.specs.Network.{node_count}
use Rattle.rule_machine.specs.State.{State, IsState}
use Rattle.rule_machine.specs.RuleTable.{RuleTable, enabled_names}
use Rattle.rule_machine.specs.Run.{Entry, Moment, Run}
use Rattle.machine_laws.specs.ChargeWords.{moves_in, IsUndisturbed}

-- the smaller of the two bounds, or the charge if there is no other
abbrev pub smaller_bound : ℕ → Option ℕ → ℕ
smaller_bound charge None = charge
smaller_bound charge (Some most) = min charge most

-- nothing if no node is enabled
abbrev pub bound_if_any : List ℕ → ℕ → ℕ
bound_if_any [] bound = 0
bound_if_any (v ∷ enabled) bound = bound

-- how many moves can still come: none in silence, else at most the smaller of the charge and the bound by
-- nodes
abbrev pub moves_left : RuleTable → (ℕ → Option ℕ) → State → ℕ
moves_left t most s = bound_if_any (enabled_names t s) (smaller_bound (t.charge s) (most (node_count s.network)))

-- no run from s without a disturbance has more moves than the bound
abbrev pub BoundsMoves : RuleTable → State → ℕ → ℕ → Type 0
BoundsMoves t s spent bound =
    (log : List Entry) (end : Moment) → Run t (record { state = s; spent = spent }) log end → IsUndisturbed log → moves_in log ≤ bound

-- if `most` gives a bound for a number of nodes, the bound holds for runs from any state with that many
-- nodes
abbrev pub BoundsByNodes : RuleTable → (ℕ → Option ℕ) → Type 0
BoundsByNodes t most =
    (s : State) (spent : ℕ) → IsState s → (bound : ℕ) → most (node_count s.network) ≡ Some bound → BoundsMoves t s spent bound
