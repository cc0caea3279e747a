-- What a reader's answer says of the log.
use Rattle.std.specs.Prelude.{◌≡◌, ℕ, ◌+◌, List, Result, Ok, Err}
use Rattle.rule_machine.specs.State.{State}
use Rattle.rule_machine.specs.RuleTable.{RuleTable}
use Rattle.rule_machine.specs.Run.{Entry, Moment, Run}
use Rattle.snapshots.specs.Row.{BoardShape}
use Rattle.snapshots.specs.Starts.{StartsAt}
use Rattle.locked_net.specs.declared.fault.ReadFault.{ReadFault}
use Rattle.locked_net.specs.declared.fault.ReadFault.TheVariants.{UnknownNode, NoView}

-- The entries seen are a run of the rules with one name fewer than places. The run begins at the board's base;
-- without one, at the opening state with the board's first nodes present. P is true of the state at the run's
-- end.
abbrev pub Shows : RuleTable → BoardShape → List Entry → (State → Type 0) → Type 0
Shows t extent seen P =
    (size : ℕ) × (start : Moment) × (end : Moment) × (extent.places ≡ size + 1) × StartsAt t size extent.present extent.base start × Run t start seen end × P end.state

-- P is true if there was a view: if there is an answer, or if no node has the name
abbrev pub OnView : {A : Type 0} → Result A ReadFault → Type 0 → Type 0
OnView (Ok answer) P = P
OnView (Err (UnknownNode front)) P = P
OnView (Err NoView) P = Unit {0}

-- if no node has the name, P is true of the number of the view's last entry
abbrev pub IfUnknown : {A : Type 0} → Result A ReadFault → (ℕ → Type 0) → Type 0
IfUnknown (Ok answer) P = Unit {0}
IfUnknown (Err (UnknownNode front)) P = P front
IfUnknown (Err NoView) P = Unit {0}
