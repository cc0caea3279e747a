-- Turns of clerks that roam: in each, one enabled node moves alone, if any is enabled.
use Rattle.std.specs.Prelude.{◌≡◌, ℕ, ◌%◌, List, [], ◌∷◌, length, slice_get, Option, None, Some}
use Rattle.rule_machine.specs.declared.choice.Item.{Item}
use Rattle.rule_machine.specs.declared.event.Event.{Event}
use Rattle.rule_machine.specs.declared.event.Event.TheVariants.{Step}
use Rattle.rule_machine.specs.State.{State}
use Rattle.rule_machine.specs.RuleTable.{RuleTable, enabled_names}
use Rattle.step_log.specs.declared.receipt.Receipt.{Receipt}
use Rattle.step_log.specs.RetainedLogs.{RetainedLog, kept_with, next_receipt}
use Rattle.locked_net.specs.declared.fault.CallFault.{CallFault}
use Rattle.locked_net.specs.Calls.{call_fault, checkpoint_fault, ExplainsCallFault}

-- the node whose turn it is, if any: of the n enabled nodes, ascending, the one at index `turn mod n`, from 0
abbrev pub mover : RuleTable → State → ℕ → Option ℕ
mover t s turn = slice_get (enabled_names t s) (turn % length (enabled_names t s))

-- a choice of this node alone, without a wish
abbrev pub lone_items : ℕ → List Item
lone_items v = record { node = v; wish = None } ∷ []

abbrev pub lone_step : ℕ → Event
lone_step v = Step (lone_items v)

-- the log after the step of a node; unchanged if there is no node
abbrev pub log_by : RuleTable → RetainedLog → Option ℕ → RetainedLog
log_by t log None = log
log_by t log (Some v) = kept_with t log (lone_step v)

-- the receipt of that step; no receipt if there is no node
abbrev pub receipts_by : RuleTable → RetainedLog → Option ℕ → List Receipt
receipts_by t log None = []
receipts_by t log (Some v) = next_receipt t log (lone_step v) ∷ []

-- Why that step is not recorded. Without a node a full log is no fault, as for a checkpoint; but a clerk that has
-- seen more than the log has is behind.
abbrev pub fault_by : ℕ → RetainedLog → Option ℕ → Option CallFault
fault_by seen log None = checkpoint_fault seen log
fault_by seen log (Some v) = call_fault seen log

-- the fault is that one; `Memory` only if there is a node and its step has no other fault
abbrev pub FaultBy : ℕ → RetainedLog → Option ℕ → CallFault → Type 0
FaultBy seen log None fault = checkpoint_fault seen log ≡ Some fault
FaultBy seen log (Some v) fault = ExplainsCallFault (call_fault seen log) fault

-- log, receipts and faults as above, for the node whose turn it is
abbrev pub log_after_turn : RuleTable → RetainedLog → ℕ → RetainedLog
log_after_turn t log turn = log_by t log (mover t log.state turn)

abbrev pub receipts_of_turn : RuleTable → RetainedLog → ℕ → List Receipt
receipts_of_turn t log turn = receipts_by t log (mover t log.state turn)

abbrev pub fault_of_turn : RuleTable → ℕ → RetainedLog → ℕ → Option CallFault
fault_of_turn t seen log turn = fault_by seen log (mover t log.state turn)

abbrev pub FaultInTurn : RuleTable → ℕ → RetainedLog → ℕ → CallFault → Type 0
FaultInTurn t seen log turn fault = FaultBy seen log (mover t log.state turn) fault
