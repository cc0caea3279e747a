-- The receipts after a call, and the faults of calls.
use Rattle.std.specs.Prelude.{◌≡◌, ℕ, zero, suc, ◌<◌, List, [], ◌∷◌, ◌++◌, length, Option, None, Some, if◌then◌else◌, nat_eq, nat_lt, IsTrue, Bool}
use Rattle.rule_machine.specs.declared.choice.Item.{Item}
use Rattle.rule_machine.specs.declared.act.Moved.{Moved}
use Rattle.rule_machine.specs.RuleTable.{RuleTable}
use Rattle.rule_machine.specs.declared.event.Event.{Event}
use Rattle.rule_machine.specs.declared.event.Event.TheVariants.{Step}
use Rattle.rule_machine.specs.declared.reply.Reply.{Reply}
use Rattle.rule_machine.specs.declared.reply.Reply.TheVariants.{Accepted, Moves}
use Rattle.rule_machine.specs.State.{State}
use Rattle.rule_machine.specs.declared.verdict.Verdict.{Verdict}
use Rattle.rule_engine.specs.ChoiceMoves.{verdicts_of}
use Rattle.fault_injector.specs.DrawnFaults.{is_register_fault}
use Rattle.step_log.specs.declared.fault.RecordFault.{RecordFault}
use Rattle.step_log.specs.declared.fault.RecordFault.TheVariants as record_fault
use Rattle.step_log.specs.declared.receipt.Receipt.{Receipt}
use Rattle.step_log.specs.RetainedLogs.{RetainedLog, last_number, kept_with, next_receipt}
use Rattle.steal_pool.specs.declared.fault.PoolFault.{PoolFault}
use Rattle.steal_pool.specs.declared.fault.PoolFault.TheVariants.{ZeroWorkers}
use Rattle.steal_pool.specs.declared.fault.PoolFault.TheVariants as pool_fault
use Rattle.locked_net.specs.Receipts.{front_of}
use Rattle.locked_net.specs.declared.fault.CallFault.{CallFault}
use Rattle.locked_net.specs.declared.fault.CallFault.TheVariants.{Behind, LogFull, Memory}
use Rattle.locked_net.specs.declared.fault.StepFault.{StepFault}
use Rattle.locked_net.specs.declared.fault.StepFault.TheVariants.{Call, Pool}

-- the fault for a clerk that has seen `seen` entries, before memory matters
abbrev pub call_fault : ℕ → RetainedLog → Option CallFault
call_fault seen log =
    if nat_lt (last_number log) seen then Some (Behind (last_number log) seen)
    else (if nat_eq (last_number log) log.limit then Some LogFull else None)

-- the fault of a checkpoint, which a full log does not refuse
abbrev pub checkpoint_fault : ℕ → RetainedLog → Option CallFault
checkpoint_fault seen log =
    if nat_lt (last_number log) seen then Some (Behind (last_number log) seen) else None

-- the fault is the one found; if none was found, the fault is `Memory`
abbrev pub ExplainsCallFault : Option CallFault → CallFault → Type 0
ExplainsCallFault None fault = fault ≡ Memory
ExplainsCallFault (Some found) fault = fault ≡ found

-- the faults that a clerk can expect without seeing the log
abbrev pub MayAnswer : ℕ → CallFault → Type 0
MayAnswer seen (Behind front number) = (number ≡ seen) × (front < seen)
MayAnswer seen LogFull = Unit {0}
MayAnswer seen Memory = Unit {0}

-- the same for a checkpoint
abbrev pub MayRefuseCheckpoint : ℕ → CallFault → Type 0
MayRefuseCheckpoint seen (Behind front number) = (number ≡ seen) × (front < seen)
MayRefuseCheckpoint seen LogFull = ⊥
MayRefuseCheckpoint seen Memory = Unit {0}

-- a journal's fault as the fault of a call
abbrev pub call_fault_of : RecordFault → CallFault
call_fault_of record_fault.LogFull = LogFull
call_fault_of record_fault.Memory = Memory

-- One receipt was added: of this event and this reply, with a number above all earlier ones.
pub record Keeps (old new : List Receipt) (event : Event) (reply : Reply) : Type 0 where
  pub seq : ℕ
  pub above : front_of old < seq
  pub added : new ≡ old ++ record { seq = seq; event = event; reply = reply } ∷ []

-- One receipt was added: of a step with its moves. The step is of one node if the daemon is central.
pub record KeepsStep (central : Bool) (old new : List Receipt) (reply : Reply) : Type 0 where
  pub items : List Item
  pub moves : List Moved
  pub kept : Keeps old new (Step items) reply
  pub moved : reply ≡ Moves moves
  pub one : IsTrue central → length items ≡ 1

-- One receipt was added: of an accepted change of a register.
pub record KeepsFault (old new : List Receipt) (reply : Reply) : Type 0 where
  pub event : Event
  pub kept : Keeps old new event reply
  pub register : IsTrue (is_register_fault event)
  pub accepted : reply ≡ Accepted

-- An event was recorded with this reply, and the receipt of this event was added.
pub record RecordsEvent (t : RuleTable) (before after : RetainedLog) (old new : List Receipt) (event : Event) (reply : Reply) : Type 0 where
  pub log : after ≡ kept_with t before event
  pub receipt : new ≡ old ++ next_receipt t before event ∷ []
  pub reply_is : reply ≡ (next_receipt t before event).reply

-- The recorded event is a step with its moves. The step is of one node if the daemon is central.
pub record Drives (t : RuleTable) (before after : RetainedLog) (old new : List Receipt) (reply : Reply) : Type 0 where
  pub items : List Item
  pub moves : List Moved
  pub entry : RecordsEvent t before after old new (Step items) reply
  pub moved : reply ≡ Moves moves
  pub one : IsTrue t.central → length items ≡ 1

-- The recorded event is an accepted change of a register.
pub record Breaks (t : RuleTable) (before after : RetainedLog) (old new : List Receipt) (reply : Reply) : Type 0 where
  pub event : Event
  pub entry : RecordsEvent t before after old new event reply
  pub register : IsTrue (is_register_fault event)
  pub accepted : reply ≡ Accepted

-- ---- steps that workers judge

-- if the event is a step, its items have these verdicts in the state
abbrev pub AreVerdicts : RuleTable → State → Event → List Verdict → Type 0
AreVerdicts t s (Step items) verdicts = verdicts ≡ verdicts_of t s items
AreVerdicts t s event verdicts = Unit {0}

-- the fault is the one found; if none was found, it is `ZeroWorkers` without workers, and `Memory` otherwise
abbrev pub ExplainsStep : Option CallFault → ℕ → StepFault → Type 0
ExplainsStep (Some found) workers fault = fault ≡ Call found
ExplainsStep None zero fault = fault ≡ Pool ZeroWorkers
ExplainsStep None (suc others) fault = fault ≡ Call Memory

-- the faults that a clerk can expect without seeing the log
abbrev pub MayAnswerStep : ℕ → ℕ → StepFault → Type 0
MayAnswerStep seen workers (Call (Behind front number)) = (number ≡ seen) × (front < seen)
MayAnswerStep seen workers (Call LogFull) = Unit {0}
MayAnswerStep seen workers (Call Memory) = 0 < workers
MayAnswerStep seen workers (Pool ZeroWorkers) = workers ≡ 0
MayAnswerStep seen workers (Pool other) = ⊥

-- a fault of the workers as the fault of a step
abbrev pub step_fault : PoolFault → StepFault
step_fault pool_fault.ZeroWorkers = Pool ZeroWorkers
step_fault pool_fault.Thread = Pool pool_fault.Thread
step_fault pool_fault.Memory = Call Memory
