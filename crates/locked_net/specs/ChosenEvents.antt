-- Calls whose event a daemon or an injector chooses, checkpoints, and their faults.
--
-- A caller does not see the log. So a clause says that there is a log under the lock: a run of the network's
-- rules, with the network's nodes and limit.
use Rattle.std.specs.Prelude.{◌≡◌, ◌↔◌, ◌≤◌, ℕ, Bool, List, [], ◌∷◌, ◌++◌, Option, None, Some, IfSome, IsNone}
use Rattle.std.specs.Option.{option_map}
use mathlib.Core.List.{IsPrefix}
use Rattle.rule_machine.specs.declared.choice.Item.{Item}
use Rattle.rule_machine.specs.declared.event.Event.{Event}
use Rattle.rule_machine.specs.declared.event.Event.TheVariants.{Step}
use Rattle.rule_machine.specs.declared.reply.Reply.{Reply}
use Rattle.rand_core.specs.Stream.{Stream}
use Rattle.rule_machine.specs.Network.{node_count}
use Rattle.rule_machine.specs.State.{State}
use Rattle.fault_injector.specs.DrawnFaults.{fault_drawn}
use Rattle.rule_machine.specs.RuleTable.{RuleTable, enabled_names}
use Rattle.step_log.specs.declared.receipt.Receipt.{Receipt}
use Rattle.step_log.specs.RetainedLogs.{RetainedLog, last_number, next_receipt}
use Rattle.snapshots.specs.Views.{PublishedLog}
use Rattle.locked_net.specs.Receipts.{ClerkView, front_of, noted}
use Rattle.locked_net.specs.Settings.{Setting, IsLogIn}
use Rattle.locked_net.specs.Calls.{call_fault, checkpoint_fault, ExplainsCallFault, ExplainsStep, MayAnswer, MayAnswerStep, MayRefuseCheckpoint}
use Rattle.locked_net.specs.declared.fault.CallFault.{CallFault}
use Rattle.locked_net.specs.declared.fault.StepFault.{StepFault}

-- a choice among the enabled nodes of a state, as an event
abbrev pub ChoosesStep : RuleTable → (List ℕ → Option (List Item) → Type 0) → State → Option Event → Type 0
ChoosesStep t Chooses s event =
    (choice : Option (List Item)) × (event ≡ option_map (λ items. Step items) choice) × Chooses (enabled_names t s) choice

-- a daemon's choice as an event; `old` and `new` are the daemon before and after the choice
abbrev pub ByDaemon : {D : Type 0} → (List ℕ → Bool → D → Option (List Item) → D → Type 0) → RuleTable → D → D → State → Option Event → Type 0
ByDaemon chooses t old new s event = ChoosesStep t (λ names choice. chooses names t.central old choice new) s event

-- the fault that `words` draw; `left` are the words left
abbrev pub DrawsFault : RuleTable → Stream → Stream → State → Option Event → Type 0
DrawsFault t words left s event = (event, left) ≡ fault_drawn s.network t.flags words

-- an injector's fault as an event; `old` and `new` are the injector before and after the draw
abbrev pub ByInjector : {G : Type 0} → (G → Stream) → RuleTable → G → G → State → Option Event → Type 0
ByInjector stream t old new s event = DrawsFault t (stream old) (stream new) s event

-- there is no reply exactly if there is no node
abbrev pub NoneIfEmpty : Option Reply → State → Option Event → Type 0
NoneIfEmpty answer s event = IsNone answer ↔ (node_count s.network ≡ 0)

-- the reply and the receipt of the event chosen on a log; neither reply nor receipt if no event was chosen
abbrev pub IsChosenReply : RuleTable → RetainedLog → Option Event → List Receipt → List Receipt → Option Reply → Type 0
IsChosenReply t log None old new answer = (answer ≡ None) × (new ≡ old)
IsChosenReply t log (Some event) old new answer = (answer ≡ Some (next_receipt t log event).reply) × (new ≡ old ++ next_receipt t log event ∷ [])

-- An event, or none, was chosen in the state of a log.
pub record ChoosesOn (t : RuleTable) (log : RetainedLog) (Chooses : State → Option Event → Type 0) (old new : List Receipt) (answer : Option Reply) : Type 0 where
  pub event : Option Event
  pub chosen : Chooses log.state event
  pub is_told : IsChosenReply t log event old new answer

-- A log includes all that the clerk has seen and has room for an entry; the event was chosen on this log. If
-- the event was recorded, this log is a prefix of the log of the clerk's note.
pub record TakesChoice (setting : Setting) (Chooses : State → Option Event → Type 0) (old new : List Receipt) (note : Option PublishedLog) (answer : Option Reply) : Type 0 where
  pub log : RetainedLog
  pub own : IsLogIn setting log
  pub free : call_fault (front_of old) log ≡ None
  pub taken : ChoosesOn setting.table log Chooses old new answer
  pub begins : IfSome answer (λ _. IsPrefix log.entries (noted note))

-- the same for a clerk before and after the call
abbrev pub ClerkTakes : Setting → (State → Option Event → Type 0) → ClerkView → ClerkView → Option Reply → Type 0
ClerkTakes setting Chooses old new answer = TakesChoice setting Chooses old.receipts new.receipts new.note answer

-- A log gives this fault to a clerk that has seen `seen` entries; `Memory` only if there is no other fault.
-- `may` is what the clerk can expect without seeing the log.
pub record Refuses (setting : Setting) (seen : ℕ) (fault : CallFault) : Type 0 where
  pub log : RetainedLog
  pub own : IsLogIn setting log
  pub explained : ExplainsCallFault (call_fault seen log) fault
  pub may : MayAnswer seen fault

-- A log up to the number `number` includes all that the clerk has seen.
pub record HoldsAll (setting : Setting) (seen number : ℕ) : Type 0 where
  pub log : RetainedLog
  pub own : IsLogIn setting log
  pub count : number ≡ last_number log
  pub all : seen ≤ number

-- A log gives this fault for a checkpoint.
pub record RefusesCheckpoint (setting : Setting) (seen : ℕ) (fault : CallFault) : Type 0 where
  pub log : RetainedLog
  pub own : IsLogIn setting log
  pub explained : ExplainsCallFault (checkpoint_fault seen log) fault
  pub may : MayRefuseCheckpoint seen fault

-- A log gives this fault for a step that workers judge.
pub record RefusesStep (setting : Setting) (seen workers : ℕ) (fault : StepFault) : Type 0 where
  pub log : RetainedLog
  pub own : IsLogIn setting log
  pub explained : ExplainsStep (call_fault seen log) workers fault
  pub may : MayAnswerStep seen workers fault
