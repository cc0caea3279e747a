-- Results of preparing and carrying out events.
use Rattle.std.specs.Prelude.{◌≡◌, ℕ, Bool, true, false, None, Result, Ok, Err, IfOk, OnErr, IsTrue}
use Rattle.rule_machine.specs.declared.event.Event.{Event}
use Rattle.rule_machine.specs.declared.event.Event.TheVariants.{Link, Step, Enabled, Matching}
use Rattle.rule_machine.specs.declared.reply.Reply.{Reply}
use Rattle.rule_machine.specs.State.{IsState, flag}
use Rattle.rule_machine.specs.RuleTable.{RuleTable}
use Rattle.rule_machine.specs.Refuse.{refusal_of}
use Rattle.rule_machine.specs.Least.{reply_of}
use Rattle.rule_machine.specs.Run.{Moment}
use Rattle.machine_laws.specs.ChargeWords.{IsWithinBound}
use Rattle.rule_engine.specs.PreparedEvents.{HasRoomTo, NetView, net_moment}

-- whether an event may take memory if it is not refused
abbrev pub takes_memory : Event → Bool
takes_memory (Link a b) = true
takes_memory (Step items) = true
takes_memory Enabled = true
takes_memory Matching = true
takes_memory event = false

-- the reply that was written, or the error
abbrev pub stored_reply : {E : Type 0} → Result (Unit {0}) E → Reply → Result Reply E
stored_reply (Ok done) reply = Ok reply
stored_reply (Err e) reply = Err e

-- The reply is the machine's, and there is room for what the event adds. An error comes only for an event that
-- may take memory and is not refused. The moment and the count of rounds do not change.
pub record Prepares {E : Type 0} (t : RuleTable) (n : NetView) (event : Event) (result : Result Reply E) (n' : NetView) : Type 0 where
  pub reply : IfOk result (λ r. r ≡ reply_of t n.state n.spent event)
  pub room : IfOk result (λ r. HasRoomTo event r n'.room)
  pub kept : net_moment n' ≡ net_moment n
  pub counting : n'.counting ≡ n.counting
  pub want : OnErr result ((refusal_of t n.state event ≡ None) × IsTrue (takes_memory event))

-- the state is valid, spent moves plus charge are within the bound of the state's network, and no flag is true
-- that the rules do not use
pub record IsWithinBudget (t : RuleTable) (weight : ℕ) (m : Moment) : Type 0 where
  pub is_state : IsState m.state
  pub within : IsWithinBound t weight m
  pub unflagged : t.flags ≡ false → (v : ℕ) → flag m.state v ≡ false
