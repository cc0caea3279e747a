-- A count of rounds, before an entry and after it.
use Rattle.std.specs.Prelude.{◌≡◌, ℕ, ◌+◌, Bool, false, List, length, IsTrue}
use Rattle.enabled_set.specs.Members.{is_in}
use Rattle.enabled_set.specs.RemovedNames.{AreNoted}
use Rattle.rule_machine.specs.declared.event.Event.{Event}
use Rattle.rule_machine.specs.declared.reply.Reply.{Reply}
use Rattle.rule_machine.specs.RuleTable.{RuleTable}
use Rattle.rule_machine.specs.Run.{Entry}
use Rattle.rule_machine.specs.State.{State, IsState}
use Rattle.rule_machine.specs.Tables.{table_of}
use Rattle.machine_laws.specs.StatesAfterReplies.{followed}
use Rattle.round_counter.specs.Counting.{HasCounted, is_step}
use Rattle.reply_checker.specs.Witnesses.{RestsOn, is_on}
use Rattle.reply_checker.specs.declared.witness.Witness.{Witness}
use Rattle.judged_rounds.specs.Around.{witness_at}
use Rattle.judged_rounds.specs.declared.count.JudgedRounds.{JudgedRounds}

-- Both lists of bits have an entry for each name. Of the names that are not due, the first has those with an
-- enabled rule, and the witnesses are right.
pub record AreOnBut (t : RuleTable) (s : State) (bits due : List Bool) (witnesses : List Witness) : Type 0 where
  pub places : length bits ≡ s.network.size + 1
  pub due_places : length due ≡ s.network.size + 1
  pub each : (v : ℕ) → is_in due v ≡ false → is_in bits v ≡ is_on t s v
  pub rests : (v : ℕ) → is_in due v ≡ false → RestsOn t s v (witness_at witnesses v)

-- The log from `start` led to s, and its rounds are counted.
pub record CountsIn (start : State) (log : List Entry) (s : State) (it : JudgedRounds) : Type 0 where
  pub sound : IsState s
  pub on : AreOnBut (table_of it.rules) s it.enabled it.due it.witnesses.items
  pub none_due : (v : ℕ) → is_in it.due v ≡ false
  pub counted : HasCounted (table_of it.rules) start log s it.counter

-- The same, and the names whose rules an event with this reply may enable or disable are marked. Before a step,
-- the pending nodes that are not enabled are noted.
pub record IsReadyFor (start : State) (log : List Entry) (s : State) (event : Event) (reply : Reply) (it : JudgedRounds) : Type 0 where
  pub sound : IsState s
  pub on : IsState (followed s event reply) → AreOnBut (table_of it.rules) (followed s event reply) it.enabled it.due it.witnesses.items
  pub ready : IsTrue (is_step reply) → it.counter.is_new ≡ false
  pub noted : IsTrue (is_step reply) → AreNoted it.counter.pending it.enabled it.removals
  pub counted : HasCounted (table_of it.rules) start log s it.counter
