-- The rounds that a network counts.
use Rattle.std.specs.Prelude.{◌≡◌, ℕ, ◌+◌, ◌≤◌, Bool, List, ◌++◌, Option, None, Some, IsTrue, false}
use Rattle.enabled_set.specs.RemovedNames.{AreNoted, RemovedNames}
use Rattle.rule_machine.specs.declared.reply.Reply.{Reply}
use Rattle.rule_machine.specs.State.{State, IsState}
use Rattle.rule_machine.specs.RuleTable.{RuleTable}
use Rattle.rule_machine.specs.Run.{Entry, Moment, Run}
use Rattle.machine_laws.specs.ChargeWords.{IsUndisturbed}
use Rattle.round_laws.specs.Rounds.{rounds_in, rounds_from}
use Rattle.round_laws.specs.RoundCounts.{RoundCount}
use Rattle.round_counter.specs.Counting.{HasCounted, count_in, is_step}
use Rattle.round_counter.specs.declared.counter.RoundCounter.{RoundCounter}
use Rattle.rule_engine.specs.EventReplies.{IsWithinBudget}

-- A run without a disturbance leads to this moment, and the count is that of its rounds. Whatever entries come
-- next, the rounds of all together are these and those that the pending nodes complete.
pub record HasRounds (t : RuleTable) (m : Moment) (count : RoundCount) : Type 0 where
  pub start : Moment
  pub is_state : IsState start.state
  pub log : List Entry
  pub run : Run t start log m
  pub calm : IsUndisturbed log
  pub rounds_are : count.rounds ≡ rounds_in t start.state log
  pub later : (rest : List Entry) → rounds_in t start.state (log ++ rest) ≡ count.rounds + rounds_from t m.state count.pending rest

-- A run without a disturbance leads to this moment, and the counter has counted its rounds. Each has a move.
pub record CountsRun (t : RuleTable) (m : Moment) (c : RoundCounter) : Type 0 where
  pub start : Moment
  pub is_state : IsState start.state
  pub log : List Entry
  pub run : Run t start log m
  pub calm : IsUndisturbed log
  pub counted : HasCounted t start.state log m.state c
  pub few : c.rounds ≤ m.spent

-- the same of a counter, if there is one
abbrev pub CountsRounds : RuleTable → Moment → Option RoundCounter → Type 0
CountsRounds t m None = Unit {0}
CountsRounds t m (Some c) = CountsRun t m c

-- the count of a counter in this state, if there is one
abbrev pub counting_in : RuleTable → State → Option RoundCounter → Option RoundCount
counting_in t s None = None
counting_in t s (Some c) = Some (count_in t s c)

-- before a step a counter has the pending nodes in its set
abbrev pub IsReady : Reply → Option RoundCounter → Type 0
IsReady reply None = Unit {0}
IsReady reply (Some c) = IsTrue (is_step reply) → c.is_new ≡ false

-- after a step, the pending nodes that the set of enabled nodes lacks are noted
abbrev pub AreLeaversNoted : Reply → Option RoundCounter → List Bool → RemovedNames → Type 0
AreLeaversNoted reply None enabled removed = Unit {0}
AreLeaversNoted reply (Some c) enabled removed = IsTrue (is_step reply) → AreNoted c.pending enabled removed

-- the moment is within its budget, and the counter, if there is one, has counted up to it
pub record IsCountedMoment (t : RuleTable) (weight : ℕ) (m : Moment) (rounds : Option RoundCounter) : Type 0 where
  pub budget : IsWithinBudget t weight m
  pub counts : CountsRounds t m rounds
