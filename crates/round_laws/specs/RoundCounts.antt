-- Rounds counted entry by entry.
use Rattle.std.specs.Prelude.{ℕ, ◌+◌, List, [], ◌∷◌, Option, None, Some}
use Rattle.rule_machine.specs.declared.reply.Reply.{Reply}
use Rattle.rule_machine.specs.declared.reply.Reply.TheVariants.{Accepted}
use Rattle.rule_machine.specs.State.{State}
use Rattle.rule_machine.specs.RuleTable.{RuleTable, enabled_names}
use Rattle.rule_machine.specs.Run.{Entry}
use Rattle.machine_laws.specs.StatesAfterReplies.{followed}
use Rattle.round_laws.specs.Rounds.{rounds_by}

-- the rounds that are complete since counting began or since a later accepted disturbance, and the nodes
-- pending in the present round, ascending
pub record RoundCount : Type 0 where
  pub rounds : ℕ
  pub pending : List ℕ

-- counting begins in state s: no round is complete, and the enabled nodes are pending
abbrev pub first_count : RuleTable → State → RoundCount
first_count t s = record { rounds = 0; pending = enabled_names t s }

-- the count after an entry with this reply; s is the state after the entry. An accepted disturbance begins a
-- new count.
abbrev pub next_count : RuleTable → Reply → State → RoundCount → RoundCount
next_count t Accepted s c = first_count t s
next_count t reply s c =
    let turn = rounds_by t c.pending reply s in record { rounds = c.rounds + turn.0; pending = turn.1 }

-- the same if rounds are counted, and none if they are not
abbrev pub next_counting : RuleTable → Reply → State → Option RoundCount → Option RoundCount
next_counting t reply s None = None
next_counting t reply s (Some c) = Some (next_count t reply s c)

-- how many rounds are complete, if they are counted
abbrev pub rounds_of : Option RoundCount → Option ℕ
rounds_of None = None
rounds_of (Some c) = Some c.rounds

-- the count after a log from state s
abbrev pub last_count : RuleTable → State → List Entry → RoundCount → RoundCount
last_count t s [] c = c
last_count t s (entry ∷ log) c =
    let next = followed s entry.0 entry.1 in last_count t next log (next_count t entry.1 next c)

-- the count after a log from state s, where counting began
abbrev pub count_of_log : RuleTable → State → List Entry → RoundCount
count_of_log t s log = last_count t s log (first_count t s)
