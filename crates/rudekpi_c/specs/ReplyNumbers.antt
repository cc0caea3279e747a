-- A reply in numbers.
use Rattle.std.specs.Prelude.{ℕ, Option, None, Some, List, [], map, length}
use Rattle.rule_machine.specs.declared.act.Act.{Act}
use Rattle.rule_machine.specs.declared.act.Act.TheVariants.{Update, Marry, Seduce, Abandon}
use Rattle.rule_machine.specs.declared.act.Moved.{Moved}
use Rattle.rule_machine.specs.declared.reply.Reply.{Reply}
use Rattle.rule_machine.specs.declared.reply.Reply.TheVariants.{Refused, Moves, Shown, EnabledAre, Pairs}
use Rattle.rule_machine.specs.Refuse.{refusal_number}
use Rattle.rudekpi_c.specs.declared.call_result.Row.{Row}
use Rattle.rudekpi_c.specs.declared.call_result.CallResult.{CallResult}

-- the name, or 0 if there is none
abbrev pub number_of : Option ℕ → ℕ
number_of None = 0
number_of (Some w) = w

abbrev pub rule_number : Act → ℕ
rule_number Update = 1
rule_number Marry = 2
rule_number Seduce = 3
rule_number Abandon = 4

-- the row of a move: the node, its rule, and its new pointer
abbrev pub move_row : Moved → Row
move_row m = record { node = m.node; rule = rule_number m.act; other = number_of m.target }

-- the row of an enabled node: the node and its rule
abbrev pub enabled_row : ℕ × Act → Row
enabled_row e = record { node = e.0; rule = rule_number e.1; other = 0 }

-- the row of a pair, the lower name first
abbrev pub pair_row : ℕ × ℕ → Row
pair_row p = record { node = p.0; rule = 0; other = p.1 }

-- the refusal, or 0
abbrev pub refusal_code : Reply → ℕ
refusal_code (Refused refusal) = refusal_number refusal
refusal_code other = 0

-- the pointer that was asked for, or 0
abbrev pub target_in : Reply → ℕ
target_in (Shown target) = number_of target
target_in other = 0

-- the rows: the moves, the enabled nodes, or the pairs
abbrev pub rows_of : Reply → List Row
rows_of (Moves moves) = map move_row moves
rows_of (EnabledAre nodes) = map enabled_row nodes
rows_of (Pairs pairs) = map pair_row pairs
rows_of other = []

-- the answer with this number and reply
abbrev pub told_of : ℕ → Reply → CallResult
told_of number reply = record { entry = number; refusal = refusal_code reply; target = target_in reply; rows = length (rows_of reply) }

abbrev pub untold : CallResult
untold = record { entry = 0; refusal = 0; target = 0; rows = 0 }

-- the status of an entry: 6 if its event was refused, else 0
abbrev pub entry_status : Reply → ℕ
entry_status (Refused refusal) = 6
entry_status other = 0
