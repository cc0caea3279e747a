-- How many entries a log may have, and which replies are of an event's kind.
use Rattle.std.specs.Prelude.{ℕ, Bool, true, false, cond, ◌&&◌, List, is_some, is_none, length, nat_le}
use Rattle.std.specs.List.{list_all}
use Rattle.rule_machine.specs.declared.act.Moved.{Moved}
use Rattle.rule_machine.specs.declared.event.Event.{Event}
use Rattle.rule_machine.specs.declared.event.Event.TheVariants.{Link, Unlink, Point, Flag, Step, Show, Enabled, Matching, Status, Join, Leave}
use Rattle.rule_machine.specs.declared.reply.Reply.{Reply}
use Rattle.rule_machine.specs.declared.reply.Reply.TheVariants.{Accepted, Refused, Moves, Shown, EnabledAre, Pairs, Counts}
pub use Rattle.rule_machine.specs.Step.{takes_target}

-- the most entries that a log may have
abbrev pub max_entries : ℕ
max_entries = 16777216

-- whether the move has a target if and only if the move's rule takes a target
abbrev pub is_move : Moved → Bool
is_move m = cond (takes_target m.act) (is_some m.target) (is_none m.target)

-- at least one move, and at most as many as there are names
abbrev pub are_moves : List Moved → Bool
are_moves moves = nat_le 1 (length moves) && nat_le (length moves) 65535 && list_all is_move moves

-- whether the reply is of the event's kind
abbrev pub fits : Event → Reply → Bool
fits (Link a b) Accepted = true
fits (Link a b) (Refused refusal) = true
fits (Unlink a b) Accepted = true
fits (Unlink a b) (Refused refusal) = true
fits (Point v target) Accepted = true
fits (Point v target) (Refused refusal) = true
fits (Flag v value) Accepted = true
fits (Flag v value) (Refused refusal) = true
fits (Join v) Accepted = true
fits (Join v) (Refused refusal) = true
fits (Leave v) Accepted = true
fits (Leave v) (Refused refusal) = true
fits (Step items) (Moves moves) = are_moves moves
fits (Step items) (Refused refusal) = true
fits (Show v) (Shown target) = true
fits (Show v) (Refused refusal) = true
fits Enabled (EnabledAre nodes) = nat_le (length nodes) 65535
fits Matching (Pairs pairs) = nat_le (length pairs) 65535
fits Status (Counts counts) = true
-- no other reply is of the event's kind
fits event reply = false
