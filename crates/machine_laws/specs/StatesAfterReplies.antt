-- The state after a reply that the machine may give.
use Rattle.rule_machine.specs.declared.event.Event.{Event}
use Rattle.rule_machine.specs.declared.event.Event.TheVariants.{Link, Unlink, Point, Flag, Join, Leave}
use Rattle.rule_machine.specs.declared.reply.Reply.{Reply}
use Rattle.rule_machine.specs.declared.reply.Reply.TheVariants.{Accepted, Moves}
use Rattle.rule_machine.specs.State.{State}
use Rattle.rule_machine.specs.Step.{after_moves}
use Rattle.rule_machine.specs.Disturbance.{after_link, after_unlink, after_point, after_flag, after_join, after_leave}

-- the state after an accepted disturbance; the same state for a step or a question
abbrev pub disturbed : State → Event → State
disturbed s (Link a b) = after_link s a b
disturbed s (Unlink a b) = after_unlink s a b
disturbed s (Point v target) = after_point s v target
disturbed s (Flag v value) = after_flag s v value
disturbed s (Join v) = after_join s v
disturbed s (Leave v) = after_leave s v
disturbed s event = s

-- the state after an event with this reply
abbrev pub followed : State → Event → Reply → State
followed s event Accepted = disturbed s event
followed s event (Moves moves) = after_moves s moves
followed s event reply = s
