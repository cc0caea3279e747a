-- By how much one disturbance of a silent network may change the number of pairs.
use Rattle.std.specs.Prelude.{ℕ, cond, not, ◌&&◌}
use Rattle.rule_machine.specs.declared.event.Event.{Event}
use Rattle.rule_machine.specs.declared.event.Event.TheVariants.{Link, Unlink, Point, Leave}
use Rattle.rule_machine.specs.State.{State, married, is_mutual}
use Rattle.containment_laws.specs.Reach.{parts_a_pair}

-- how many more pairs there may be: 1 if the event links two unmarried nodes, removes the edge of a pair,
-- or changes the pointer of a paired node; else 0
abbrev pub most_gained : State → Event → ℕ
most_gained s (Link a b) = cond (not (married s a) && not (married s b)) 1 0
most_gained s (Unlink a b) = cond (is_mutual s a b) 1 0
most_gained s (Point a target) = cond (parts_a_pair s (Point a target)) 1 0
most_gained s event = 0

-- how many fewer pairs there may be: 1 if the event removes the edge of a pair, or a node of a pair; else 0
abbrev pub most_lost : State → Event → ℕ
most_lost s (Unlink a b) = cond (is_mutual s a b) 1 0
most_lost s (Leave a) = cond (married s a) 1 0
most_lost s event = 0

-- how many nodes leave
abbrev pub nodes_gone : Event → ℕ
nodes_gone (Leave a) = 1
nodes_gone event = 0
