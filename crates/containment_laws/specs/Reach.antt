-- The reach of an event: the nodes at which the event may enable a rule. Each other node at rest stays at
-- rest.
use Rattle.std.specs.Prelude.{ℕ, ◌+◌, Bool, false, cond, not, ◌&&◌, ◌||◌, None, Some, List, [], ◌∷◌, count_by, is_some, find, nat_eq}
use Rattle.rule_machine.specs.declared.event.Event.{Event}
use Rattle.rule_machine.specs.declared.event.Event.TheVariants.{Link, Unlink, Point, Flag, Join, Leave}
use Rattle.rule_machine.specs.declared.reply.Reply.{Reply}
use Rattle.rule_machine.specs.declared.reply.Reply.TheVariants.{Accepted}
use Rattle.rule_machine.specs.Network.{neighbours}
use Rattle.rule_machine.specs.State.{State, pointer, points, married, is_mutual}
use Rattle.rule_machine.specs.Stable.{mutual_pairs}
use Rattle.rule_machine.specs.Run.{Entry}
use Rattle.machine_laws.specs.Degrees.{degree, degree_at}

-- Whether the event parts v from its partner: the edge between the two is removed, the pointer of one of
-- the two changes, or the partner leaves.
abbrev pub is_parted : State → Event → ℕ → Bool
is_parted s (Unlink a b) v = is_mutual s a b && (nat_eq v a || nat_eq v b)
is_parted s (Point a None) v = is_mutual s a v || (nat_eq v a && married s a)
is_parted s (Point a (Some w)) v = not (points s.registers a w) && (is_mutual s a v || (nat_eq v a && married s a))
is_parted s (Leave a) v = is_mutual s a v
is_parted s event v = false

-- Whether the event hits v: v is unmarried and gets an edge to an unmarried node or a new target, or the
-- flag of v becomes wrong.
abbrev pub is_hit : State → Event → ℕ → Bool
is_hit s (Link a b) v = not (married s a) && not (married s b) && (nat_eq v a || nat_eq v b)
is_hit s (Point a (Some w)) v = nat_eq v a && not (married s a) && not (points s.registers a w)
is_hit s (Flag a value) v = nat_eq v a && cond (married s a) (not value) value
is_hit s event v = false

-- whether v is in the reach: v is hit, or parted, or an unmarried neighbour of a parted node
abbrev pub is_in_reach : State → Event → ℕ → Bool
is_in_reach s event v =
    is_hit s event v || is_parted s event v || (not (married s v) && is_some (find (is_parted s event) (neighbours s.network v)))

-- at most how many nodes are in the reach: the two nodes of a new edge; if a pair is parted, the two nodes
-- and their other neighbours, but only the partner and the partner's other neighbours if a node leaves;
-- else the node whose pointer or flag is written
abbrev pub reach_size : State → Event → ℕ
reach_size s (Link a b) = 2
reach_size s (Unlink a b) = cond (is_mutual s a b) (degree s.network a + degree s.network b) 0
reach_size s (Point v target) = cond (married s v) (degree s.network v + degree_at s.network (pointer s v)) 1
reach_size s (Flag v value) = 1
reach_size s (Leave v) = cond (married s v) (degree_at s.network (pointer s v)) 0
reach_size s event = 0

-- whether the event parts a pair
abbrev pub parts_a_pair : State → Event → Bool
parts_a_pair s (Unlink a b) = is_mutual s a b
parts_a_pair s (Point a None) = married s a
parts_a_pair s (Point a (Some w)) = not (points s.registers a w) && married s a
parts_a_pair s (Leave a) = married s a
parts_a_pair s event = false

-- how many pairs an entry parts, if it is an accepted disturbance: 1 or 0
abbrev pub partings_of : State → Event → Reply → ℕ
partings_of s event Accepted = cond (parts_a_pair s event) 1 0
partings_of s event reply = 0

-- how many pairs the disturbances of a path from this state part, each judged in the state before it
abbrev pub partings_in : State → List (Entry × State) → ℕ
partings_in s [] = 0
partings_in s (step ∷ path) = partings_of s step.0.0 step.0.1 + partings_in step.1 path

-- how many mutual pairs of the first state are no mutual pairs of the second
abbrev pub lost_pairs : State → State → ℕ
lost_pairs s s' = count_by (λ e. not (is_mutual s' e.0 e.1)) (mutual_pairs s)

-- the nodes that an event names
abbrev pub named_by : Event → List ℕ
named_by (Link a b) = a ∷ b ∷ []
named_by (Unlink a b) = a ∷ b ∷ []
named_by (Point v target) = v ∷ []
named_by (Flag v value) = v ∷ []
named_by (Join v) = v ∷ []
named_by (Leave v) = v ∷ []
named_by event = []
