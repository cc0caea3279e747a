-- The cost of a disturbance: what it may add to the charge, by the degrees of the nodes that it touches.
use Rattle.std.specs.Prelude.{ℕ, ◌+◌, ◌-◌, ◌*◌, Bool, true, false, cond, ◌&&◌, Option, None, Some, List, [], ◌∷◌, map}
use Rattle.rule_machine.specs.declared.event.Event.{Event}
use Rattle.rule_machine.specs.declared.event.Event.TheVariants.{Link, Unlink, Point, Flag, Join, Leave}
use Rattle.rule_machine.specs.declared.reply.Reply.{Reply}
use Rattle.rule_machine.specs.declared.reply.Reply.TheVariants.{Accepted}
use Rattle.rule_machine.specs.Network.{Network}
use Rattle.rule_machine.specs.State.{State, points, pointer, is_mutual, has_suitor, is_unanswered}
use Rattle.rule_machine.specs.Run.{Entry}
use Rattle.machine_laws.specs.Degrees.{degree, degree_at}

-- the cost of writing a pointer, by whether the old pointer was unanswered, whether the node has a suitor,
-- and the old target
abbrev pub hsu_huang_point_cost : Network → ℕ → Bool → Bool → Option ℕ → ℕ
hsu_huang_point_cost net v unanswered false None = 1
hsu_huang_point_cost net v unanswered true None = 2 * degree net v
hsu_huang_point_cost net v true suited (Some u) = 2 * degree net u
hsu_huang_point_cost net v false suited (Some u) = 2 * (degree net v + degree net u)

-- The cost by Hsu and Huang's rules:
-- - link: 2
-- - unlink: for each pointer that crossed the edge, 2 for each other edge of the pointer's target
-- - point, if the pointer was answered: 2 for each edge of each of the two nodes
-- - point, if the pointer was unanswered: 2 for each edge of the old target
-- - point, if the pointer was null: 2 for each edge of the node if the node has a suitor, else 1
-- - leave: 2 for each other edge of the target of the node that leaves
abbrev pub hsu_huang_cost : State → Event → ℕ
hsu_huang_cost s (Link a b) = 2
hsu_huang_cost s (Unlink a b) =
    2 * (cond (points s.registers a b) (degree s.network b - 1) 0 + cond (points s.registers b a) (degree s.network a - 1) 0)
hsu_huang_cost s (Point v target) =
    hsu_huang_point_cost s.network v (is_unanswered s v) (has_suitor s v) (pointer s v)
hsu_huang_cost s (Leave v) = 2 * (degree_at s.network (pointer s v) - 1)
hsu_huang_cost s event = 0

-- The cost by Manne's rules:
-- - link: 2; join: 1
-- - parting a pair: 2 for each edge left at each of the two nodes, and 2 for each of the two nodes that
--   stays
-- - point without parting a pair: 1 if the pointer was null, 2 if it was unanswered
-- - flag: 1, plus 2 for each edge of the node if the flag is set to true and the node has a suitor
abbrev pub manne_point_cost : Network → ℕ → Bool → Option ℕ → ℕ
manne_point_cost net v unanswered None = 1
manne_point_cost net v true (Some u) = 2
manne_point_cost net v false (Some u) = 2 * (degree net v + degree net u) + 4

abbrev pub manne_leave_cost : Network → Bool → Option ℕ → ℕ
manne_leave_cost net unanswered None = 0
manne_leave_cost net true (Some u) = 0
manne_leave_cost net false (Some u) = 2 * (degree net u - 1) + 2

abbrev pub manne_cost : State → Event → ℕ
manne_cost s (Link a b) = 2
manne_cost s (Unlink a b) =
    cond (is_mutual s a b) (2 * ((degree s.network a - 1) + (degree s.network b - 1)) + 4) 0
manne_cost s (Point v target) = manne_point_cost s.network v (is_unanswered s v) (pointer s v)
manne_cost s (Flag v value) = 1 + cond (value && has_suitor s v) (2 * degree s.network v) 0
manne_cost s (Join v) = 1
manne_cost s (Leave v) = manne_leave_cost s.network (is_unanswered s v) (pointer s v)
manne_cost s event = 0

-- the cost if the reply is Accepted, as only the reply to a disturbance is, else 0
abbrev pub answer_cost : ℕ → Reply → ℕ
answer_cost cost Accepted = cost
answer_cost cost reply = 0

-- what the disturbances of a path may add to the charge; the path begins at this state, and pairs each
-- entry with the state after the entry
abbrev pub path_cost : (State → Event → ℕ) → State → List (Entry × State) → ℕ
path_cost cost s [] = 0
path_cost cost s (step ∷ path) = answer_cost (cost s step.0.0) step.0.1 + path_cost cost step.1 path

-- the state after the entries of a path from s
abbrev pub end_of_path : State → List (Entry × State) → State
end_of_path s [] = s
end_of_path s (step ∷ path) = end_of_path step.1 path

-- the entries of a path, without the states
abbrev pub path_entries : List (Entry × State) → List Entry
path_entries path = map (λ step. step.0) path
