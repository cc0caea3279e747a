-- The silent cost of an edit or a fault: its cost in a silent network, for which only unmarried neighbours
-- count.
use Rattle.std.specs.Prelude.{ℕ, ◌+◌, ◌*◌, Bool, cond, not, ◌&&◌, count_by, Option, None, Some, nat_eq}
use Rattle.rule_machine.specs.declared.event.Event.{Event}
use Rattle.rule_machine.specs.declared.event.Event.TheVariants.{Link, Unlink, Point, Flag, Leave}
use Rattle.rule_machine.specs.Network.{linked, names}
use Rattle.rule_machine.specs.State.{State, is_at, pointer, married, is_mutual}

-- how many neighbours of a node are unmarried
abbrev pub single_neighbours : State → ℕ → ℕ
single_neighbours s v = count_by (λ w. linked s.network v w && not (married s w)) (names s.network)

-- how many neighbours of a pointer's target are unmarried; 0 if the pointer is null
abbrev pub single_neighbours_at : State → Option ℕ → ℕ
single_neighbours_at s None = 0
single_neighbours_at s (Some v) = single_neighbours s v

-- whether the node w is unmarried and not the target
abbrev pub is_single_but : State → Option ℕ → ℕ → Bool
is_single_but s target w = not (married s w) && not (is_at target w)

-- how many neighbours of v are unmarried and not the target
abbrev pub single_neighbours_but : State → ℕ → Option ℕ → ℕ
single_neighbours_but s v target = count_by (λ w. linked s.network v w && is_single_but s target w) (names s.network)

-- The cost of writing a pointer, by its old target. If the pointer was null, the new target is married, and
-- one move makes the pointer null again. If the node was paired, the cost counts the unmarried neighbours
-- of both nodes except the new target, and the moves that the two nodes need to point at each other again.
abbrev pub silent_point_cost : State → ℕ → Option ℕ → Option ℕ → ℕ
silent_point_cost s v None None = 0
silent_point_cost s v None (Some w) = 1
silent_point_cost s v (Some u) None = 2 * (single_neighbours_but s v None + single_neighbours s u) + 1
silent_point_cost s v (Some u) (Some w) =
    cond (nat_eq u w) 0 (2 * (single_neighbours_but s v (Some w) + single_neighbours s u) + 4)

-- 2 for a new edge between unmarried nodes; 2 for each unmarried neighbour of a parted node (of both nodes
-- if the edge of a pair is removed, of the partner if a node leaves); for a pointer as above
abbrev pub silent_cost : State → Event → ℕ
silent_cost s (Link a b) = cond (not (married s a) && not (married s b)) 2 0
silent_cost s (Unlink a b) = cond (is_mutual s a b) (2 * (single_neighbours s a + single_neighbours s b)) 0
silent_cost s (Point v target) = silent_point_cost s v (pointer s v) target
silent_cost s (Leave a) = 2 * single_neighbours_at s (pointer s a)
silent_cost s event = 0

-- By Manne's rules, which also write flags: parting a pair costs 2 for each unmarried neighbour as above,
-- the moves that the two nodes need, and 2 because a new pair may form.
abbrev pub manne_silent_point_cost : State → ℕ → Option ℕ → Option ℕ → ℕ
manne_silent_point_cost s v None None = 0
manne_silent_point_cost s v None (Some w) = 1
manne_silent_point_cost s v (Some u) None = 2 * (single_neighbours s v + single_neighbours s u) + 9
manne_silent_point_cost s v (Some u) (Some w) =
    cond (nat_eq u w) 0 (2 * (single_neighbours s v + single_neighbours s u) + 10)

abbrev pub manne_silent_cost : State → Event → ℕ
manne_silent_cost s (Link a b) = cond (not (married s a) && not (married s b)) 4 0
manne_silent_cost s (Unlink a b) = cond (is_mutual s a b) (2 * (single_neighbours s a + single_neighbours s b) + 6) 0
manne_silent_cost s (Point v target) = manne_silent_point_cost s v (pointer s v) target
manne_silent_cost s (Flag v value) = cond (cond (married s v) (not value) value) 1 0
manne_silent_cost s (Leave v) = cond (married s v) (2 * single_neighbours_at s (pointer s v) + 3) 0
manne_silent_cost s event = 0
