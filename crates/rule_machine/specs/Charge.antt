-- The charge of a state is its potential: each move lowers the charge, so the charge bounds the moves
-- that can still come. It is twice the open edges, plus the unanswered pointers, plus what each node adds.
-- The definition is this project's own.
use Rattle.std.specs.Prelude.{ℕ, ◌+◌, ◌*◌, Bool, cond, not, ◌&&◌, ◌||◌, is_none, sum_by, count_by}
use Rattle.rule_machine.specs.Network.{names, edge_list}
use Rattle.rule_machine.specs.State.{State, pointer, flag, points, married, has_suitor, is_unanswered}

-- w's pointer is null, and v points at w
abbrev pub awaits : State → ℕ → ℕ → Bool
awaits s v w = points s.registers v w && is_none (pointer s w)

-- w's pointer is null, and a neighbour points at w
abbrev pub is_courted : State → ℕ → Bool
is_courted s w = is_none (pointer s w) && has_suitor s w

-- By the rules of Hsu and Huang an edge is closed if an end is married, if one end points at the other
-- and the other's pointer is null, or if both ends have null pointers and suitors.
abbrev pub hsu_huang_closed : State → ℕ × ℕ → Bool
hsu_huang_closed s e =
    married s e.0 || married s e.1 || awaits s e.0 e.1 || awaits s e.1 e.0 || (is_courted s e.0 && is_courted s e.1)

abbrev pub hsu_huang_charge : State → ℕ
hsu_huang_charge s =
    2 * count_by (λ e. not (hsu_huang_closed s e)) (edge_list s.network) + count_by (is_unanswered s) (names s.network)

-- By the rules of Manne and others an edge is closed if an end is married, or if the lower end points
-- at the higher end and the higher end is not flagged.
abbrev pub manne_closed : State → ℕ × ℕ → Bool
manne_closed s e = married s e.0 || married s e.1 || (points s.registers e.0 e.1 && not (flag s e.1))

-- what a node adds: 1 if unmarried, or 2 if also flagged; 1 if married, or 0 if also flagged
abbrev pub manne_node_charge : State → ℕ → ℕ
manne_node_charge s v = cond (married s v) (cond (flag s v) 0 1) (cond (flag s v) 2 1)

abbrev pub manne_charge : State → ℕ
manne_charge s =
    2 * count_by (λ e. not (manne_closed s e)) (edge_list s.network) + count_by (is_unanswered s) (names s.network) + sum_by (manne_node_charge s) (names s.network)
