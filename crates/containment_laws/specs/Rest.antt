-- A node at rest: no rule is enabled at the node, and no step of other nodes enables one.
use Rattle.std.specs.Prelude.{ℕ, Bool, not, ◌&&◌, ◌||◌, is_none, find}
use Rattle.rule_machine.specs.Network.{neighbours}
use Rattle.rule_machine.specs.State.{State, pointer, married, is_settled}

-- whether each neighbour of v is married
abbrev pub is_surrounded : State → ℕ → Bool
is_surrounded s v = is_none (find (λ w. not (married s w)) (neighbours s.network v))

-- whether v is at rest: v's flag is right if flags are used, and either v is married, or v's pointer is
-- null and each neighbour of v is married
abbrev pub is_at_rest : Bool → State → ℕ → Bool
is_at_rest uses_flags s v =
    (not uses_flags || is_settled s v) && (married s v || (is_none (pointer s v) && is_surrounded s v))
