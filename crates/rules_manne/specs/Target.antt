-- Nodes that a rule may seduce.
use Rattle.std.proofs.Common.{ℕ, Bool, not, ◌&&◌, is_none}
use Rattle.rule_machine.specs.State.{State, pointer, flag}

-- whether the pointer of v is null and v is not flagged
abbrev pub is_free_node : State → ℕ → Bool
is_free_node s v = is_none (pointer s v) && not (flag s v)
