-- The open edges: those open by the stances of their ends, less those that a pointer closes.
use Rattle.std.specs.Prelude.{ℕ, Bool, not, ◌&&◌, is_none, nat_lt}
use Rattle.rule_machine.specs.State.{State, holds_at, pointer, flag, married}
use Rattle.rule_machine.specs.Charge.{is_courted}

-- Hsu and Huang: whether an edge is open by the stances of its ends, whatever the pointers' targets
abbrev pub hsu_huang_apart : State → ℕ × ℕ → Bool
hsu_huang_apart s e = not (married s e.0) && not (married s e.1) && not (is_courted s e.0 && is_courted s e.1)

-- whether v points at a node with a null pointer, and so closes the edge between the two
abbrev pub hsu_huang_closes : State → ℕ → Bool
hsu_huang_closes s v = holds_at (λ w. is_none (pointer s w)) (pointer s v)

-- Manne and others: whether an edge is open by the stances of its ends, whatever the pointers' targets
abbrev pub manne_apart : State → ℕ × ℕ → Bool
manne_apart s e = not (married s e.0) && not (married s e.1)

-- whether v points at a higher node that is not flagged and not married, and so closes the edge between the
-- two
abbrev pub manne_closes : State → ℕ → Bool
manne_closes s v = not (married s v) && holds_at (λ w. nat_lt v w && not (flag s w) && not (married s w)) (pointer s v)
