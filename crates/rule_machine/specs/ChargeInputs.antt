-- A node's standing: what the charge reads at a node and at the ends of an edge.
use Rattle.std.specs.Prelude.{◌≡◌, ℕ, Bool, not, ◌&&◌}
use Rattle.rule_machine.specs.State.{State, pointer, flag, married, has_suitor}
use Rattle.rule_machine.specs.declared.charge_input.ChargeInput.{ChargeInput}
use Rattle.rule_machine.specs.Charge.{is_courted}

-- `it` is the standing of its node in state s
pub record IsChargeInput (s : State) (it : ChargeInput) : Type 0 where
  pub points : it.pointer ≡ pointer s it.node
  pub flagged : it.flag ≡ flag s it.node
  pub paired : it.is_married ≡ married s it.node
  pub courted : it.has_suitor ≡ has_suitor s it.node

-- two states agree on a node's standing
pub record IsSameChargeInput (s u : State) (v : ℕ) : Type 0 where
  pub points : pointer s v ≡ pointer u v
  pub flagged : flag s v ≡ flag u v
  pub paired : married s v ≡ married u v
  pub courted : has_suitor s v ≡ has_suitor u v

-- An edge is open by its ends if neither end is married and, in rule sets in which courted nodes close
-- the edges between them, not both ends are courted.
abbrev pub ends_open : Bool → State → ℕ × ℕ → Bool
ends_open courted_close s e =
    not (married s e.0) && not (married s e.1) && not (courted_close && (is_courted s e.0 && is_courted s e.1))
