-- A network with its registers as contracts see it.
use Rattle.std.specs.Prelude.{◌≡◌, ◌≢◌, ℕ, false, slice_set, List, Option, None, Some, if◌then◌else◌, refl}
use Rattle.std.specs.Coded.{Coded, code_by, coded×, coded_ℕ, coded_list}
use Rattle.rule_machine.specs.Network.{Network, present}
use Rattle.rule_machine.specs.State.{State, Registers, is_at, state_code}
use Rattle.rule_machine.specs.Base.{node_record_at}
use Rattle.rule_machine.specs.declared.base.NodeRecord.{NodeRecord}

-- a state, and how many more neighbours each name has room for
pub record StateView : Type 0 where
  pub state : State
  pub room : List ℕ

abbrev pub held_code : Coded StateView
held_code =
    code_by (State × List ℕ) (coded× state_code (coded_list coded_ℕ)) (λ n. (n.state, n.room)) (λ p. record { state = p.0; room = p.1 }) (λ _. refl)

abbrev pub state_of : Network → Registers → State
state_of net registers = record { network = net; registers = registers }

-- the state in which the node v is absent and all else is unchanged
abbrev pub without_place : State → ℕ → State
without_place s v = record s { network = record s.network { here = slice_set s.network.here v false } }

-- the node v with its registers; none if v is absent
abbrev pub place_in : State → ℕ → Option NodeRecord
place_in s v = if present s.network v then Some (node_record_at s v) else None

-- w is not v, and the pointer of v neither was nor is at w
pub record IsUntouchedBy (v : ℕ) (was is : Option ℕ) (w : ℕ) : Type 0 where
  pub other : w ≢ v
  pub not_was : is_at was w ≡ false
  pub not_is : is_at is w ≡ false
