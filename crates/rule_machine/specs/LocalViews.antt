-- What a guard reads at a node: the registers of the node and its target, and whether the node is
-- married. If the node's pointer is null, also whether a neighbour is a suitor, and whether a neighbour is
-- open.
use Rattle.std.specs.Prelude.{◌≡◌, ℕ, Bool, true, false, not, ◌&&◌, Option, None, Some, is_some, find, nat_eq, nat_lt}
use Rattle.rule_machine.specs.Network.{neighbours}
use Rattle.rule_machine.specs.State.{State, pointer, flag, married, has_suitor}
use Rattle.rule_machine.specs.RuleTable.{is_open, first_open, last_open_above}

-- whether v has an open neighbour; if the first argument is true, only neighbours above v count
abbrev pub reaches : Bool → (Option ℕ → Bool → Bool) → State → ℕ → Bool
reaches true opens s v = is_some (last_open_above opens s v)
reaches false opens s v = is_some (first_open opens s v)

-- whether the guard of v asks if x is open; if the first argument is true, it asks only for x above v
abbrev pub asks_for : Bool → ℕ → ℕ → Bool
asks_for true v x = nat_lt v x
asks_for false v x = true

-- whether x is open and v may court x; if the first argument is true, v may court only nodes above v
abbrev pub is_reached : Bool → (Option ℕ → Bool → Bool) → State → ℕ → ℕ → Bool
is_reached true opens s v x = is_open opens s x && nat_lt v x
is_reached false opens s v x = is_open opens s x

-- whether v has an open neighbour other than w that v may court
abbrev pub reaches_beside : Bool → (Option ℕ → Bool → Bool) → State → ℕ → ℕ → Bool
reaches_beside above opens s v w =
    is_some (find (λ x. not (nat_eq x w) && is_reached above opens s v x) (neighbours s.network v))

-- the two states agree on all that the guard of v reads
pub record AgreesLocally (above : Bool) (opens : Option ℕ → Bool → Bool) (s u : State) (v : ℕ) : Type 0 where
  pub own_pointer : pointer s v ≡ pointer u v
  pub own_flag : flag s v ≡ flag u v
  pub marriage : married s v ≡ married u v
  -- of v's neighbours together, if v's pointer is null
  pub suitor : pointer s v ≡ None → has_suitor s v ≡ has_suitor u v
  pub reach : pointer s v ≡ None → reaches above opens s v ≡ reaches above opens u v
  -- the registers of v's target
  pub target_pointer : (w : ℕ) → pointer s v ≡ Some w → pointer s w ≡ pointer u w
  pub target_flag : (w : ℕ) → pointer s v ≡ Some w → flag s w ≡ flag u w
