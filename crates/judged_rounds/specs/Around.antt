-- The names whose rules an entry may enable or disable.
use Rattle.std.specs.Prelude.{◌≡◌, ℕ, ◌≤◌, Bool, false, ◌&&◌, ◌||◌, List, length, map, nat_eq, Option, None, slice_index_or}
use Rattle.std.specs.List.{list_any}
use Rattle.enabled_set.specs.Members.{is_in}
use Rattle.rule_machine.specs.declared.event.Event.{Event}
use Rattle.rule_machine.specs.declared.event.Event.TheVariants.{Link, Unlink, Point, Flag, Step, Show, Enabled, Matching, Status, Join, Leave}
use Rattle.rule_machine.specs.declared.reply.Reply.{Reply}
use Rattle.rule_machine.specs.declared.reply.Reply.TheVariants.{Accepted, Moves}
use Rattle.rule_machine.specs.Network.{linked, neighbours, present}
use Rattle.rule_machine.specs.State.{State, points}
use Rattle.reply_checker.specs.Witnesses.{depends_on}
use Rattle.reply_checker.specs.declared.witness.Witness.{Witness}

-- the witness of v
abbrev pub witness_at : List Witness → ℕ → Option ℕ
witness_at witnesses v = slice_index_or (map (λ w. w.node) witnesses) v None

-- whether u is the name v, or a neighbour of the node v
abbrev pub is_near : State → ℕ → ℕ → Bool
is_near s v u = nat_eq u v || (present s.network v && linked s.network v u)

-- whether w points at v, and u is w or a neighbour of w
abbrev pub is_near_suitor : State → ℕ → ℕ → ℕ → Bool
is_near_suitor s v w u = points s.registers w v && is_near s w u

-- whether u is near the name v, or near a node that points at the node v
abbrev pub is_near_leaver : State → ℕ → ℕ → Bool
is_near_leaver s v u = is_near s v u || (present s.network v && list_any (λ w. is_near_suitor s v w u) (neighbours s.network v))

-- whether u is the name v, or a neighbour of the node v that depends on v
abbrev pub is_touched : State → List Witness → ℕ → ℕ → Bool
is_touched s witnesses v u = nat_eq u v || (present s.network v && (linked s.network v u && depends_on (witness_at witnesses u) v))

-- whether a disturbance may enable or disable a rule at u
abbrev pub is_affected_by : State → List Witness → Event → ℕ → Bool
is_affected_by s witnesses (Link a b) u = nat_eq u a || nat_eq u b
is_affected_by s witnesses (Unlink a b) u = is_near s a u || is_near s b u
is_affected_by s witnesses (Point v target) u = is_touched s witnesses v u
is_affected_by s witnesses (Flag v value) u = is_touched s witnesses v u
is_affected_by s witnesses (Join v) u = nat_eq u v
is_affected_by s witnesses (Leave v) u = is_near_leaver s v u
is_affected_by s witnesses (Step items) u = false
is_affected_by s witnesses (Show v) u = false
is_affected_by s witnesses Enabled u = false
is_affected_by s witnesses Matching u = false
is_affected_by s witnesses Status u = false

-- whether an event with this reply may enable or disable a rule at u
abbrev pub is_affected : State → List Witness → Event → Reply → ℕ → Bool
is_affected s witnesses event Accepted u = is_affected_by s witnesses event u
is_affected s witnesses event (Moves moves) u = list_any (λ m. is_touched s witnesses m.node u) moves
is_affected s witnesses event reply u = false

-- Of the names up to a size, the second list marks those that the first one marks, and those that pass the
-- test. It may mark more.
pub record MarksAll (size : ℕ) (test : ℕ → Bool) (was is : List Bool) : Type 0 where
  pub places : length is ≡ length was
  pub others : (u : ℕ) → u ≤ size → is_in is u ≡ false → (is_in was u ≡ false) × (test u ≡ false)
