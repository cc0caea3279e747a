-- Hsu and Huang, "A self-stabilizing algorithm for maximal matching", 1992: one node moves at a time.
use Rattle.std.specs.Prelude.{ℕ, Bool, true, false, not, ◌&&◌, Option, is_some, is_none, find}
use Rattle.rule_machine.specs.declared.act.Act.{Act}
use Rattle.rule_machine.specs.declared.act.Act.TheVariants.{Update, Marry, Seduce, Abandon}
use Rattle.rule_machine.specs.Network.{linked, neighbours}
use Rattle.rule_machine.specs.State.{State, pointer, holds_at, points, suits, has_suitor}
use Rattle.rule_machine.specs.RuleTable.{RuleTable, is_open}
use Rattle.rule_machine.specs.Charge.{hsu_huang_charge}

-- a neighbour is open if its pointer is null
abbrev pub hsu_huang_opens : Option ℕ → Bool → Bool
hsu_huang_opens target flag = is_none target

abbrev pub hsu_huang_guard : State → ℕ → Act → Bool
hsu_huang_guard s v Update = false
-- v's pointer is null, and a neighbour points at v
hsu_huang_guard s v Marry = is_none (pointer s v) && has_suitor s v
-- v's pointer is null, no neighbour points at v, and a neighbour's pointer is null
hsu_huang_guard s v Seduce =
    is_none (pointer s v) && not (has_suitor s v) && is_some (find (is_open hsu_huang_opens s) (neighbours s.network v))
-- v points at a node that points at a third node
hsu_huang_guard s v Abandon =
    holds_at (λ w. is_some (pointer s w) && not (points s.registers w v)) (pointer s v)

abbrev pub hsu_huang_allowed : State → ℕ → Act → ℕ → Bool
hsu_huang_allowed s v Update w = false
-- any neighbour that points at v
hsu_huang_allowed s v Marry w = linked s.network v w && suits s v w
-- any neighbour whose pointer is null
hsu_huang_allowed s v Seduce w = linked s.network v w && is_open hsu_huang_opens s w
hsu_huang_allowed s v Abandon w = false

abbrev pub hsu_huang : RuleTable
hsu_huang = record {
  guard = hsu_huang_guard;
  allowed = hsu_huang_allowed;
  opens = hsu_huang_opens;
  charge = hsu_huang_charge;
  central = true;
  flags = false;
}
