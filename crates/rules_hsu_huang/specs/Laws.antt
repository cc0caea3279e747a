-- The laws of the rule set, in one record.
use Rattle.std.proofs.Common.{true, false, refl}
use Rattle.rule_machine.specs.HsuHuang.{hsu_huang}
use Rattle.machine_laws.specs.ClosedByPointers.{hsu_huang_closes}
use Rattle.machine_laws.specs.Costs.{hsu_huang_cost}
use Rattle.rule_machine.specs.RulesLaws.{RulesLaws}
use Rattle.machine_laws.proofs.Asks.{hsu_huang_asks}
use Rattle.machine_laws.proofs.CostsOfRuns.{hsu_huang_disturbed}
use Rattle.machine_laws.proofs.Laws.{hsu_huang_charged}
use Rattle.machine_laws.proofs.Tables.{hsu_huang_table, hsu_huang_flagless}
use Rattle.rules_hsu_huang.specs.Charge.{no_flag_charge, charge_without_nodes, hsu_huang_weight_is_small, hsu_huang_null_closes, hsu_huang_closes_alike}
use Rattle.rules_hsu_huang.specs.Rule.{hsu_huang_guard_is_view, hsu_huang_guard_is_local, hsu_huang_one_rule_at}
use Rattle.rules_hsu_huang.specs.Quiet.{hsu_huang_stable_from_quiet, hsu_huang_quiet_from_stable}

pub hsu_huang_laws : RulesLaws hsu_huang true false false 1 true hsu_huang_closes no_flag_charge hsu_huang_cost
hsu_huang_laws = record {
  is_central = refl;
  uses_flags = refl;
  table = hsu_huang_table;
  asks = hsu_huang_asks;
  is_local = hsu_huang_guard_is_local;
  is_glance = hsu_huang_guard_is_view;
  one_rule = hsu_huang_one_rule_at;
  no_update = hsu_huang_flagless;
  quiet_is_stable = hsu_huang_stable_from_quiet;
  stable_is_quiet = hsu_huang_quiet_from_stable;
  charge_counts = charge_without_nodes;
  null_closes_none = hsu_huang_null_closes;
  near = record { closes_by_target = hsu_huang_closes_alike; adds_by_standing = λ _ _ _ _. refl };
  is_light = hsu_huang_weight_is_small;
  charged = hsu_huang_charged;
  disturbances_cost = hsu_huang_disturbed;
}
