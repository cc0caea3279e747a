-- The laws of the rule set, in one record.
use Rattle.std.proofs.Common.{true, false, refl}
use Rattle.rule_machine.specs.Manne.{manne}
use Rattle.rule_machine.specs.Charge.{manne_node_charge}
use Rattle.machine_laws.specs.ClosedByPointers.{manne_closes}
use Rattle.machine_laws.specs.Costs.{manne_cost}
use Rattle.rule_machine.specs.RulesLaws.{RulesLaws}
use Rattle.machine_laws.proofs.Asks.{manne_asks}
use Rattle.machine_laws.proofs.CostsOfRuns.{manne_disturbed}
use Rattle.machine_laws.proofs.Laws.{manne_charged}
use Rattle.machine_laws.proofs.Tables.{manne_table, manne_flagless}
use Rattle.rules_manne.specs.Charge.{adds_alike, manne_closes_alike, charge_is_counted, manne_weight_is_small, manne_null_closes}
use Rattle.rules_manne.specs.Rule.{manne_guard_is_view, manne_guard_is_local, manne_one_rule_at}
use Rattle.rules_manne.specs.Quiet.{manne_stable_from_quiet, manne_quiet_from_stable}

pub manne_laws : RulesLaws manne false true true 3 false manne_closes manne_node_charge manne_cost
manne_laws = record {
  is_central = refl;
  uses_flags = refl;
  table = manne_table;
  asks = manne_asks;
  is_local = manne_guard_is_local;
  is_glance = manne_guard_is_view;
  one_rule = manne_one_rule_at;
  no_update = manne_flagless;
  quiet_is_stable = manne_stable_from_quiet;
  stable_is_quiet = manne_quiet_from_stable;
  charge_counts = charge_is_counted;
  null_closes_none = manne_null_closes;
  near = record { closes_by_target = manne_closes_alike; adds_by_standing = adds_alike };
  is_light = manne_weight_is_small;
  charged = manne_charged;
  disturbances_cost = manne_disturbed;
}
