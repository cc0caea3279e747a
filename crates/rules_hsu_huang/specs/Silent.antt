-- The silent cost of a disturbance is at most its cost.
use Rattle.std.proofs.Common.{ℕ, arith}
use Rattle.rule_machine.specs.declared.event.Event.{Event}
use Rattle.rule_machine.specs.State.{State}
use Rattle.rule_machine.specs.HsuHuang.{hsu_huang}
use Rattle.machine_laws.specs.Costs.{hsu_huang_cost}
use Rattle.silence_laws.specs.Costs.{silent_cost}
use Rattle.silence_laws.proofs.CostComparison.{silent_cost_is_less}
use Rattle.move_bounds.specs.FromSilence.{ExceedsAtMost}

abbrev pub no_excess : State → Event → ℕ
no_excess s event = 0

pub hsu_huang_cost_is_less : ExceedsAtMost hsu_huang silent_cost hsu_huang_cost no_excess
hsu_huang_cost_is_less s good stable event = let less = silent_cost_is_less s good stable event in omega (arith, less)
