-- The silent cost of a disturbance is at most its cost, plus 2 if a new pair may form, plus 1 for `leave`.
use Rattle.std.proofs.Common.{ℕ, ◌+◌, ◌*◌, arith}
use Rattle.rule_machine.specs.declared.event.Event.{Event}
use Rattle.rule_machine.specs.State.{State}
use Rattle.rule_machine.specs.Manne.{manne}
use Rattle.machine_laws.specs.Costs.{manne_cost}
use Rattle.silence_laws.specs.Changes.{most_gained, nodes_gone}
use Rattle.silence_laws.specs.Costs.{manne_silent_cost}
use Rattle.silence_laws.proofs.MannePays.{manne_silent_cost_is_less}
use Rattle.move_bounds.specs.FromSilence.{ExceedsAtMost}

abbrev pub gained_and_gone : State → Event → ℕ
gained_and_gone s event = 2 * most_gained s event + nodes_gone event

pub manne_cost_is_less : ExceedsAtMost manne manne_silent_cost manne_cost gained_and_gone
manne_cost_is_less s good stable event = let less = manne_silent_cost_is_less s good stable event in omega (arith, less)
