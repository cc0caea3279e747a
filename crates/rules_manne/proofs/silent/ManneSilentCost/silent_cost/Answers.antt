use Rattle.std.proofs.Common.{◌∙◌, ap, sym}
use Rattle.silence_laws.specs.Costs.{manne_silent_cost}
use Rattle.rules_manne.proofs.silent.ManneSilentCost.silent_cost.Goals as goal

pub returns-in-Unlink : goal.returns-in-Unlink
returns-in-Unlink c = c.unlink_cost.ensures ∙ ap (manne_silent_cost (c.args.net.now.state)) (sym c.in-Unlink.is)
