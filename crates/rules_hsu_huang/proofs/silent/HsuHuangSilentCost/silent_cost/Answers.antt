use Rattle.std.proofs.Common.{arith}
use Rattle.rules_hsu_huang.proofs.silent.HsuHuangSilentCost.silent_cost.Goals as goal

pub returns-in-Unlink : goal.returns-in-Unlink
returns-in-Unlink c = grind (arith, c.unlink_cost.ensures, c.in-Unlink.is)
