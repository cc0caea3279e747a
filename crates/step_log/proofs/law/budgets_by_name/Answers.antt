use Rattle.std.proofs.Common.{arith}
use Rattle.step_log.proofs.law.budgets_by_name.Goals as goal

pub returns-clause-hsu_huang : goal.returns-clause-hsu_huang
returns-clause-hsu_huang c kept upholds before calm after m n same here there undisturbed =
    let paid = upholds.budget before calm after m n same here there undisturbed in omega (arith, paid.0, paid.1)

pub returns-clause-manne : goal.returns-clause-manne
returns-clause-manne c kept upholds before calm after m n same here there undisturbed =
    let paid = upholds.budget before calm after m n same here there undisturbed in omega (arith, paid.0, paid.1)
