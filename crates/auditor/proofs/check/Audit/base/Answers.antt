use Rattle.auditor.proofs.Prelude.{arith}
use Rattle.auditor.proofs.Spent.{spent_fits}
use Rattle.auditor.proofs.check.Audit.base.Goals as goal

pub overflow_cast-spent : goal.overflow_cast-spent
overflow_cast-spent c =
    let bounded = rw (← c.self.view_is) at c.requires.bounded in
    omega (arith, spent_fits c.in_ok-base.base c.self.inside.number c.self.inside.spent (record { state = c.self.inside.judge; spent = 0 }) c.in_ok-base.ensures.base c.in_ok-base.ensures.few bounded)
