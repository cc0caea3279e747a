use Rattle.line_text.proofs.TextGrowth.{Extends-then, Extends-by, on_err}
use Rattle.line_text.proofs.base.put_lines.Goals as goal

pub returns-in_err-put_line-clause-err : goal.returns-in_err-put_line-clause-err
returns-in_err-put_line-clause-err g c =
    on_err _ _ (Extends-then _ _ _ _ c.loop-line.invariant c.in_err-put_line.ensures.err)

pub returns-in_err-push-clause-err : goal.returns-in_err-push-clause-err
returns-in_err-push-clause-err g c =
    on_err _ _ (Extends-then _ _ _ _ c.loop-line.invariant (Extends-by _ _ _ _ c.in_err-push.ensures.items c.in_ok-put_line.ensures.ok))
