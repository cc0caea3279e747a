use Rattle.line_text.proofs.TextGrowth.{err_then}
use Rattle.line_text.proofs.base.append_base.Goals as goal

pub returns-clause-err : goal.returns-clause-err
returns-clause-err c =
    err_then _ _ _ _ _ c.in_ok-put_head.ensures.ok
    (err_then _ _ _ _ _ c.in_ok-put_counts.ensures.ok (err_then _ _ _ _ _ c.in_ok-put_lines.ensures.ok c.put_lines-2.ensures.err))
