use Rattle.line_text.proofs.TextGrowth.{Extends-then, Extends-by, on_err}
use Rattle.line_text.proofs.entry.append_header.Goals as goal

pub returns-in_err-extend_from_slice-2-clause-err : goal.returns-in_err-extend_from_slice-2-clause-err
returns-in_err-extend_from_slice-2-clause-err c =
    on_err _ _ (Extends-by _ _ _ _ c.in_err-extend_from_slice-2.ensures.items c.in_ok-extend_from_slice.ensures.items)

pub returns-in_err-push-clause-err : goal.returns-in_err-push-clause-err
returns-in_err-push-clause-err c =
    on_err _ _ (Extends-then _ _ _ _ c.in_ok-extend_from_slice.ensures.items (Extends-by _ _ _ _ c.in_err-push.ensures.items c.in_ok-extend_from_slice-2.ensures.items))

pub returns-in_err-put_sizes-clause-err : goal.returns-in_err-put_sizes-clause-err
returns-in_err-put_sizes-clause-err c =
    on_err _ _ (Extends-then _ _ _ _ c.in_ok-extend_from_slice.ensures.items (Extends-then _ _ _ _ c.in_ok-extend_from_slice-2.ensures.items (Extends-then _ _ _ _ c.in_ok-push.ensures.items c.in_err-put_sizes.ensures.err)))
