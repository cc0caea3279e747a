use Rattle.script_run.proofs.Prelude.{◌∙◌, sym, returned}
use Rattle.script_run.proofs.RunEnds.{Ends-failed, Ends-unwritten, Ends-finished, Whole-finished, unwritten_is, written_not}
use Rattle.script_run.proofs.runner.play.Goals as goal

pub returns-then-is_unwritten-clause-outcome : goal.returns-then-is_unwritten-clause-outcome
returns-then-is_unwritten-clause-outcome g c =
    let ended = c.carry_out_all-ended in
    Ends-failed _ _ _ _ _ ended.result _ _ (unwritten_is ended.result (sym c.is_unwritten.ensures ∙ c.if-is_unwritten.true)) ended.ensures.outcome

pub returns-in_err-finish-clause-outcome : goal.returns-in_err-finish-clause-outcome
returns-in_err-finish-clause-outcome g c =
    let ended = c.carry_out_all-ended in
    Ends-unwritten _ _ _ _ _ ended.result (written_not ended.result (sym c.is_unwritten.ensures ∙ c.if-is_unwritten.false)) _ _ _ _ c.deref.ensures.value ended.ensures.outcome
    c.from_residual.result (returned _ _ c.from_residual.ensures.1) c.in_err-finish.ensures.fault

pub returns-clause-outcome : goal.returns-clause-outcome
returns-clause-outcome g c =
    let ended = c.carry_out_all-ended in
    Ends-finished _ _ _ _ _ ended.result (written_not ended.result (sym c.is_unwritten.ensures ∙ c.if-is_unwritten.false)) _ _ _ _ c.deref.ensures.value ended.ensures.outcome c.in_ok-finish.ensures.ok

pub returns-clause-whole : goal.returns-clause-whole
returns-clause-whole g c unread =
    Whole-finished _ _ _ _ _ _ _ _ _ _ c.deref.ensures.value (c.carry_out_all-ended.ensures.whole unread) c.in_ok-finish.ensures.ok
