use Rattle.script_run.proofs.Prelude.{nil_from_length, ◌≡◌, ◌∙◌, [], sym, arith, returned}
use Rattle.script_run.proofs.RunProgress.{never_read, Last-none, Last-whole, Last-stopped}
use Rattle.script_run.proofs.runner.Run.carry_out_last.Goals as goal

pub returns-then-is_empty-clause-last : goal.returns-then-is_empty-clause-last
returns-then-is_empty-clause-last g c start old read h = Last-none h (nil_from_length c.args.reading.now.begun.items (grind arith))

pub returns-in_err-carry_out-clause-last : goal.returns-in_err-carry_out-clause-last
returns-in_err-carry_out-clause-last g c start old read h =
    let some : c.args.reading.now.begun.items ≡ [] → ⊥ = λ none. absurd (grind arith) in
    Last-stopped _ _ _ c.carry_out.result c.from_residual.result h some (rw c.deref.ensures.value at c.carry_out.ensures.ends) c.in_err-carry_out.was (returned _ _ c.from_residual.ensures.1)

pub returns-in_err-carry_out-clause-reads : goal.returns-in_err-carry_out-clause-reads
returns-in_err-carry_out-clause-reads g c =
    never_read _ _ _ _ _ _ _ _ _ c.carry_out.result c.from_residual.result c.carry_out.ensures.ends c.in_err-carry_out.was (returned _ _ c.from_residual.ensures.1)

pub returns-in_err-carry_out-clause-unwritten : goal.returns-in_err-carry_out-clause-unwritten
returns-in_err-carry_out-clause-unwritten g c same =
    c.carry_out.ensures.unwritten (c.in_err-carry_out.was ∙ sym (returned _ _ c.from_residual.ensures.1) ∙ same)

pub returns-clause-last : goal.returns-clause-last
returns-clause-last g c start old read h =
    let some : c.args.reading.now.begun.items ≡ [] → ⊥ = λ none. absurd (grind arith) in
    Last-whole _ c.carry_out.result h some (rw c.deref.ensures.value at c.carry_out.ensures.ends) c.in_ok-carry_out.was
