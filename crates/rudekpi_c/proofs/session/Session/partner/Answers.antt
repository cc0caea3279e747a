use Rattle.std.proofs.Common.{◌∙◌, sym, ap}
use Rattle.rule_machine.specs.State.{pointer_of, points}
use Rattle.rudekpi_c.specs.StateViews.{state_at}
use Rattle.rudekpi_c.proofs.Partners.{points_nowhere, unanswered, answered}
use Rattle.rudekpi_c.proofs.session.Session.partner.Goals as goal

pub returns-in-None : goal.returns-in-None
returns-in-None c =
    let same = c.registers-registers.ensures.value in
    sym (points_nowhere (state_at c.args.self.now) c.args.v (sym (ap (λ r. pointer_of r c.args.v) same) ∙ sym c.pointer.ensures ∙ c.in-None.is))

pub returns-then-points_at : goal.returns-then-points_at
returns-then-points_at c =
    let same = c.registers-registers.ensures.value in
    sym (answered (state_at c.args.self.now) c.args.v c.in-Some.value c.registers-registers.ensures.state
    (sym (ap (λ r. pointer_of r c.args.v) same) ∙ sym c.pointer.ensures ∙ c.in-Some.is)
    (sym (ap (λ r. points r c.in-Some.value c.args.v) same) ∙ sym c.points_at.ensures ∙ c.if-points_at.true))

pub returns : goal.returns
returns c =
    let same = c.registers-registers.ensures.value in
    sym (unanswered (state_at c.args.self.now) c.args.v c.in-Some.value (sym (ap (λ r. pointer_of r c.args.v) same) ∙ sym c.pointer.ensures ∙ c.in-Some.is)
    (sym (ap (λ r. points r c.in-Some.value c.args.v) same) ∙ sym c.points_at.ensures ∙ c.if-points_at.false))
