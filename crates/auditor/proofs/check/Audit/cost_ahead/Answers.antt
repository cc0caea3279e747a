use Rattle.auditor.proofs.Prelude.{◌∙◌, ap, Event, Position, State, cost_by}
use Rattle.auditor.proofs.NextCosts.{next_cost, no_cost, none_cost}
use Rattle.auditor.proofs.check.Audit.cost_ahead.Goals as goal

pub returns-in_default : goal.returns-in_default
returns-in_default c rest ahead = none_cost _ _ rest c.args.ahead.now c.in_default.not-Some ahead

pub returns-in-Accepted : goal.returns-in-Accepted
returns-in-Accepted c rest ahead =
    let here = c.net.ensures.value ∙ ap (λ (p : Position). p.state) c.self.view_is in
    let cost = c.cost_of.ensures ∙ ap (λ (u : State). cost_by c.args.rules u c.event.result.now) here ∙ ap (λ (e : Event). cost_by c.args.rules c.args.self.now.state e) c.event.ensures.value in
    next_cost c.args.rules _ rest _ _ cost (rw c.in-Some.is at ahead)

pub returns-in_default-reply : goal.returns-in_default-reply
returns-in_default-reply c rest ahead = no_cost _ _ rest c.in-Some.entry (λ told. c.in_default-reply.not-Accepted (c.reply.ensures.value ∙ told)) (rw c.in-Some.is at ahead)
