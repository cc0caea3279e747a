use Rattle.std.proofs.Common.{rules, sym, ◌∙◌}
use Rattle.log_entry.proofs.Derived.{lists_decide, values_decide}
use Rattle.rule_machine.specs.contracts.Reply as reply
use Rattle.log_entry.proofs.equality.same_reply.Goals as goal

pub returns : goal.returns
returns c =
    let same = values_decide reply.enum _ (search rules, (search rules, (lists_decide (λ x y. search rules), (search rules, (lists_decide (λ x y. search rules), (lists_decide (λ x y. search rules), (search rules, tt))))))) c.args.a.now c.args.b.now in
    (λ is. same.0 (sym c.eq.ensures ∙ is), λ is. c.eq.ensures ∙ same.1 is)
