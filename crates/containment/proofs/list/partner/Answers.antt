use Rattle.containment.proofs.Prelude.{◌∙◌, sym, none_is, null_unmarried, points_true, partner_from}
use Rattle.containment.proofs.AbsentNames.{absent_unmarried, lone}
use Rattle.containment.proofs.list.partner.Goals as goal

pub returns-then-not-has : goal.returns-then-not-has
returns-then-not-has c = sym (none_is _ (sym (absent_unmarried c.args.net.now.state c.args.v c.registers.ensures.sound (sym c.has.ensures ∙ c.if-not-has.true))))

pub returns-in_default : goal.returns-in_default
returns-in_default c = sym (none_is _ (null_unmarried c.args.net.now.state c.args.v (sym c.pointer.ensures ∙ c.in_default.is)))

pub returns-then-points : goal.returns-then-points
returns-then-points c =
    let s = c.args.net.now.state in
    sym (partner_from s c.args.v c.in-Some.w c.registers.ensures.sound (sym c.pointer.ensures ∙ c.in-Some.is) (points_true s c.in-Some.w c.args.v (sym c.points.ensures ∙ c.if-points.true)))

pub returns : goal.returns
returns c = lone c.args.net.now.state c.args.v c.in-Some.w (sym c.pointer.ensures ∙ c.in-Some.is) (sym c.points.ensures ∙ c.if-points.false)
