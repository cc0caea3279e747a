use Rattle.daemon.proofs.Prelude.{◌≤◌, List, length, ap, sym, subst, ◌∙◌, arith, Stream, Item, members, IsLawful}
use Rattle.daemon.proofs.Odd.{lawful_one, lawful_some}
use Rattle.daemon.proofs.seeded.SeededDaemon.choose.Goals as goal
use Rattle.daemon.proofs.seeded.SeededDaemon.choose.Goals.{then-central, else-central+in_ok-choice}

pub returns-clause-lawful : goal.returns-clause-lawful
returns-clause-lawful g c =
    let bits = c.args.set.now in
    let stream = g.G.Rng.stream c.self.inside.generator in
    let some : 1 ≤ length (members bits) = omega arith in
    elim c.if-central.branch [
      | then-central w ↦ subst (IsLawful bits c.args.central) (sym (w.choice-is ∙ ap (λ (d : List Item × Stream). d.0) w.choose_one-choice.ensures)) (lawful_one bits c.args.central stream some)
      | else-central+in_ok-choice w ↦ subst (IsLawful bits c.args.central) (sym (w.choice-is ∙ ap (λ (d : List Item × Stream). d.0) w.in_ok-choice.ensures.drawn)) (lawful_some bits c.args.central stream some w.if-central.false)
    ]
