use Rattle.net_totals.proofs.Prelude.{get_or, ap, ◌∙◌, arith, Contribution, sum_fits}
use Rattle.net_totals.proofs.contributions.Contributions.put.Goals as goal

pub overflow_add-self : goal.overflow_add-self
overflow_add-self g c =
    let it = c.args.self.now in
    let at = c.index-was.ensures ∙ ap (λ p. get_or it.each.items p c.index-was.result.now) c.place.ensures.same in
    let fits = sum_fits (λ (x : Contribution). x.added) 65535 it.each.items c.args.v c.index-was.result.now c.args.contribution it.added c.from.result c.from-2.result it.few (λ k d within. (it.light k d within).0) (omega arith) c.requires.contribution it.summed.in_all at c.from.ensures c.from-2.ensures in
    omega (arith, fits)

pub overflow_add-self-2 : goal.overflow_add-self-2
overflow_add-self-2 g c =
    let it = c.args.self.now in
    let at = c.index-was.ensures ∙ ap (λ p. get_or it.each.items p c.index-was.result.now) c.place.ensures.same in
    let fits = sum_fits (λ (x : Contribution). x.closing) 65535 it.each.items c.args.v c.index-was.result.now c.args.contribution it.closing c.from-3.result c.from-4.result it.few (λ k d within. (it.light k d within).1) (omega arith) c.requires.contribution it.summed.closed at c.from-3.ensures c.from-4.ensures in
    omega (arith, fits)
