use Rattle.graph_store.proofs.Prelude.{◌+◌, ◌-◌, ◌/◌, ◌<◌, ◌≤◌, sym, subst, ◌∙◌, arith, IsPartFor, get_or_default_zero}
use Rattle.graph_store.proofs.Halves.{in_order, out_of_order, upper_half, lower_half}
use Rattle.graph_store.proofs.rows.halve.Goals as goal
use Rattle.graph_store.proofs.rows.halve.Goals.{then-lt, else-lt}

pub returns-clause-part : goal.returns-clause-part
returns-clause-part c =
    let row = c.args.row.now in
    let middle = c.args.part.start + c.args.part.size / 2 in
    let read = c.index-row-middle.is ∙ get_or_default_zero row middle c.index-row-middle.result (omega arith) in
    elim c.if-lt.branch [
      | then-lt w ↦
          let high = in_order c.args.name c.index-row-middle.result (sym c.lt.ensures ∙ w.if-lt.true) in
          subst (λ start. IsPartFor row c.args.name start (c.args.part.size - c.args.part.size / 2)) (sym w.start-is)
          (lower_half row c.args.name c.args.part.start c.args.part.size c.requires.rising c.requires.part (subst (λ n. c.args.name < n) read high))
      | else-lt w ↦
          let low = out_of_order c.args.name c.index-row-middle.result (sym c.lt.ensures ∙ w.if-lt.false) in
          subst (λ start. IsPartFor row c.args.name start (c.args.part.size - c.args.part.size / 2)) (sym w.start-is)
          (upper_half row c.args.name c.args.part.start c.args.part.size c.requires.rising c.requires.part (subst (λ n. n ≤ c.args.name) read low))
    ]
