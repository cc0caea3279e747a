use Rattle.graph_store.proofs.Prelude.{◌≡◌, ◌-◌, ◌<◌, ◌∙◌, length, true≢false, sym, subst, arith, get_or_default_zero}
use Rattle.graph_store.proofs.Halves.{in_order}
use Rattle.graph_store.proofs.Results.{gap_here}
use Rattle.graph_store.proofs.rows.find_outer_gap.Goals as goal
use Rattle.graph_store.proofs.rows.find_outer_gap.Goals.{then-is_empty-via-then-is_empty, then-is_empty-via-else-is_empty+then-lt}

pub returns-then-is_empty : goal.returns-then-is_empty
returns-then-is_empty c = record {
  gap = elim c.then-is_empty.branch [
    | then-is_empty-via-then-is_empty w ↦
        let none : length c.args.row.now ≡ 0 = grind (arith, c.is_empty.ensures, w.if-is_empty.true) in
        gap_here c.args.row.now c.args.name 0 c.requires (omega arith) (λ some. absurd (omega (arith, some))) (λ some. absurd (omega (arith, some, none)))
    | then-is_empty-via-else-is_empty+then-lt w ↦
        gap_here c.args.row.now c.args.name 0 c.requires (omega arith) (λ some. absurd (omega (arith, some))) (λ some.
        let low = in_order c.args.name w.index-row-0.result (sym w.lt.ensures ∙ w.if-lt.true) in
        subst (λ first. c.args.name < first) (w.index-row-0.is ∙ get_or_default_zero c.args.row.now 0 w.index-row-0.result some) low)
  ];
  some = λ e. absurd (true≢false e);
}

pub returns-then-lt-2 : goal.returns-then-lt-2
returns-then-lt-2 c =
    let row = c.args.row.now in
    let high = in_order c.index-row-row.result c.args.name (sym c.lt-2.ensures ∙ c.if-lt-2.true) in
    record {
      gap = gap_here row c.args.name (length row) c.requires (omega arith) (λ some.
          subst (λ last. last < c.args.name) (c.index-row-row.is ∙ get_or_default_zero row (length row - 1) c.index-row-row.result (omega (arith, some))) high) (λ past. absurd (omega (arith, past)));
      some = λ e. absurd (true≢false e);
    }
