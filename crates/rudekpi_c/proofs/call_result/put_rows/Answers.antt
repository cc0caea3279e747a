use Rattle.std.proofs.Common.{◌∙◌, ◌++◌, map, take, drop, set, ap, arith}
use Rattle.rudekpi_c.proofs.RowOutput.{row_more}
use Rattle.rudekpi_c.proofs.call_result.put_rows.Goals as goal

pub loop-at-preserved : goal.loop-at-preserved
loop-at-preserved g c =
    let row = g.T.AsRow.shown in
    let items = c.args.items.now in
    let out = c.args.out.now in
    let at = c.loop-at.at in
    ap (λ rows. set rows at c.row.result) c.loop-at.invariant ∙ ap (λ r. set (map row (take at items) ++ drop at out) at r) c.row.ensures
    ∙ row_more row items out at c.index-items-at.result c.loop-at-test.true (omega (arith, c.if-items-out.false)) c.index-items-at.is
