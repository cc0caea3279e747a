use Rattle.graph_store.proofs.Prelude.{◌∙◌, ap, length, arith, remove}
use Rattle.graph_store.proofs.Contents.{taken_out}
use Rattle.graph_store.proofs.rows.take_at.Goals as goal

pub returns : goal.returns
returns c =
    let row = c.deref_mut.result.now in
    let same = c.deref_mut.ensures.value in
    c.pop-last.ensures.rest
    ∙ taken_out row c.drop_first.new.tail _ _ c.args.row.now.len c.args.place (omega arith) (omega (arith, ap length same)) c.drop_first.auto.tail c.drop_first.ensures
    ∙ ap (λ l. remove l c.args.place) same
