use Rattle.graph_store.proofs.Prelude.{◌≤◌, ◌++◌, SomeIff, sym, ap, ap₂, ◌∙◌, subst, take, arith, pairs_from, row_at}
use Rattle.graph_store.proofs.PairLists.{pairs_of, pairs_next}
use Rattle.graph_store.proofs.row_pool.Rows.list_pairs.Goals as goal

pub loop-place-preserved : goal.loop-place-preserved
loop-place-preserved c =
    let lists = c.args.self.now.lists in
    let place = c.loop-place.place in
    let is = subst (λ o. SomeIff o ((1 ≤ place) × (place ≤ 65535)) place) c.unwrap-v.ensures c.new.ensures in
    c.in_ok-push_above.ensures
    ∙ ap (λ l. l ++ pairs_of c.unwrap-v.result c.row.result.now) c.loop-place.invariant
    ∙ ap₂ (λ v r. pairs_from 0 (take place lists) ++ pairs_of v r) is.1 (c.row.ensures ∙ ap (row_at lists) is.1)
    ∙ sym (pairs_next place lists (omega (arith, c.count-place-end.ensures, c.loop-place-test.true)))
