use Rattle.suitor_index.proofs.Prelude.{◌≡◌, ◌+◌, ◌∙◌, refl, sym, ap, arith, true≢false, present_range, opening_with, State, tally_at, IsIndexed, []}
use Rattle.net_state.proofs.NodeRecords.{some_iff_at}
use Rattle.suitor_index.proofs.CountedNeighbours.{counted_more, counted_absent}
use Rattle.suitor_index.proofs.suitors.Suitors.of.Goals as goal
use Rattle.suitor_index.proofs.suitors.Suitors.of.Goals.{then-has, else-has}

pub loop-below-init : goal.loop-below-init
loop-below-init g c =
    let s : State = c.args.net.now.state in
    let size = c.capacity.ensures.size in
    let first : IsIndexed g.R.Rules.COURTS_HIGHER_ONLY g.R.Rules.table.opens (opening_with c.capacity.result 0) c.in_ok-suitors.suitors.tallies.items = c.in_ok-suitors.ensures (record { state = opening_with c.capacity.result 0; room = [] }) 0 refl in
    record {
      places = first.index.places ∙ ap (λ n. n + 1) size;
      counted = λ v low has. absurd (let range = present_range s.network v has in omega (arith, range.0, low));
    }

pub loop-below-preserved : goal.loop-below-preserved
loop-below-preserved g c =
    let above = g.R.Rules.COURTS_HIGHER_ONLY in
    let opens = g.R.Rules.table.opens in
    let s : State = c.args.net.now.state in
    let below = c.loop-below.below in
    let v = c.unwrap-v.result in
    let at : v ≡ below + 1 = some_iff_at c.new-in-loop-below.result _ (below + 1) v c.new-in-loop-below.ensures c.unwrap-v.ensures in
    let so_far = c.loop-below.invariant in
    elim c.if-has.branch [
      | then-has w ↦ rw w.suitors-is (counted_more above opens s below w.place.result w.count_at.result c.loop-below.suitors.tallies.items so_far (omega (arith, c.loop-below-test.true, c.capacity-below-end.ensures.size)) (w.place.ensures.same ∙ at) (w.count_at.ensures ∙ ap (tally_at above opens s) (sym w.place.ensures.same)))
      | else-has w ↦ rw w.suitors-is (counted_absent above opens s below v c.loop-below.suitors.tallies.items so_far at (λ has. true≢false (sym has ∙ sym c.has.ensures ∙ w.if-has.false)))
    ]
