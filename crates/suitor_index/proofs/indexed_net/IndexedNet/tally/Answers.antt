use Rattle.suitor_index.proofs.Prelude.{◌∙◌, ◌<◌, IsTrue, ap, arith, subst, sym, get_or_read_under, present_range, present, StateView, empty_tally, reduced, tally_at, tally_of}
use Rattle.suitor_index.proofs.indexed_net.IndexedNet.tally.Goals as goal

pub returns-clause-value : goal.returns-clause-value
returns-clause-value g c =
    let n : StateView = c.self.inside.net.now in
    let ts = c.self.inside.suitors.now.tallies in
    let here = subst (λ (h : StateView). IsTrue (present h.state.network c.args.v)) (sym c.self.view_is) c.requires in
    let within = present_range n.state.network c.args.v here in
    let inside : c.place.result < ts.len = omega (arith, within.1, c.self.invariant.index.places, c.place.ensures.same, ts.ok.0) in
    ap reduced (get_or_read_under ts.items c.place.result ts.len c.index.result.now empty_tally c.index.ensures inside ts.ok.0 ∙ ap (tally_of ts.items) c.place.ensures.same)
    ∙ c.self.invariant.index.counted c.args.v here
    ∙ ap (λ (h : StateView). tally_at g.R.Rules.COURTS_HIGHER_ONLY g.R.Rules.table.opens h.state c.args.v) c.self.view_is
