use Rattle.suitor_index.proofs.Prelude.{set, sym, subst, arith, State, IsState, after_join, Tally, empty_tally, IsIndexed, IsIndexOf}
use Rattle.suitor_index.proofs.Nodes.{index_joined}
use Rattle.suitor_index.proofs.changes.joined.Goals as goal

pub returns : goal.returns
returns g c =
    let above = g.R.Rules.COURTS_HIGHER_ONLY in
    let opens = g.R.Rules.table.opens in
    let told = c.requires.told in
    let n = told.0.state in
    let ts = c.args.tallies.now in
    let named = c.place.ensures.named.0 in
    subst (λ (t : Tally). IsIndexed above opens c.args.net.now.state (set ts c.place.result t)) (sym c.lone_tally.ensures) (subst (λ (s : State). IsIndexed above opens s (set ts c.place.result empty_tally)) (sym told.1.0.made) record {
      is_state = subst IsState told.1.0.made told.1.0.is_state;
      index = subst (λ k. IsIndexOf above opens (after_join n c.args.v) (set ts k empty_tally)) (sym c.place.ensures.same) (index_joined above opens n.network n.registers c.args.v ts told.1.0.was_state (omega (arith, named, c.place.ensures.same)) told.1.0.due.1.0 told.1.0.due.1.1 told.1.1.index);
      few = told.1.1.few;
    })
