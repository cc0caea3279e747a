use Rattle.suitor_index.proofs.Prelude.{◌+◌, ◌∙◌, replicate, ap, refl, subst, sym, State, IsIndexed}
use Rattle.suitor_index.proofs.Nodes.{indexed_at_first}
use Rattle.suitor_index.proofs.suitors.Suitors.new.Goals as goal

pub returns : goal.returns
returns g c = λ net count is.
    let above = g.R.Rules.COURTS_HIGHER_ONLY in
    let opens = g.R.Rules.table.opens in
    subst (λ (s : State). IsIndexed above opens s c.in_ok-tallies.tallies.items) (sym is)
    (indexed_at_first above opens c.args.nodes count _ c.in_ok-tallies.tallies.items c.requires refl (c.in_ok-tallies.ensures.items_if_clones_equal (λ y same. same) ∙ ap (replicate (c.args.nodes + 1)) c.lone_tally.ensures))
