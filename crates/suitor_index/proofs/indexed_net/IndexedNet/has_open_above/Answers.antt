use Rattle.suitor_index.proofs.Prelude.{◌∙◌, ◌&&◌, nat_lt, reverse, sym, ap, neighbours, State, is_open}
use Rattle.suitor_index.proofs.Counts.{open_above_counted}
use Rattle.suitor_index.proofs.Sums.{count_some}
use Rattle.suitor_index.proofs.indexed_net.IndexedNet.has_open_above.Goals as goal

pub returns-then-COURTS_HIGHER_ONLY : goal.returns-then-COURTS_HIGHER_ONLY
returns-then-COURTS_HIGHER_ONLY g c =
    let s : State = c.args.self.now.state in
    let counted = open_above_counted g.R.Rules.COURTS_HIGHER_ONLY g.R.Rules.table.opens s c.args.v c.tally.result (sym c.COURTS_HIGHER_ONLY.ensures ∙ c.if-COURTS_HIGHER_ONLY.true) c.tally.ensures.value in
    ap (nat_lt 0) counted ∙ count_some (λ w. is_open g.R.Rules.table.opens s w && nat_lt c.args.v w) (reverse (neighbours s.network c.args.v))
