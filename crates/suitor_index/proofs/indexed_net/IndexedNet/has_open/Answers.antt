use Rattle.suitor_index.proofs.Prelude.{◌∙◌, nat_lt, sym, ap, neighbours, State, is_open}
use Rattle.suitor_index.proofs.Counts.{open_counted}
use Rattle.suitor_index.proofs.Sums.{count_some}
use Rattle.suitor_index.proofs.indexed_net.IndexedNet.has_open.Goals as goal

pub returns-else-COURTS_HIGHER_ONLY : goal.returns-else-COURTS_HIGHER_ONLY
returns-else-COURTS_HIGHER_ONLY g c =
    let s : State = c.args.self.now.state in
    let counted = open_counted g.R.Rules.COURTS_HIGHER_ONLY g.R.Rules.table.opens s c.args.v c.tally.result (sym c.COURTS_HIGHER_ONLY.ensures ∙ c.if-COURTS_HIGHER_ONLY.false) c.tally.ensures.value in
    ap (nat_lt 0) counted ∙ count_some (is_open g.R.Rules.table.opens s) (neighbours s.network c.args.v)
