use Rattle.suitor_index.proofs.Prelude.{◌∙◌, sym, neighbours, State, is_open}
use Rattle.suitor_index.proofs.Counts.{open_counted}
use Rattle.suitor_index.proofs.Sums.{count_none}
use Rattle.suitor_index.proofs.indexed_net.IndexedNet.first_open.Goals as goal

pub returns-then-tally-eq0 : goal.returns-then-tally-eq0
returns-then-tally-eq0 g c =
    let s : State = c.args.self.now.state in
    let counted = open_counted g.R.Rules.COURTS_HIGHER_ONLY g.R.Rules.table.opens s c.args.v c.tally.result (sym c.COURTS_HIGHER_ONLY.ensures ∙ c.if-not-COURTS_HIGHER_ONLY.true) c.tally.ensures.value in
    sym (count_none (is_open g.R.Rules.table.opens s) (neighbours s.network c.args.v) (sym counted ∙ c.if-tally-eq0.true))
