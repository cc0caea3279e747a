use Rattle.suitor_index.proofs.Counts.{suitors_counted}
use Rattle.suitor_index.proofs.indexed_net.IndexedNet.has_suitor.Goals as goal

pub returns : goal.returns
returns g c = suitors_counted g.R.Rules.COURTS_HIGHER_ONLY g.R.Rules.table.opens c.args.self.now.state c.args.v c.tally.result c.tally.ensures.value
