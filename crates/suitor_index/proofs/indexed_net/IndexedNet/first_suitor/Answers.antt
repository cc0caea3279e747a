use Rattle.suitor_index.proofs.Counts.{no_suitor_counted, one_suitor_counted}
use Rattle.suitor_index.proofs.indexed_net.IndexedNet.first_suitor.Goals as goal

pub returns-in-0 : goal.returns-in-0
returns-in-0 g c = no_suitor_counted g.R.Rules.COURTS_HIGHER_ONLY g.R.Rules.table.opens c.args.self.now.state c.args.v c.tally-tally.result c.tally-tally.ensures.value c.in-0.is

pub returns-in-1 : goal.returns-in-1
returns-in-1 g c =
    one_suitor_counted g.R.Rules.COURTS_HIGHER_ONLY g.R.Rules.table.opens c.args.self.now.state c.args.v c.tally-tally.result c.node_named.result c.tally-tally.ensures.sound c.tally-tally.ensures.value
    c.tally-tally.ensures.few c.node_named.ensures.short c.in-1.is c.node_named.ensures.node
