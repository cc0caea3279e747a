use Rattle.suitor_index.proofs.Counts.{lone_counted}
use Rattle.suitor_index.proofs.indexed_net.IndexedNet.lone_suitor.Goals as goal

pub returns-then-tally-eq1 : goal.returns-then-tally-eq1
returns-then-tally-eq1 g c =
    lone_counted g.R.Rules.COURTS_HIGHER_ONLY g.R.Rules.table.opens c.args.self.now.state c.args.v c.tally-tally.result c.node_named.result c.tally-tally.ensures.sound c.tally-tally.ensures.value
    c.tally-tally.ensures.few c.node_named.ensures.short c.if-tally-eq1.true c.node_named.ensures.node
