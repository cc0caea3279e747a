use Rattle.reply_checker.proofs.Prelude.{◌↔◌, drop, table_of, AreRising, ruled_node}
use Rattle.reply_checker.proofs.questions.are_ruled.Given as goal

abbrev pub invariant-loop-item : goal.invariant-loop-item
invariant-loop-item l = AreRising (ruled_node (table_of l.counted.shares.rules) l.counted.net.state) 0 l.given ↔ AreRising (ruled_node (table_of l.counted.shares.rules) l.counted.net.state) l.last (drop l.item-index l.given)
