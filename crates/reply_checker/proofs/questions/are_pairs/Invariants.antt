use Rattle.reply_checker.proofs.Prelude.{◌↔◌, drop, AreRising, lower_end_pair}
use Rattle.reply_checker.proofs.questions.are_pairs.Given as goal

abbrev pub invariant-loop-pair : goal.invariant-loop-pair
invariant-loop-pair l = AreRising (lower_end_pair l.net.state) 0 l.given ↔ AreRising (lower_end_pair l.net.state) l.last (drop l.pair-index l.given)
