use Rattle.reply_checker.proofs.Prelude.{◌≡◌, length, members}
use Rattle.reply_checker.proofs.counted_net.CountedNet.look.Given as goal

abbrev pub invariant-loop-v : goal.invariant-loop-v
invariant-loop-v l = record {
  state : l.self.net.state ≡ l.initial.self.net.state;
  rules : l.self.shares.rules ≡ l.initial.self.shares.rules;
  touched : l.self.shares.touched ≡ l.initial.self.shares.touched;
}

abbrev pub decreases-loop-v : goal.decreases-loop-v
decreases-loop-v l = length (members l.self.shares.due)
