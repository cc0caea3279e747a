use Rattle.enabled_set.proofs.MarkChanges.{one_fewer}
use Rattle.reply_checker.proofs.StoredContributions.{told_spread}
use Rattle.reply_checker.proofs.counted_net.CountedNet.spread.Goals as goal

pub loop-v-smaller : goal.loop-v-smaller
loop-v-smaller c = one_fewer c.loop-v.self.shares.touched c.take.new.self c.in-Some.v c.in-Some.ensures.some c.in-Some.ensures.taken

pub invariant_of-self-in-Some-2 : goal.invariant_of-self-in-Some-2
invariant_of-self-in-Some-2 c =
    let it = c.loop-v.self in
    record {
      told = told_spread it.shares.rules it.net.state it.shares.open_edges it.shares.each.items it.shares.touched c.take.new.self it.shares.due c.mark_around.new.due c.in-Some.v c.in-Some.ensures.taken c.mark_around.ensures it.told;
    }
