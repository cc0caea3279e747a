use Rattle.steal_pool.proofs.Prelude.{◌≡◌, [], refl, arith, All-pop, end_hold, end_taken, DequeEnd, hand_hold, Some}
use Rattle.steal_pool.proofs.VerdictTables.{shifted, as_long}
use Rattle.steal_pool.proofs.EachPlace.{one_numbered}
use Rattle.steal_pool.proofs.dealing.deal.Goals as goal

pub loop-end-preserved : goal.loop-end-preserved
loop-end-preserved c =
    let loop = c.loop-end.invariant in
    record {
      all = shifted hand_hold end_hold _ c.loop-end.hands.items c.push.new.self.items c.loop-end.ends.items c.pop.new.self.items _ c.in-Some.end c.in_ok-push.ensures.items c.in-Some.ensures.items refl loop.all;
      fresh = (All-pop (λ (e : DequeEnd). end_taken e ≡ []) c.loop-end.ends.items c.pop.new.self.items (Some c.in-Some.end) c.in-Some.ensures.items loop.fresh).0;
      numbered = one_numbered c.loop-end.hands.items c.push.new.self.items _ c.in_ok-push.ensures.items (omega (arith, c.len-worker.ensures)) loop.numbered;
      number = as_long c.loop-end.hands.items c.push.new.self.items c.loop-end.ends.items c.pop.new.self.items _ c.in-Some.end c.in_ok-push.ensures.items c.in-Some.ensures.items loop.number;
    }
