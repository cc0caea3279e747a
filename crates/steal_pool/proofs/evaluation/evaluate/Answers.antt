use Rattle.steal_pool.proofs.Prelude.{◌≡◌, length, All, sym, subst, rules, EndView, AreAllEnds, Hand, hand_hold}
use Rattle.steal_pool.proofs.Joinings.{all_unmap}
use Rattle.steal_pool.proofs.evaluation.evaluate.Goals as goal

pub work_all-requires-after_bounds : goal.work_all-requires-after_bounds
work_all-requires-after_bounds g c =
    let held : All (λ (h : Hand). (hand_hold h).count ≡ length c.args.choice.now) c.in_ok-hands.hands.items = all_unmap hand_hold (λ (h : EndView). h.count ≡ length c.args.choice.now) c.in_ok-hands.hands.items c.in_ok-hands.ensures.all.size in
    search rules

pub merge-requires-clause-all : goal.merge-requires-clause-all
merge-requires-clause-all g c = subst (AreAllEnds (length c.args.choice.now)) (sym c.in_ok-shares.ensures.hold) c.in_ok-hands.ensures.all
