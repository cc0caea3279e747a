use Rattle.reply_checker.proofs.Prelude.{◌∙◌, ◌≤◌, ◌≢◌, ℕ, Bool, List, ap, subst, sym, arith, one_fewer, inside, OpenEdges, end_at, RuleSet, AreExactIfFresh}
use Rattle.reply_checker.proofs.StoredContributions.{told_next}
use Rattle.reply_checker.proofs.counted_net.CountedNet.look.Goals as goal

pub loop-v-smaller : goal.loop-v-smaller
loop-v-smaller c = one_fewer c.loop-v.self.shares.due c.put.new.self.due c.in-Some.v c.in-Some.ensures.some (c.put.ensures.kept.1 ∙ c.in-Some.ensures.taken)

pub invariant_of-self-in-Some : goal.invariant_of-self-in-Some
invariant_of-self-in-Some c =
    let it = c.loop-v.self in
    let s = it.net.state in
    let now = c.put.new.self in
    let u = c.set_stance.ensures in
    let v = c.in-Some.v in
    let there = inside it.shares.due v c.in-Some.ensures.some in
    let within : v ≤ s.network.size = omega (arith, there, it.told.due_places) in
    let others = λ (w : ℕ) (apart : w ≢ v). u.others w apart ∙ ap (λ (o : OpenEdges). end_at o.stances.items w) c.put.ensures.open in
    let told = told_next it.shares.rules s it.shares.open_edges c.set_stance.new.self it.shares.each.items now.each.items it.shares.touched it.shares.due now.due v c.share_of-share.result within c.put.ensures.each (c.put.ensures.kept.1 ∙ c.in-Some.ensures.taken) c.share_of-share.ensures.share (λ here. u.told here ∙ c.end_at-end.ensures here) others u.counts it.told in
    let same = subst (λ (r : RuleSet). AreExactIfFresh r s c.set_stance.new.self now.each.items now.touched now.due) (sym c.put.ensures.rules)
    (subst (λ (l : List Bool). AreExactIfFresh it.shares.rules s c.set_stance.new.self now.each.items l now.due) (sym c.put.ensures.kept.0) told) in
    ((now.few, (now.light, (now.summed, tt))), (same, tt))
