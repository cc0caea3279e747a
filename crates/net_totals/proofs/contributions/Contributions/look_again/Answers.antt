use Rattle.net_totals.proofs.Prelude.{◌∙◌, ◌≤◌, ◌≢◌, ℕ, ap, subst, arith, one_fewer, inside, StateView, State, OpenEdges, end_at}
use Rattle.net_totals.proofs.StoredContributions.{IsLook, told_next}
use Rattle.net_totals.proofs.contributions.Contributions.look_again.Goals as goal

pub loop-v-smaller : goal.loop-v-smaller
loop-v-smaller g c = one_fewer c.loop-v.self.stale c.put.new.self.stale c.in-Some.v c.in-Some.ensures.some (c.put.ensures.stale ∙ c.in-Some.ensures.taken)

pub loop-v-preserved : goal.loop-v-preserved
loop-v-preserved g c =
    let close = g.R.Rules.COURTED_PAIR_CLOSES_EDGE in
    let it = c.loop-v.self in
    let kept = c.loop-v.invariant in
    let s : State = c.args.net.now.state in
    let now = c.put.new.self in
    let v = c.in-Some.v in
    let look = subst (λ (h : StateView). IsLook close g.R.Rules.closes g.R.Rules.adds h.state v c.contribution_of-contribution.result c.is_lower_end-is_lower_end.result c.stance_at-stance.result) c.new-index.ensures
    record { added = c.contribution_of-contribution.ensures.added; closing = c.contribution_of-contribution.ensures.closing; lower = c.is_lower_end-is_lower_end.ensures; end = c.stance_at-stance.ensures } in
    let there = inside it.stale v c.in-Some.ensures.some in
    let within : v ≤ s.network.size = omega (arith, there, kept.exact.stale_places) in
    let others = λ (w : ℕ) (apart : w ≢ v). c.set_stance.ensures.others w apart ∙ ap (λ (o : OpenEdges). end_at o.stances.items w) c.put.ensures.open in
    record {
      sound = kept.sound;
      exact = told_next close g.R.Rules.closes g.R.Rules.adds s it.open_edges.stances.items c.set_stance.new.self.stances.items it.each.items now.each.items it.lower_ends now.lower_ends it.stale now.stale v _ _ _ within c.put.ensures.each c.put.ensures.lower (c.put.ensures.stale ∙ c.in-Some.ensures.taken) look c.set_stance.ensures.told others kept.exact;
      counted = c.set_stance.ensures.counts;
    }
