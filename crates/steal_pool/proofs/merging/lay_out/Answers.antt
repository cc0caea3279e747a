use Rattle.steal_pool.proofs.Prelude.{◌≡◌, ℕ, ◌+◌, List, ◌++◌, length, map, sym, refl, ap, ◌∙◌, subst, arith, sum_by, All-pop, sum_by_push, DequeEnd, end_hold, end_taken, AreAllEnds, Verdict, verdicts_of, length-verdicts_of, judged_hold, judged_places, judged_verdicts, AreJudged, at_place, taken_by, laid, HavePlacesBelow, IsVerdictTable, Some}
use Rattle.steal_pool.proofs.EachPlace.{moves_taken}
use Rattle.steal_pool.proofs.VerdictTables.{no_weight, fits, lays, shifted}
use Rattle.steal_pool.proofs.merging.lay_out.Goals as goal

pub loop-share-init : goal.loop-share-init
loop-share-init g c =
    let none = c.in_ok-ends.ensures.items in
    record {
      all = subst (λ (e : List DequeEnd). AreAllEnds (length c.args.choice.now) (map end_hold e ++ map judged_hold c.args.shares.items)) (sym none) c.requires.all;
      judged = c.requires.judged;
      right = no_weight (verdicts_of g.R.Rules.table c.args.net.now.state c.args.choice.now) c.args.table.now (c.requires.size ∙ sym (length-verdicts_of g.R.Rules.table c.args.net.now.state c.args.choice.now)) (taken_by c.in_ok-ends.ends.items) (λ k. ap (λ (e : List DequeEnd). taken_by e k) none);
      taken = λ h.
          let nothing : sum_by (λ (e : DequeEnd). sum_by h (end_taken e)) c.in_ok-ends.ends.items ≡ 0 = ap (sum_by (λ (e : DequeEnd). sum_by h (end_taken e))) none in
          omega arith;
    }

pub lay-requires : goal.lay-requires
lay-requires g c =
    let t = g.R.Rules.table in
    let s = c.args.net.now.state in
    let items = c.args.choice.now in
    let share = c.in-Some.share in
    let loop = c.loop-share.invariant in
    let judged = (All-pop (AreJudged t s items) c.loop-share.shares.items c.pop.new.self.items (Some share) c.in-Some.ensures.items loop.judged).1 in
    subst (λ (z : List Verdict). HavePlacesBelow (length c.loop-share.table) z) (sym c.deref.ensures.value)
    (subst (λ (n : ℕ). HavePlacesBelow n share.verdicts.items) (sym (loop.right.size ∙ length-verdicts_of t s items)) (fits t s items (judged_places share) (judged_verdicts share) judged))

pub loop-share-preserved : goal.loop-share-preserved
loop-share-preserved g c =
    let t = g.R.Rules.table in
    let s = c.args.net.now.state in
    let items = c.args.choice.now in
    let share = c.in-Some.share in
    let loop = c.loop-share.invariant in
    let before = c.loop-share.ends.items in
    let after = c.push.new.self.items in
    let parts = All-pop (AreJudged t s items) c.loop-share.shares.items c.pop.new.self.items (Some share) c.in-Some.ensures.items loop.judged in
    let more : (k : ℕ) → taken_by after k ≡ taken_by before k + sum_by (at_place k) (judged_places share) = λ k.
    ap (λ (z : List DequeEnd). taken_by z k) c.in_ok-push.ensures.items ∙ sum_by_push (λ (e : DequeEnd). sum_by (at_place k) (end_taken e)) before share.end in
    record {
      all = shifted end_hold judged_hold (length items) before after c.loop-share.shares.items c.pop.new.self.items share.end share c.in_ok-push.ensures.items c.in-Some.ensures.items refl loop.all;
      judged = parts.0;
      right = subst (λ (z : List Verdict). IsVerdictTable (verdicts_of t s items) z (taken_by after)) (sym (c.lay.ensures ∙ ap (laid c.loop-share.table) c.deref.ensures.value))
          (lays t s items (judged_places share) (judged_verdicts share) c.loop-share.table (taken_by before) (taken_by after) parts.1 more loop.right);
      taken = λ h. moves_taken h before after c.loop-share.shares.items c.pop.new.self.items c.args.shares.items share c.in_ok-push.ensures.items c.in-Some.ensures.items (loop.taken h);
    }
