use Rattle.steal_pool.proofs.Prelude.{◌≡◌, ℕ, ◌-◌, List, [], ◌∷◌, ◌++◌, length, length-append, append-nil, sym, ap, subst, ◌∙◌, arith, range_with_len, verdicts_of, ok_branch, AreOf}
use Rattle.steal_pool.proofs.VerdictTables.{no_places, verdict_there, judges_one}
use Rattle.steal_pool.proofs.worker.judge_block.Goals as goal

pub loop-place-init : goal.loop-place-init
loop-place-init g c = record {
  from = omega arith;
  judged = λ taken before. subst (λ (l : List ℕ). AreOf (verdicts_of g.R.Rules.table c.args.net.now.state c.args.choice.now) l c.args.verdicts.now.items) (sym (ap (λ (l : List ℕ). taken ++ l) (no_places c.args.block.first) ∙ append-nil taken)) before;
  room = omega (arith, c.requires.room);
  kept = omega arith;
}

pub loop-place-preserved : goal.loop-place-preserved
loop-place-preserved g c =
    let loop = c.loop-place.invariant in
    let all = verdicts_of g.R.Rules.table c.args.net.now.state c.args.choice.now in
    let there = verdict_there g.R.Rules.table c.args.net.now.state c.args.choice.now c.loop-place.place c.verdict.result (omega arith) c.verdict.ensures in
    let push = c.push.ensures.items ∙ ok_branch c.push.result _ (c.loop-place.verdicts.items ++ c.verdict.result ∷ []) c.loop-place.verdicts.items c.unwrap.ensures in
    record {
      from = omega arith;
      judged = λ taken before. judges_one all taken c.args.block.first c.loop-place.place c.loop-place.verdicts.items c.push.new.self.items c.verdict.result loop.from there push (loop.judged taken before);
      room = omega (arith, loop.room, c.push.ensures.capacity, ap length push, length-append c.loop-place.verdicts.items (c.verdict.result ∷ []));
      kept = omega (arith, loop.kept, c.push.ensures.capacity);
    }

pub returns-clause-judged : goal.returns-clause-judged
returns-clause-judged g c = λ taken before.
    let loop = c.loop-place.invariant in
    let last : c.loop-place.place - c.args.block.first ≡ c.args.block.end - c.args.block.first = omega arith in
    subst (λ (n : ℕ). AreOf (verdicts_of g.R.Rules.table c.args.net.now.state c.args.choice.now) (taken ++ range_with_len c.args.block.first n) c.loop-place.verdicts.items) last (loop.judged taken before)
