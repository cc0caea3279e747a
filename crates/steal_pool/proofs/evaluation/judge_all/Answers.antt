use Rattle.steal_pool.proofs.Prelude.{◌∷◌, ◌++◌, [], ◌<◌, length, ap, ap₂, sym, ◌∙◌, arith, take_all, take_more, get_or_from_slice_get, Verdict, verdicts_of, length-verdicts_of}
use Rattle.steal_pool.proofs.VerdictTables.{verdict_there}
use Rattle.steal_pool.proofs.evaluation.judge_all.Goals as goal

pub loop-place-preserved : goal.loop-place-preserved
loop-place-preserved g c =
    let below : c.loop-place.place < length c.args.choice.now = grind arith in
    let all = verdicts_of g.R.Rules.table c.args.net.now.state c.args.choice.now in
    let v = c.verdict.result in
    let size = length-verdicts_of g.R.Rules.table c.args.net.now.state c.args.choice.now in
    let here = get_or_from_slice_get all c.loop-place.place v v (verdict_there g.R.Rules.table c.args.net.now.state c.args.choice.now c.loop-place.place v below c.verdict.ensures) in
    c.in_ok-push.ensures.items ∙ ap₂ (λ vs (w : Verdict). vs ++ w ∷ []) c.loop-place.invariant (sym here) ∙ sym (take_more all c.loop-place.place v (omega (arith, below, size)))

pub returns : goal.returns
returns g c =
    let size = length-verdicts_of g.R.Rules.table c.args.net.now.state c.args.choice.now in
    c.loop-place.invariant ∙ take_all c.loop-place.place (verdicts_of g.R.Rules.table c.args.net.now.state c.args.choice.now) (omega (arith, size, ap length c.items-items.ensures.items))
