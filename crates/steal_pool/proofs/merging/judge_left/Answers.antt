use Rattle.steal_pool.proofs.Prelude.{[], ◌∷◌, ◌++◌, length, ap, ◌∙◌, subst, rules, Ledger, places_in, AreAllPlaces, owner_ledger, taken_in, verdicts_of, length-verdicts_of}
use Rattle.steal_pool.proofs.EachPlace.{took_more}
use Rattle.steal_pool.proofs.VerdictTables.{reweighed, takes_block, all_laid, all_known}
use Rattle.steal_pool.proofs.merging.judge_left.Goals as goal

pub loop-block-preserved : goal.loop-block-preserved
loop-block-preserved g c =
    let loop = c.loop-block.invariant in
    let took = c.in-Some.ensures.taken.0 in
    record {
      whole = ap (λ (v : Ledger). v.parts) took ∙ loop.whole;
      count = ap (λ (v : Ledger). v.count) took ∙ loop.count;
      right = reweighed (verdicts_of g.R.Rules.table c.args.net.now.state c.args.choice.now) c.write_block.new.table _ (taken_in (owner_ledger c.take.new.self)) (takes_block (owner_ledger c.loop-block.owner) (owner_ledger c.take.new.self) c.in-Some.block took) (c.write_block.ensures (taken_in (owner_ledger c.loop-block.owner)) loop.right);
      taken = (loop.taken.0 ++ places_in (c.in-Some.block ∷ []), took_more (owner_ledger c.args.owner).taken loop.taken.0 (owner_ledger c.loop-block.owner) (owner_ledger c.take.new.self) c.in-Some.block took loop.taken.1);
    }

pub write_block-requires-clause-size : goal.write_block-requires-clause-size
write_block-requires-clause-size g c = c.loop-block.invariant.right.size ∙ length-verdicts_of g.R.Rules.table c.args.net.now.state c.args.choice.now

pub returns-clause-places : goal.returns-clause-places
returns-clause-places g c =
    let loop = c.loop-block.invariant in
    let v = owner_ledger c.loop-block.owner in
    (loop.taken.0, subst (AreAllPlaces (length c.args.choice.now)) loop.taken.1 (all_known v (owner_ledger c.take.new.self) _ c.take.result loop.whole loop.count (search rules) c.take.ensures.taken))

pub returns-clause-verdicts : goal.returns-clause-verdicts
returns-clause-verdicts g c =
    let loop = c.loop-block.invariant in
    let v = owner_ledger c.loop-block.owner in
    all_laid g.R.Rules.table c.args.net.now.state c.args.choice.now v.taken c.loop-block.table (all_known v (owner_ledger c.take.new.self) _ c.take.result loop.whole loop.count (search rules) c.take.ensures.taken) loop.right
