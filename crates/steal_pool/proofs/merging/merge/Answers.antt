use Rattle.steal_pool.proofs.Prelude.{◌≡◌, ℕ, List, [], ◌++◌, length, take, drop, vec_len, ap, sym, subst, ◌∙◌, rules, arith, Item, Verdict, owner_ledger, AreJoined, verdicts_of, length-verdicts_of, at_place, IsVerdictTable, taken_by, taken_in}
use lib.Seq.{take-append_seam}
use Rattle.steal_pool.proofs.VerdictTables.{reweighed}
use Rattle.steal_pool.proofs.EachPlace.{none_stand, all_merged}
use Rattle.steal_pool.proofs.merging.merge.Goals as goal

pub returns-in_default-clause-places : goal.returns-in_default-clause-places
returns-in_default-clause-places g c =
    let none : length c.args.choice.now ≡ 0 = search rules in
    ([], none_stand g.R.Rules.table c.args.net.now.state c.args.choice.now c.args.shares.items none c.requires.judged)

pub judge_left-requires-clause-right : goal.judge_left-requires-clause-right
judge_left-requires-clause-right g c =
    let all = verdicts_of g.R.Rules.table c.args.net.now.state c.args.choice.now in
    let size : vec_len c.in_ok-verdicts.verdicts ≡ length c.lay_out.new.table = omega (arith, c.in_ok-verdicts.ensures.len, ap length c.items-2.ensures.items, c.in_ok-ends.ensures.right.size, length-verdicts_of g.R.Rules.table c.args.net.now.state c.args.choice.now) in
    let same : c.deref_mut-2.result.now ≡ c.lay_out.new.table = c.deref_mut-2.ensures.value ∙ ap (λ (n : ℕ). take n (c.lay_out.new.table ++ drop (length c.lay_out.new.table) c.in_ok-verdicts.verdicts.items)) size ∙ take-append_seam c.lay_out.new.table (drop (length c.lay_out.new.table) c.in_ok-verdicts.verdicts.items) in
    reweighed all c.deref_mut-2.result.now (taken_by c.in_ok-ends.ends.items) (taken_in (owner_ledger c.gather-owner.result)) (λ k. c.gather-owner.ensures.taken (at_place k))
    (subst (λ (z : List Verdict). IsVerdictTable all z (taken_by c.in_ok-ends.ends.items)) (sym same) c.in_ok-ends.ensures.right)

pub returns-clause-places : goal.returns-clause-places
returns-clause-places g c =
    let rest = c.judge_left.ensures.places in
    let joined = subst (λ (l : List Item). AreJoined (length l) c.in_ok-ends.ends.items (owner_ledger c.gather-owner.result)) c.items-3.ensures.items c.gather-owner.ensures in
    (rest.0, all_merged (length c.args.choice.now) c.args.shares.items c.in_ok-ends.ends.items (owner_ledger c.gather-owner.result) rest.0 joined c.in_ok-ends.ensures.taken rest.1)
