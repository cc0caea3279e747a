use Rattle.rule_engine.proofs.Prelude.{◌∙◌, ℕ, Option, ap, sym, filter_map, arith, take_all, pair_above, answered_by}
use Rattle.rule_engine.proofs.NodeScans.{pushed_found, skipped_found}
use Rattle.rule_engine.proofs.listing.pairs_of.Goals as goal
use Rattle.rule_engine.proofs.listing.pairs_of.Goals.{in-Some+in_ok-push, in_default}

pub loop-v-preserved : goal.loop-v-preserved
loop-v-preserved c =
    let f : ℕ → Option (ℕ × ℕ) = λ v. pair_above v (answered_by c.args.registers.now v) in
    let v = c.v-item.result in
    let pair = c.pair_at.ensures in
    elim c.match-pair_at.branch [
      | in-Some+in_ok-push w ↦
          pushed_found f c.loop-v.pairs.items _ c.args.ends.now c.loop-v.v-index v _ c.loop-v-test.true c.v-item.is c.loop-v.invariant (ap (λ r. r.items) w.pairs-is ∙ w.in_ok-push.ensures.items) (sym pair ∙ w.in-Some.is)
      | in_default w ↦
          skipped_found f c.loop-v.pairs.items _ c.args.ends.now c.loop-v.v-index v c.loop-v-test.true c.v-item.is c.loop-v.invariant (ap (λ r. r.items) w.pairs-is) (sym pair ∙ w.in_default.is)
    ]

pub returns : goal.returns
returns c =
    let f : ℕ → Option (ℕ × ℕ) = λ v. pair_above v (answered_by c.args.registers.now v) in
    c.loop-v.invariant ∙ ap (filter_map f) (take_all c.loop-v.v-index c.args.ends.now (omega arith))
