use Rattle.steal_pool.proofs.Prelude.{◌≡◌, ℕ, ◌-◌, ap, ◌∙◌, arith, sum_by, range_with_len, length-set, verdicts_of, at_place}
use Rattle.steal_pool.proofs.VerdictTables.{no_places, verdict_there, reweighed, writes_one}
use Rattle.steal_pool.proofs.merging.write_block.Goals as goal

pub loop-place-init : goal.loop-place-init
loop-place-init g c = record {
  from = omega arith;
  size = c.requires.size;
  right = λ times before. reweighed _ c.args.table.now times _ (λ k. omega (arith, ap (sum_by (at_place k)) (no_places c.args.block.first))) before;
}

pub loop-place-preserved : goal.loop-place-preserved
loop-place-preserved g c =
    let loop = c.loop-place.invariant in
    let all = verdicts_of g.R.Rules.table c.args.net.now.state c.args.choice.now in
    let there = verdict_there g.R.Rules.table c.args.net.now.state c.args.choice.now c.loop-place.place c.verdict.result (omega arith) c.verdict.ensures in
    record {
      from = omega arith;
      size = length-set c.loop-place.table c.loop-place.place c.verdict.result ∙ loop.size;
      right = λ times before. writes_one all c.loop-place.table times c.args.block.first c.loop-place.place c.verdict.result loop.from there (omega (arith, loop.size)) (loop.right times before);
    }

pub returns : goal.returns
returns g c = λ times before.
    let loop = c.loop-place.invariant in
    let last : c.loop-place.place - c.args.block.first ≡ c.args.block.end - c.args.block.first = omega arith in
    reweighed _ c.loop-place.table _ _ (λ k. omega (arith, ap (λ (n : ℕ). sum_by (at_place k) (range_with_len c.args.block.first n)) last)) (loop.right times before)
