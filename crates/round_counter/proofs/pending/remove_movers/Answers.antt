use Rattle.round_counter.proofs.Prelude.{◌∙◌, ap, is_in}
use Rattle.round_counter.proofs.Bits.{in_removed_by}
use Rattle.round_counter.proofs.Serving.{removed_more}
use Rattle.round_counter.proofs.pending.remove_movers.Goals as goal

pub loop-moved-preserved : goal.loop-moved-preserved
loop-moved-preserved c = removed_more c.args.pending.now c.loop-moved.pending c.remove.new.self c.args.moves.now c.loop-moved.moved-index c.moved-item.result c.loop-moved-test.true c.moved-item.is c.loop-moved.invariant (λ u. ap (λ set. is_in set u) c.remove.ensures ∙ in_removed_by c.loop-moved.pending c.moved-item.result.node u)
