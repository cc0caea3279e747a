use Rattle.judged_rounds.proofs.Prelude.{depends_on, witness_at}
use Rattle.judged_rounds.proofs.Sets.{marked_passing}
use Rattle.judged_rounds.proofs.around.mark_dependants.Goals as goal

pub loop-w-preserved : goal.loop-w-preserved
loop-w-preserved c =
    marked_passing c.args.size (λ u. depends_on (witness_at c.args.witnesses.now u) c.args.v) c.neighbours-w-items.result.now c.loop-w.w-index c.w-item.result c.args.due.now c.loop-w.due c.mark_dependant.new.due c.loop-w-test.true c.w-item.is c.loop-w.invariant c.mark_dependant.ensures
