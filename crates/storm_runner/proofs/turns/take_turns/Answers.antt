use Rattle.storm_runner.proofs.Prelude.{setting_of, ◌∙◌, arith, book_of, noted, prefix_trans}
use Rattle.storm_runner.proofs.TurnAddition.{all_taken, breaks_off, one_more, turns_rested}
use Rattle.storm_runner.proofs.ClerkNotes.{of_book}
use Rattle.storm_runner.proofs.turns.take_turns.Goals as goal

pub returns-then-not-branch-clause-ends : goal.returns-then-not-branch-clause-ends
returns-then-not-branch-clause-ends g c =
    let told = c.in_ok-take_turn.ensures in
    turns_rested _ _ _ _ c.args.count _ c.args.clerk.now c.loop.clerk c.take_turn.new.clerk c.loop-test.true told.grows c.loop.invariant.took (rw c.if-not-branch.true at told.ends)

pub loop-preserved : goal.loop-preserved
loop-preserved g c =
    let told = c.in_ok-take_turn.ensures in
    record {
      took = one_more _ _ _ _ _ _ c.args.clerk.now c.loop.clerk c.take_turn.new.clerk c.loop.invariant.base told.grows c.loop.invariant.took (rw c.if-not-branch.false at told.ends);
      note = of_book (book_of c.args.net.now) c.take_turn.new.clerk told.note;
      grows = prefix_trans (noted c.args.clerk.now.note) (noted c.loop.clerk.note) (noted c.take_turn.new.clerk.note) c.loop.invariant.grows told.grows;
      base = c.take_turn.ensures.base ∙ c.loop.invariant.base;
    }

pub returns-clause-ends : goal.returns-clause-ends
returns-clause-ends g c = all_taken _ _ _ _ c.args.count c.loop.counter _ _ (omega arith) c.loop.invariant.took

pub returns-in_err-take_turn-clause-ends : goal.returns-in_err-take_turn-clause-ends
returns-in_err-take_turn-clause-ends g c =
    breaks_off (setting_of g.R.Rules.table c.args.net.now) g.S.EventSource.draws (g.S.EventSource.stream c.args.source.now) (g.S.EventSource.stream c.loop.source) c.args.count _ c.args.clerk.now c.take_turn.new.clerk
    c.from_residual.result c.from_residual.ensures.0 c.loop-test.true (rw c.in_err-take_turn.ensures.kept c.loop.invariant.took)
