use Rattle.std.proofs.Common.{◌≡◌, ◌∙◌, ◌<◌, ◌≤◌, None, Some, refl, arith}
use Rattle.run_session.proofs.Returned.{returned}
use Rattle.run_session.proofs.TurnProgress.{turned_begun, turned_more, turned_last, turned_full, turned_all, turned_failed, below_limit}
use Rattle.run_session.proofs.run.Run.take_turns.Goals as goal

pub returns-then-is_full-clause-ends : goal.returns-then-is_full-clause-ends
returns-then-is_full-clause-ends g c =
    let run = c.loop.self in
    let full : c.args.self.now.recorder.limit ≤ run.recorder.len = omega (arith, c.if-is_full.ensures.full.0 refl, c.loop.invariant.limit) in
    turned_full c.loop.invariant.turned c.loop-test.true _ full

pub returns-in_default-clause-ends : goal.returns-in_default-clause-ends
returns-in_default-clause-ends g c =
    let run = c.loop.self in
    let below : run.recorder.len < c.args.self.now.recorder.limit =
    omega (arith, below_limit run.recorder.len run.recorder.limit c.is_full.ensures.room c.if-is_full.ensures.full.1, c.loop.invariant.limit) in
    let drawn : g.S.EventSource.draws g.R.Rules.table run.recorder.state (g.S.EventSource.stream c.loop.source) ≡ (None, g.S.EventSource.stream c.next_event.new.self) =
    grind (arith, c.net.ensures.state, c.in_ok-event.ensures.event, c.in_default.is) in
    turned_last c.loop.invariant.turned c.loop-test.true _ (g.S.EventSource.stream c.next_event.new.self) below drawn

pub loop-preserved : goal.loop-preserved
loop-preserved g c =
    let run = c.loop.self in
    let done = rw c.in_ok-log.was at c.log.ensures.ends in
    let below : run.recorder.len < c.args.self.now.recorder.limit = omega (arith, done.0, c.loop.invariant.limit) in
    let drawn : g.S.EventSource.draws g.R.Rules.table run.recorder.state (g.S.EventSource.stream c.loop.source) ≡ (Some c.in-Some.event, g.S.EventSource.stream c.next_event.new.self) =
    grind (arith, c.net.ensures.state, c.in_ok-event.ensures.event, c.in-Some.is) in
    record {
      limit = c.log.ensures.limit ∙ c.loop.invariant.limit;
      turned = turned_more c.loop.invariant.turned c.loop-test.true c.in-Some.event (g.S.EventSource.stream c.next_event.new.self) _ below drawn done.1;
      unasked = λ full. absurd (let same = (c.loop.invariant.unasked full).1 in omega (arith, below, same));
    }

pub returns-in_err-event-clause-ends : goal.returns-in_err-event-clause-ends
returns-in_err-event-clause-ends g c = turned_begun c.loop.invariant.turned _ _ (returned _ _ c.from_residual.ensures.1)

pub returns-in_err-log-clause-ends : goal.returns-in_err-log-clause-ends
returns-in_err-log-clause-ends g c =
    let run = c.loop.self in
    let below : run.recorder.len < run.recorder.limit = below_limit run.recorder.len run.recorder.limit c.is_full.ensures.room c.if-is_full.ensures.full.1 in
    turned_failed c.loop.invariant.turned _ _ _ c.in-Some.event _ c.from_residual-in_err-log.result below (rw c.in_err-log.was at c.log.ensures.ends) (returned _ _ c.from_residual-in_err-log.ensures.1)

pub returns-clause-ends : goal.returns-clause-ends
returns-clause-ends g c = turned_all c.loop.invariant.turned c.loop-test.false
