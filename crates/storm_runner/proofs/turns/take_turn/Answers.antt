use Rattle.storm_runner.proofs.Prelude.{setting_of}
use Rattle.storm_runner.proofs.TurnAddition.{turn_ends}
use Rattle.storm_runner.proofs.turns.take_turn.Goals as goal

pub returns-clause-ends : goal.returns-clause-ends
returns-clause-ends g c =
    let told = c.in_ok-reply.ensures in
    rw c.is_some.ensures
    (turn_ends (setting_of g.R.Rules.table c.args.net.now) g.S.EventSource.draws (g.S.EventSource.stream c.args.source.now) (g.S.EventSource.stream c.record_next-answer.new.source) c.hold-held.result c.record_next-answer.new.held c.args.clerk.now c.record_next-answer.new.clerk c.take_in.new.clerk
    c.in_ok-reply.reply c.hold-held.ensures.own told.free told.drawn told.call.begins c.take_in.ensures.receipts (rw c.note-after.ensures.0 at c.take_in.ensures.after) c.take_in.ensures.grows)
