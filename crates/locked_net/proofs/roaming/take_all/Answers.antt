use Rattle.locked_net.proofs.Prelude.{book_of, noted, setting_of}
use Rattle.locked_net.proofs.Turns.{ended_early, keeps_on, own_on, turns_more}
use Rattle.locked_net.proofs.roaming.take_all.Goals as goal

pub loop-turn-preserved : goal.loop-turn-preserved
loop-turn-preserved g c =
    let book = book_of c.args.config.now.net.now in
    let so_far = c.loop-turn.invariant in
    let told = c.in_ok-take_turn.ensures in
    let old = c.args.clerk.now in
    let mid = c.loop-turn.clerk in
    let new = c.take_turn.new.clerk in
    record {
      turns = turns_more (setting_of g.R.Rules.table c.args.config.now.net.now) (noted c.loop-turn.observer.note) (noted c.take_turn.new.observer.note) told.grows c.loop-turn.turn old.receipts mid.receipts new.receipts so_far.turns told.turn;
      note = keeps_on book old mid new so_far.note told.note;
      own = own_on book old mid new so_far.own told.own;
      observed = told.observed;
    }

pub returns-in_err-take_turn-clause-turns : goal.returns-in_err-take_turn-clause-turns
returns-in_err-take_turn-clause-turns g c =
    let so_far = c.loop-turn.invariant in
    let told = c.in_err-take_turn.ensures in
    ended_early (setting_of g.R.Rules.table c.args.config.now.net.now) (noted c.loop-turn.observer.note) (noted c.take_turn.new.observer.note) told.grows c.loop-turn.turn c.args.config.now.turns c.args.clerk.now c.loop-turn.clerk c.take_turn.new.clerk c.in_err-take_turn.field-0.0
    c.from_residual.result c.from_residual.ensures.0 c.from_residual.ensures.1 c.loop-turn-test.true told.kept so_far.turns told.fault
