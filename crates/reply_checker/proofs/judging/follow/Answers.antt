use Rattle.reply_checker.proofs.Prelude.{All, sym, subst, IsMoveIn}
use Rattle.reply_checker.proofs.StepMoves.{reply_in}
use Rattle.reply_checker.proofs.judging.follow.Goals as goal

pub make_moves-requires-clause-moves : goal.make_moves-requires-clause-moves
make_moves-requires-clause-moves c =
    let s = c.args.counted.now.net.state in
    subst (All (IsMoveIn s.network)) (sym c.as_slice.ensures) (reply_in c.args.rules s c.requires.right.0 c.args.event.now c.args.reply.now c.in-Moves.moves _ c.in-Moves.is c.requires.accepted c.requires.right.1)
