use Rattle.rule_engine.proofs.Prelude.{All, ◌∙◌, sym, subst, IsMoveIn}
use Rattle.rule_engine.proofs.ReplyMoves.{told_moves_in}
use Rattle.rule_engine.specs.PreparedEvents.{event_of}
use Rattle.rule_engine.proofs.events.carry_out.Goals as goal

pub make_moves-requires-clause-moves : goal.make_moves-requires-clause-moves
make_moves-requires-clause-moves g c =
    subst (All (IsMoveIn c.args.net.now.state.network)) (sym c.as_slice.ensures) (told_moves_in g.R.Rules.table g.R.Rules.laws.table c.args.net.now.state c.requires.reply.0 (event_of c.args.cause) c.in-Moves.moves (sym c.in-Moves.is ∙ c.requires.reply.1))
