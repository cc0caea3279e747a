use Rattle.std.proofs.Common.{inl, inr}
use Rattle.command_line.proofs.playing_on.resume_storm_file.Goals as goal

pub returns-in-Ok-clause-resumed : goal.returns-in-Ok-clause-resumed
returns-in-Ok-clause-resumed g c = inr (_, c.resume_storm_opened.ensures.resumed)

pub returns-clause-resumed : goal.returns-clause-resumed
returns-clause-resumed g c = inl (c.tell_unread.ensures.told (g.Out.Write.contents c.args.writer.now.writer))
