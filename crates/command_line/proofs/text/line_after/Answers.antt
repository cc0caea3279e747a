use Rattle.std.proofs.Common.{◌++◌}
use Rattle.script_text.proofs.LongLines.{begun_more, begun_none}
use Rattle.command_line.proofs.text.line_after.Goals as goal

pub returns-in-Some-clause-more : goal.returns-in-Some-clause-more
returns-in-Some-clause-more c text ends = begun_none (text ++ c.args.piece.now)

pub returns-in-None-clause-more : goal.returns-in-None-clause-more
returns-in-None-clause-more c text ends = begun_more text c.args.piece.now c.args.begun c.in-None.ensures.line ends
