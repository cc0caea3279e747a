use Rattle.auditor.proofs.ReadOpenings.{no_head}
use Rattle.auditor.proofs.transcript_cursor.read_head.Goals as goal

pub returns-in_default : goal.returns-in_default
returns-in_default c = no_head c.args.line.now c.in_default.ensures.not_a_line.1
