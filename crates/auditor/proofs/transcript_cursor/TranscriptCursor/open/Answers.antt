use Rattle.std.proofs.Common.{arith}
use Rattle.auditor.proofs.LongLines.{first_too_long}
use Rattle.auditor.proofs.NextParts.{bad_first}
use Rattle.auditor.proofs.transcript_cursor.TranscriptCursor.open.Goals as goal

pub returns-in-None-clause-fault : goal.returns-in-None-clause-fault
returns-in-None-clause-fault c more = bad_first _ _ _ more c.in-Some.ensures.first c.in_default-read_header.ensures.not_a_line.1 c.in-None.ensures

pub returns-then-text-gt-MAX_LINE-clause-fault : goal.returns-then-text-gt-MAX_LINE-clause-fault
returns-then-text-gt-MAX_LINE-clause-fault c = first_too_long _ c.in_default.ensures.first (let long = c.if-text-gt-MAX_LINE.true in grind (arith, long))
