use Rattle.std.proofs.Common.{◌+◌, refl, arith}
use Rattle.auditor.proofs.WholeTranscripts.{somewhere_few}
use Rattle.auditor.proofs.LongLines.{entry_too_long}
use Rattle.auditor.proofs.NextParts.{entry_damaged, entry_passed}
use Rattle.auditor.proofs.transcript_cursor.TranscriptCursor.pass_entry.Goals as goal

pub overflow_add-self : goal.overflow_add-self
overflow_add-self c = let room = somewhere_few _ _ c.requires.at in grind (arith, room)

pub returns-in-Ok-clause-ahead : goal.returns-in-Ok-clause-ahead
returns-in-Ok-clause-ahead c = entry_passed c.args.self.now _ _ _ _ refl refl refl refl refl c.requires.other c.requires.compared c.in-Some.ensures.first c.in-Ok.ensures

pub returns-in-Err-clause-fault : goal.returns-in-Err-clause-fault
returns-in-Err-clause-fault c = entry_damaged c.args.self.now c.check_line.new.self _ _ _ _ (c.args.self.now.lines + 1) refl c.requires.other c.in-Some.ensures.first c.in-Err.ensures

pub overflow_add-line : goal.overflow_add-line
overflow_add-line c = let room = somewhere_few _ _ c.requires.at in grind (arith, room)

pub returns-then-rest-gt-MAX_LINE-clause-fault : goal.returns-then-rest-gt-MAX_LINE-clause-fault
returns-then-rest-gt-MAX_LINE-clause-fault c =
    entry_too_long c.args.self.now c.args.rest.now _ c.requires.other c.in_default.ensures.first (let long = c.if-rest-gt-MAX_LINE.true in grind (arith, long)) refl
