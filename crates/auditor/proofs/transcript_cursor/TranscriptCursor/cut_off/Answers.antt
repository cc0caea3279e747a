use Rattle.auditor.proofs.Prelude.{ℕ, ◌+◌, ap, arith, rules}
use Rattle.auditor.proofs.LineCounts.{feeds_few}
use Rattle.auditor.proofs.WholeTranscripts.{somewhere_few}
use Rattle.auditor.proofs.NextParts.{cut_line, cut_wanted}
use Rattle.auditor.proofs.transcript_cursor.TranscriptCursor.cut_off.Goals as goal

pub overflow_add-line : goal.overflow_add-line
overflow_add-line c = let room = somewhere_few _ _ c.requires.at in grind (arith, feeds_few c.args.rest.now, room, c.line_feeds.ensures)

pub overflow_add-line-2 : goal.overflow_add-line-2
overflow_add-line-2 c = let room = somewhere_few _ _ c.requires.at in grind (arith, feeds_few c.args.rest.now, room, c.line_feeds.ensures)

pub returns-then-is_some : goal.returns-then-is_some
returns-then-is_some c = cut_wanted c.args.self.now c.args.rest.now _ (search rules) c.requires.unended (ap (λ (n : ℕ). c.args.self.now.lines + n + 1) c.line_feeds.ensures)

pub returns-else-is_some : goal.returns-else-is_some
returns-else-is_some c = cut_line c.args.self.now c.args.rest.now _ (search rules) c.requires.some c.requires.unended (ap (λ (n : ℕ). c.args.self.now.lines + n + 1) c.line_feeds.ensures)
