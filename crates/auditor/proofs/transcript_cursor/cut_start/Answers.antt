use Rattle.std.proofs.Common.{ℕ, ◌+◌, ap, arith}
use Rattle.auditor.proofs.LineCounts.{feeds_few}
use Rattle.auditor.proofs.NextParts.{cut_base, cut_header}
use Rattle.auditor.proofs.transcript_cursor.cut_start.Goals as goal

pub overflow_add-line : goal.overflow_add-line
overflow_add-line c = grind (arith, feeds_few c.args.text.now)

pub returns-then-line-eq1 : goal.returns-then-line-eq1
returns-then-line-eq1 c = cut_header c.args.text.now c.requires (omega (arith, c.line_feeds-line.ensures, c.if-line-eq1.true))

pub returns-else-line-eq1 : goal.returns-else-line-eq1
returns-else-line-eq1 c = cut_base c.args.text.now _ c.requires (ap (λ (n : ℕ). n + 1) c.line_feeds-line.ensures) c.if-line-eq1.false
