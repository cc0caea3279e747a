use Rattle.auditor.specs.TranscriptCursors.{AreSameUpTo}
use Rattle.auditor.proofs.lines.common_len.Given as goal

abbrev pub invariant-loop-i : goal.invariant-loop-i
invariant-loop-i l = AreSameUpTo l.text l.bytes l.i
