use Rattle.auditor.proofs.Prelude.{ℕ, List, length, EndsIn, IsCursorAt, IsCompared, IsReachable}
use Rattle.auditor.proofs.transcript_cursor.TranscriptCursor.pass_parts.Given as goal

abbrev pub invariant-loop-behind : goal.invariant-loop-behind
invariant-loop-behind l = record {
  at : (bytes : List ℕ) → IsCursorAt bytes l.fn.self l.held → IsCursorAt bytes l.self l.rest;
  somewhere : IsReachable l.self l.rest;
  compared : IsCompared l.self l.rest;
  ends : EndsIn l.held l.rest;
}

abbrev pub decreases-loop-behind : goal.decreases-loop-behind
decreases-loop-behind l = length l.rest
