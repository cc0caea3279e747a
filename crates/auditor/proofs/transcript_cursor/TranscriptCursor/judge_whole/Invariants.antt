use Rattle.auditor.proofs.Prelude.{ℕ, List, length, IsCursorAt, IsCompared, IsReachable}
use Rattle.auditor.proofs.transcript_cursor.TranscriptCursor.judge_whole.Given as goal

abbrev pub invariant-loop-left : goal.invariant-loop-left
invariant-loop-left l = record {
  at : (bytes : List ℕ) → IsCursorAt bytes l.fn.self l.rest → IsCursorAt bytes l.replay l.left;
  somewhere : IsReachable l.replay l.left;
  compared : IsCompared l.replay l.left;
}

abbrev pub decreases-loop-left : goal.decreases-loop-left
decreases-loop-left l = length l.left
