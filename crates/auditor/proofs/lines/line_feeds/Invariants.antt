use Rattle.auditor.proofs.Prelude.{◌≡◌, ◌+◌, ◌≤◌, drop, line_feeds}
use Rattle.auditor.proofs.lines.line_feeds.Given as goal

abbrev pub invariant-loop-b : goal.invariant-loop-b
invariant-loop-b l = (l.lines + line_feeds (drop l.b-index l.bytes) ≡ line_feeds l.bytes) × (l.lines ≤ l.b-index)
