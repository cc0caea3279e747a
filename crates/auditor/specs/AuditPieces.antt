-- The bytes that an audit was fed.
use Rattle.std.specs.Prelude.{ℕ, List}
use Rattle.auditor.specs.declared.piece_audit.PieceAudit.{PieceAudit}
use Rattle.auditor.specs.TranscriptCursors.{IsIncrementalAudit}

-- the pieces that the audit was fed form these bytes
abbrev pub HasReadPieces : List ℕ → PieceAudit → Type 0
HasReadPieces bytes audit = IsIncrementalAudit bytes audit.trial audit.fault
