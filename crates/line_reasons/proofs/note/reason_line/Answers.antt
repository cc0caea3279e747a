use Rattle.std.proofs.Common.{sym, subst}
use Rattle.line_reasons.specs.ReasonLine.{IsReasonLine}
use Rattle.line_reasons.proofs.Notes.{note_is}
use Rattle.line_reasons.proofs.note.reason_line.Goals as goal

pub returns : goal.returns
returns c = subst IsReasonLine (sym c.in_ok-note.ensures) (note_is c.deref.result.now)
