use Rattle.std.proofs.Common.{◌≡◌, ◌++◌, codes, map, take}
use Rattle.line_reasons.specs.ReasonLine.{printed}
use Rattle.line_reasons.proofs.note.note_of.Given as goal

abbrev pub invariant-loop-byte : goal.invariant-loop-byte
invariant-loop-byte l = l.line.items ≡ codes "! " ++ map printed (take l.byte-index l.byte-items)
