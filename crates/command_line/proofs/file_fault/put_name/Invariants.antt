use Rattle.std.proofs.Common.{◌≡◌, ◌++◌, map, take}
use Rattle.command_line.specs.FileNotes.{shown_byte}
use Rattle.command_line.proofs.file_fault.put_name.Given as goal

abbrev pub invariant-loop-byte : goal.invariant-loop-byte
invariant-loop-byte l = l.line.items ≡ l.fn.line.items ++ map shown_byte (take l.byte-index l.name)
