-- The line that names a file which is not read, and says why.
use Rattle.std.specs.Prelude.{◌⊎◌, ◌||◌, ◌==◌, ℕ, List, ◌++◌, codes, if◌then◌else◌, map, nat_lt}
use Rattle.std.specs.Io.KnownBytes.{Keeps}
use Rattle.script_run.specs.declared.fault.RunFault.TheVariants as run
use Rattle.command_line.specs.declared.file_fault.FileFault.{FileFault}
use Rattle.command_line.specs.declared.file_fault.FileFault.TheVariants.{Missing, Folder, Forbidden, Other}
use Rattle.command_line.specs.ViewEnds.{TellsEarly}
use Rattle.command_line.specs.WriterStates.{WrittenBytes, WriterState, WritesLine}

-- a question mark for a control byte, so that a name stays in one line; any other byte as it is
abbrev pub shown_byte : ℕ → ℕ
shown_byte byte = if nat_lt byte 32 || byte == 127 then 63 else byte

-- the end of the line, with its LF
abbrev pub reason_text : FileFault → List ℕ
reason_text Missing = codes ": no such file\n"
reason_text Folder = codes ": is a folder\n"
reason_text Forbidden = codes ": may not be read\n"
reason_text Other = codes ": cannot be read\n"

-- the line: the file's name and the reason
abbrev pub file_note : List ℕ → FileFault → List ℕ
file_note file fault = codes "! " ++ (map shown_byte file ++ reason_text fault)

-- a line is added that names the file and a reason; or nothing is
abbrev pub AddsNote : List ℕ → WrittenBytes → WriterState → Type 0
AddsNote file before after = Keeps before after.got ⊎ ((fault : FileFault) × WritesLine before after (file_note file fault))

-- a failed read is reported, perhaps with a second line that names the file; nothing is written to the writer
abbrev pub TellsUnread : List ℕ → WrittenBytes → WrittenBytes → WrittenBytes → WriterState → ℕ → Type 0
TellsUnread file old new before after status =
    (mid : WriterState) × TellsEarly run.Read old new before mid status × AddsNote file mid.got after
