-- The line of a verdict.
use Rattle.std.specs.Prelude.{ℕ, List, [], ◌∷◌, ◌++◌, codes}
use Rattle.line_text.specs.Words.{number_text}
use Rattle.auditor.specs.declared.fault.AuditFault.{AuditFault}
use Rattle.auditor.specs.declared.fault.AuditFault.TheVariants.{BadHeader, NotALine, OutOfOrder, NotTheMachines, BadBase, Read, Memory}
use Rattle.auditor.specs.declared.summary.Summary.{Summary}
use Rattle.command_line.specs.declared.verdict.CheckEnd.{CheckEnd}
use Rattle.command_line.specs.declared.verdict.CheckEnd.TheVariants.{Accepted, Refused}

-- the counts of a verdict
abbrev pub summary_text : Summary → List ℕ
summary_text c =
    codes "accepted: " ++ (number_text c.entries ++ codes " entries, ") ++ (number_text c.epochs ++ codes " epochs, ") ++ (number_text c.moves ++ codes " moves")

-- the line of a damage: the number of the line that fails, and its failed check
abbrev pub damage_line : ℕ → List ℕ → List ℕ
damage_line line text = codes "line " ++ (number_text line ++ text)

abbrev pub fault_text : AuditFault → List ℕ
fault_text BadHeader = codes "line 1: bad header"
fault_text (NotALine line) = damage_line line (codes ": not a transcript line")
fault_text (OutOfOrder line) = damage_line line (codes ": out of order")
fault_text (NotTheMachines line) = damage_line line (codes ": not the machine's reply")
fault_text (BadBase line) = damage_line line (codes ": bad base")
fault_text Read = codes "read failed"
fault_text Memory = codes "out of memory"

abbrev pub verdict_text : CheckEnd → List ℕ
verdict_text (Accepted counted) = summary_text counted
verdict_text (Refused fault) = fault_text fault

-- the line of a verdict, with its LF
abbrev pub verdict_line : CheckEnd → List ℕ
verdict_line end = verdict_text end ++ 10 ∷ []
