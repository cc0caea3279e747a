-- The damages of bytes that are no transcript: the first line that fails, and the first check that it fails.
use Rattle.std.specs.Prelude.{◌≡◌, ◌≢◌, ℕ, ◌+◌, ◌⊎◌, ◌≤◌, List, [], ◌∷◌, ◌++◌, ◌==◌, Option, None, Some, codes, if◌then◌else◌}
use Rattle.rule_machine.specs.declared.base.Base.{Base}
use Rattle.rule_machine.specs.declared.rule_set.RuleSet.{RuleSet}
use Rattle.rule_machine.specs.State.{State}
use Rattle.rule_machine.specs.Base.{LogPart, NumberedMoment, base_of}
use Rattle.rule_machine.specs.Run.{Entry}
use Rattle.rule_machine.specs.Answer.{Answers}
use Rattle.rule_machine.specs.Tables.{table_of}
use Rattle.line_text.specs.BaseText.{base_head, base_text}
use Rattle.byte_streams.specs.Lines.{first_line}
use Rattle.entry_grammar.specs.declared.header.Header.{Header}
use Rattle.entry_grammar.specs.Spelling.{SpellsEntry, SpellsHeader}
use Rattle.entry_grammar.specs.BaseLines.{IsShaped, BreaksAt, base_lines}
use Rattle.auditor.specs.declared.fault.AuditFault.{AuditFault}
use Rattle.auditor.specs.declared.fault.AuditFault.TheVariants.{BadHeader, NotALine, OutOfOrder, NotTheMachines, BadBase, Read, Memory}
use Rattle.auditor.specs.Parts.{Opening, Based, Opens, size_of}
use Rattle.auditor.specs.Transcript.{IsTranscript}

-- how many lines end in a text
abbrev pub line_feeds : List ℕ → ℕ
line_feeds [] = 0
line_feeds (b ∷ bytes) = if b == 10 then line_feeds bytes + 1 else line_feeds bytes

abbrev pub SpellsNoHeader : List ℕ → Type 0
SpellsNoHeader line = (header : Header) → SpellsHeader line header → ⊥

abbrev pub SpellsNoHead : List ℕ → Type 0
SpellsNoHead line = (rules : RuleSet) (size : ℕ) → size ≤ 65535 → line ≡ base_head rules size → ⊥

-- there is no first line, or the first line is neither a header nor the first line of a base
abbrev pub HasBadHeader : Option (List ℕ × List ℕ) → Type 0
HasBadHeader None = Unit {0}
HasBadHeader (Some found) = SpellsNoHeader found.0 × SpellsNoHead found.0

abbrev pub SpellsNoEntry : List ℕ → Type 0
SpellsNoEntry line = (number : ℕ) (entry : Entry) → SpellsEntry line number entry → ⊥

-- the rest is not empty and has no whole line, or its first line is no entry
abbrev pub HasNoEntry : List ℕ → Option (List ℕ × List ℕ) → Type 0
HasNoEntry rest None = rest ≢ []
HasNoEntry rest (Some found) = SpellsNoEntry found.0

-- the bytes begin with the first word of a base
abbrev pub BeginsBase : List ℕ → Type 0
BeginsBase rest = (more : List ℕ) × (rest ≡ codes "matching2" ++ more)

-- The bytes are a transcript with this log and this end, followed by the rest.
pub record BeginsWithTranscript (bytes : List ℕ) (rules : RuleSet) (log : List LogPart) (end : NumberedMoment) (rest : List ℕ) : Type 0 where
  pub opening : Opening
  pub good : List ℕ
  pub transcript : IsTranscript good rules opening log end
  pub splits : bytes ≡ good ++ rest

-- a transcript that the bytes begin with, and the rest after that transcript
pub record TranscriptPrefix (bytes : List ℕ) : Type 0 where
  pub rules : RuleSet
  pub log : List LogPart
  pub end : NumberedMoment
  pub rest : List ℕ
  pub follows : BeginsWithTranscript bytes rules log end rest

-- the first line of the rest is the entry with this number
pub record EntryComes (rest : List ℕ) (number : ℕ) (entry : Entry) : Type 0 where
  pub line : List ℕ
  pub more : List ℕ
  pub is : first_line rest ≡ Some (line, more)
  pub spells : SpellsEntry line number entry

-- the number of the line that begins after these bytes
abbrev pub IsLineBehind : ℕ → List ℕ → Type 0
IsLineBehind line good = line ≡ line_feeds good + 1

-- the first line after a transcript is no entry, and no base begins with that line
pub record EndsInNoLine (bytes : List ℕ) (line : ℕ) : Type 0 where
  pub at : TranscriptPrefix bytes
  pub line_is : IsLineBehind line at.follows.good
  pub other : BeginsBase at.rest → ⊥
  pub damage : HasNoEntry at.rest (first_line at.rest)

-- the first line after a transcript is an entry, but its number is not the next
pub record EndsOutOfOrder (bytes : List ℕ) (line : ℕ) : Type 0 where
  pub at : TranscriptPrefix bytes
  pub line_is : IsLineBehind line at.follows.good
  pub number : ℕ
  pub entry : Entry
  pub comes : EntryComes at.rest number entry
  pub damage : number ≢ at.end.count + 1

-- the first line after a transcript is the next entry, but the machine may not give its reply
pub record EndsNotTheMachines (bytes : List ℕ) (line : ℕ) : Type 0 where
  pub at : TranscriptPrefix bytes
  pub line_is : IsLineBehind line at.follows.good
  pub entry : Entry
  pub comes : EntryComes at.rest (at.end.count + 1) entry
  pub damage : (s : State) → Answers (table_of at.rules) at.end.moment.state at.end.moment.spent entry.0 entry.1 s → ⊥

-- the common beginning of a text and of bytes that do not begin with the whole text
pub record CommonPrefix (text bytes : List ℕ) : Type 0 where
  pub common : List ℕ
  pub missing : List ℕ
  pub more : List ℕ
  pub wanted : text ≡ common ++ missing
  pub had : bytes ≡ common ++ more
  pub some : missing ≢ []
  pub apart : (b : ℕ) (x y : List ℕ) → missing ≡ b ∷ x → more ≡ b ∷ y → ⊥

-- after a transcript comes a base, but not that of the state reached: this is the first line that differs
pub record EndsInBadBase (bytes : List ℕ) (line : ℕ) : Type 0 where
  pub at : TranscriptPrefix bytes
  pub begins : BeginsBase at.rest
  pub parting : CommonPrefix (base_text at.rules (size_of at.follows.opening) (base_of at.end.count at.end.moment)) at.rest
  pub line_is : IsLineBehind line (at.follows.good ++ parting.common)

-- the bytes after the first line are no base's: this is the first line that no base has
pub record HasBrokenBase (rest : List ℕ) (line : ℕ) : Type 0 where
  pub number : ℕ
  pub breaks : BreaksAt rest number
  pub line_is : line ≡ number + 1

-- the bytes after the first line are a base's, but no run may begin there: this is the line of its numbers
pub record HasImpossibleBase (rules : RuleSet) (size : ℕ) (rest : List ℕ) (line : ℕ) : Type 0 where
  pub base : Base
  pub more : List ℕ
  pub shaped : IsShaped base
  pub is : rest ≡ base_lines base ++ more
  pub nowhere : (start : NumberedMoment) → Opens rules (Based size base) start → ⊥
  pub line_is : line ≡ 2

-- the first line is that of a base, but the lines after it are no base's, or no run may begin there
pub record HasBadStart (bytes : List ℕ) (line : ℕ) : Type 0 where
  pub rules : RuleSet
  pub size : ℕ
  pub rest : List ℕ
  pub few : size ≤ 65535
  pub first : first_line bytes ≡ Some (base_head rules size, rest)
  pub bad : HasBrokenBase rest line ⊎ HasImpossibleBase rules size rest line

-- The bytes have this damage: the lines before the damaged line are a transcript, and the damage names the
-- first check that the line fails. That a read failed or memory ran out is no damage.
abbrev pub IsDamage : List ℕ → AuditFault → Type 0
IsDamage bytes BadHeader = HasBadHeader (first_line bytes)
IsDamage bytes (NotALine line) = EndsInNoLine bytes line
IsDamage bytes (OutOfOrder line) = EndsOutOfOrder bytes line
IsDamage bytes (NotTheMachines line) = EndsNotTheMachines bytes line
IsDamage bytes (BadBase line) = HasBadStart bytes line ⊎ EndsInBadBase bytes line
IsDamage bytes Read = ⊥
IsDamage bytes Memory = ⊥
