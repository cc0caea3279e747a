-- Transcripts: the bytes of an opening and of parts whose log is a run of the machine.
use Rattle.std.specs.Prelude.{◌≡◌, ℕ, ◌+◌, ◌≤◌, List, ◌++◌, length, sum_by, IsTrue}
use Rattle.std.specs.List.{AllByRecursion}
use Rattle.rule_machine.specs.declared.reply.Reply.{Reply}
use Rattle.rule_machine.specs.declared.reply.Reply.TheVariants.{Accepted, Refused, Moves, Shown, EnabledAre, Pairs, Counts}
use Rattle.rule_machine.specs.declared.rule_set.RuleSet.{RuleSet}
use Rattle.rule_machine.specs.Base.{LogPart, EntryPart, BasePart, NumberedMoment, Passes}
use Rattle.rule_machine.specs.Run.{Entry}
use Rattle.rule_machine.specs.Tables.{table_of}
use Rattle.log_entry.specs.Kinds.{fits}
use Rattle.line_text.specs.EventText.{IsEvent}
use Rattle.entry_grammar.specs.Spelling.{IsReply, max_entries}
use Rattle.auditor.specs.Parts.{Opening, Opens, StepsTo, size_of, opening_text, part_text, parts_text}

-- what every value of the program's type of entries satisfies
pub record IsEntryValue (entry : Entry) : Type 0 where
  pub event : IsEvent entry.0
  pub reply : IsReply entry.1
  pub fits : IsTrue (fits entry.0 entry.1)

abbrev pub IsLogPart : LogPart → Type 0
IsLogPart (EntryPart entry) = IsEntryValue entry
IsLogPart (BasePart base) = Unit {0}

-- The bytes are the text of an opening and of parts that the machine may give after it; they lead to this
-- end.
pub record IsTranscript (bytes : List ℕ) (rules : RuleSet) (opening : Opening) (log : List LogPart) (end : NumberedMoment) : Type 0 where
  pub start : NumberedMoment
  pub opens : Opens rules opening start
  pub text : bytes ≡ opening_text rules opening ++ parts_text rules (size_of opening) start.count log
  pub parts : AllByRecursion IsLogPart log
  pub not_too_many : end.count ≤ max_entries
  pub passes : Passes (table_of rules) start log end

-- two runs are equal: their rule sets, openings, parts and ends
pub record SameRun (r q : RuleSet) (o p : Opening) (log also : List LogPart) (end last : NumberedMoment) : Type 0 where
  pub rules : r ≡ q
  pub openings : o ≡ p
  pub parts : log ≡ also
  pub ends : end ≡ last

-- The rest begins with this part, which leads to the next state, and `behind` follows the part.
pub record NextPart (rules : RuleSet) (size : ℕ) (at : NumberedMoment) (rest : List ℕ) (part : LogPart) (next : NumberedMoment) (behind : List ℕ) : Type 0 where
  pub fits : IsLogPart part
  pub within : next.count ≤ max_entries
  pub steps : StepsTo (table_of rules) at part next
  pub is : rest ≡ part_text rules size at.count part ++ behind

-- how many disturbances a reply reports: 1 if the reply is `Accepted`, else 0
abbrev pub disturbances_in : Reply → ℕ
disturbances_in Accepted = 1
disturbances_in (Refused refusal) = 0
disturbances_in (Moves moves) = 0
disturbances_in (Shown target) = 0
disturbances_in (EnabledAre nodes) = 0
disturbances_in (Pairs pairs) = 0
disturbances_in (Counts counts) = 0

-- how many moves a reply reports
abbrev pub reply_moves : Reply → ℕ
reply_moves Accepted = 0
reply_moves (Refused refusal) = 0
reply_moves (Moves moves) = length moves
reply_moves (Shown target) = 0
reply_moves (EnabledAre nodes) = 0
reply_moves (Pairs pairs) = 0
reply_moves (Counts counts) = 0

-- how many epochs there are: one begins at the start, and one at each disturbance
abbrev pub epoch_count : List Entry → ℕ
epoch_count log = 1 + sum_by (λ entry. disturbances_in entry.1) log

abbrev pub move_count : List Entry → ℕ
move_count log = sum_by (λ entry. reply_moves entry.1) log
