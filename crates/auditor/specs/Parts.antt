-- The opening of a transcript, and its parts: entries, and bases among them.
use Rattle.std.specs.Prelude.{◌≡◌, ℕ, ◌+◌, ◌≤◌, List, [], ◌∷◌, ◌++◌, length, Option, None, Some}
use Rattle.rule_machine.specs.declared.base.Base.{Base}
use Rattle.rule_machine.specs.declared.rule_set.RuleSet.{RuleSet}
use Rattle.rule_machine.specs.State.{State}
use Rattle.rule_machine.specs.RuleTable.{RuleTable}
use Rattle.rule_machine.specs.Answer.{Answers, spent_after}
use Rattle.rule_machine.specs.Base.{BeginsAt, LogPart, EntryPart, BasePart, NumberedMoment, base_of, dropped}
use Rattle.rule_machine.specs.Tables.{table_of, weight_of}
use Rattle.machine_laws.specs.ChargeWords.{charge_bound}
use Rattle.line_text.specs.EntryText.{header_line, entry_line}
use Rattle.line_text.specs.BaseText.{base_text}
use Rattle.entry_grammar.specs.Spelling.{AreSizes, max_entries}
use Rattle.entry_grammar.specs.BaseLines.{IsShaped}

-- a header, with the numbers of names and of present nodes, or a base for this many names
pub data Opening : Type 0 where
  Named : ℕ → ℕ → Opening
  Based : ℕ → Base → Opening

-- how many names an opening has
abbrev pub size_of : Opening → ℕ
size_of (Named size count) = size
size_of (Based size base) = size

-- how many names are present at the opening state
abbrev pub present_of : Opening → ℕ
present_of (Named size count) = count
present_of (Based size base) = 0

abbrev pub base_in : Opening → Option Base
base_in (Named size count) = None
base_in (Based size base) = Some base

abbrev pub opening_text : RuleSet → Opening → List ℕ
opening_text rules (Named size count) = header_line rules size count
opening_text rules (Based size base) = base_text rules size base

-- a base that can open a transcript: its lines are well formed, and its log and network are within the limits
pub record IsFirstBase (size : ℕ) (base : Base) : Type 0 where
  pub few : size ≤ 65535
  pub shaped : IsShaped base
  pub number : base.number ≤ max_entries
  pub edges : length base.edges ≤ 1048576

abbrev pub IsOpening : Opening → Type 0
IsOpening (Named size count) = AreSizes size count
IsOpening (Based size base) = IsFirstBase size base

-- the beginning of a run: the opening state, or the state of the base that opens the transcript; the entries
-- before that base are counted
pub record Opens (rules : RuleSet) (opening : Opening) (start : NumberedMoment) : Type 0 where
  pub fits : IsOpening opening
  pub begins : BeginsAt (table_of rules) (charge_bound (weight_of rules)) (size_of opening) (present_of opening) (base_in opening) start.moment
  pub count : start.count ≡ dropped (base_in opening)

-- how many entries there are after a part
abbrev pub count_after : ℕ → LogPart → ℕ
count_after count (EntryPart entry) = count + 1
count_after count (BasePart base) = count

-- the text of a part that comes after this many entries, for this many names
abbrev pub part_text : RuleSet → ℕ → ℕ → LogPart → List ℕ
part_text rules size count (EntryPart entry) = entry_line (count + 1) entry.0 entry.1
part_text rules size count (BasePart base) = base_text rules size base

abbrev pub parts_text : RuleSet → ℕ → ℕ → List LogPart → List ℕ
parts_text rules size count [] = []
parts_text rules size count (part ∷ log) = part_text rules size count part ++ parts_text rules size (count_after count part) log

-- from one state to the next: the machine may give the entry's reply, or the base is that of the state
abbrev pub StepsTo : RuleTable → NumberedMoment → LogPart → NumberedMoment → Type 0
StepsTo t at (EntryPart entry) next =
    (s : State) × Answers t at.moment.state at.moment.spent entry.0 entry.1 s × (next ≡ record { moment = record { state = s; spent = spent_after at.moment.spent entry.1 }; count = at.count + 1 })
StepsTo t at (BasePart base) next = (base ≡ base_of at.count at.moment) × (next ≡ at)
