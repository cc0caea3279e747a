-- How far an audit has come, and what one line does to it.
use Rattle.std.specs.Prelude.{◌≡◌, ◌≢◌, ℕ, ◌+◌, ◌*◌, ◌≤◌, List, Result, Ok, Err}
use Rattle.rule_machine.specs.declared.reply.Reply.{Reply}
use Rattle.rule_machine.specs.declared.rule_set.RuleSet.{RuleSet}
use Rattle.rule_machine.specs.State.{State}
use Rattle.rule_machine.specs.RuleTable.{RuleTable}
use Rattle.rule_machine.specs.Base.{LogPart, EntryPart, BasePart, NumberedMoment}
use Rattle.rule_machine.specs.Run.{Entry}
use Rattle.rule_machine.specs.Answer.{Answers, spent_after}
use Rattle.entry_grammar.specs.Spelling.{SpellsEntry, max_entries}
use Rattle.auditor.specs.declared.fault.AuditFault.{AuditFault}
use Rattle.auditor.specs.declared.fault.AuditFault.TheVariants.{BadHeader, NotALine, OutOfOrder, NotTheMachines, BadBase, Read, Memory}
use Rattle.auditor.specs.declared.summary.Summary.{Summary}
use Rattle.auditor.specs.Transcript.{NextPart, disturbances_in, reply_moves}
use Rattle.auditor.specs.Damage.{SpellsNoEntry}

-- the state reached, the moves spent, the number of the last entry, and the counts
pub record Position : Type 0 where
  pub state : State
  pub spent : ℕ
  pub number : ℕ
  pub counted : Summary

-- the numbered moment of a position
abbrev pub stand_of : Position → NumberedMoment
stand_of p = record { moment = record { state = p.state; spent = p.spent }; count = p.number }

-- the position before any entry of the transcript
abbrev pub position_at : NumberedMoment → Position
position_at at =
    record { state = at.moment.state; spent = at.moment.spent; number = at.count; counted = record { entries = 0; epochs = 1; moves = 0 } }

-- the counts with one more entry
abbrev pub counted_more : Summary → Reply → Summary
counted_more c reply =
    record { entries = c.entries + 1; epochs = c.epochs + disturbances_in reply; moves = c.moves + reply_moves reply }

-- a base adds nothing to the counts
abbrev pub counted_part : Summary → LogPart → Summary
counted_part c (EntryPart entry) = counted_more c entry.1
counted_part c (BasePart base) = c

-- the limits of the counts
pub record IsPossibleSummary (c : Summary) : Type 0 where
  pub entries : c.entries ≤ max_entries
  pub epochs : c.epochs ≤ c.entries + 1
  pub moves : c.moves ≤ c.entries * 65535

-- the counts of an audit: beyond what a base had spent, no more moves are spent than were made
pub record AreAuditCounts (spent number : ℕ) (c : Summary) : Type 0 where
  pub counted : IsPossibleSummary c
  pub numbered : number ≤ max_entries
  pub entries : c.entries ≤ number
  pub made : spent ≤ c.moves + 4294967295

-- the line is the next entry, the machine may give its reply, and the entry is counted
pub record GoodLine (t : RuleTable) (text : List ℕ) (before after : Position) : Type 0 where
  pub entry : Entry
  pub spells : SpellsEntry text (before.number + 1) entry
  pub answers : Answers t before.state before.spent entry.0 entry.1 after.state
  pub spends : after.spent ≡ spent_after before.spent entry.1
  pub number : after.number ≡ before.number + 1
  pub counted : after.counted ≡ counted_more before.counted entry.1

-- the line is an entry whose number is not the next
pub record BadNumber (text : List ℕ) (before : Position) : Type 0 where
  pub number : ℕ
  pub entry : Entry
  pub spells : SpellsEntry text number entry
  pub other : number ≢ before.number + 1

-- the line is the next entry, but the machine may not give its reply
pub record BadReply (t : RuleTable) (text : List ℕ) (before : Position) : Type 0 where
  pub entry : Entry
  pub spells : SpellsEntry text (before.number + 1) entry
  pub never : (s : State) → Answers t before.state before.spent entry.0 entry.1 s → ⊥

-- the damage of a line, which has this number
abbrev pub LineDamaged : RuleTable → List ℕ → ℕ → Position → AuditFault → Type 0
LineDamaged t text line before (NotALine at) = (at ≡ line) × SpellsNoEntry text
LineDamaged t text line before (OutOfOrder at) = (at ≡ line) × BadNumber text before
LineDamaged t text line before (NotTheMachines at) = (at ≡ line) × BadReply t text before
LineDamaged t text line before BadHeader = ⊥
LineDamaged t text line before (BadBase at) = ⊥
LineDamaged t text line before Read = ⊥
LineDamaged t text line before Memory = ⊥

-- the result of checking the next line, which has this number; nothing is said if memory ran out
abbrev pub LineJudged : RuleTable → List ℕ → ℕ → Position → Position → Result Unit AuditFault → Type 0
LineJudged t text line before after (Ok done) = GoodLine t text before after
LineJudged t text line before after (Err Memory) = Unit {0}
LineJudged t text line before after (Err damage) = LineDamaged t text line before damage

-- a next part leads from one position to the next and is counted; the rest after the part is `behind`
pub record IsFurther (rules : RuleSet) (size : ℕ) (before : Position) (rest : List ℕ) (after : Position) (behind : List ℕ) : Type 0 where
  pub part : LogPart
  pub comes : NextPart rules size (stand_of before) rest part (stand_of after) behind
  pub counted : after.counted ≡ counted_part before.counted part
