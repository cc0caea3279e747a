-- What a call with a command in numbers does to a session, status by status.
use Rattle.std.specs.Prelude.{◌≡◌, ℕ, zero, suc, ◌⊎◌, List, map, Option, None, Some, Result, Ok, Err, SomeIff}
use Rattle.rule_machine.specs.declared.choice.Item.{Item}
use Rattle.rule_machine.specs.declared.event.Event.{Event}
use Rattle.rule_machine.specs.declared.event.Event.TheVariants.{Step}
use Rattle.rule_machine.specs.declared.reply.Reply.{Reply}
use Rattle.rule_machine.specs.declared.reply.Reply.TheVariants.{Accepted}
use Rattle.rule_machine.specs.Least.{reply_of}
use Rattle.rule_machine.specs.RuleTable.{RuleTable}
use Rattle.rule_machine.specs.Tables.{table_of}
use Rattle.step_log.specs.declared.fault.RecordFault.{RecordFault}
use Rattle.step_log.specs.declared.fault.RecordFault.TheVariants.{LogFull, Memory}
use Rattle.script_text.specs.declared.command.Command.{Command}
use Rattle.script_text.specs.declared.command.Command.TheVariants.{Tell}
use Rattle.script_text.specs.Command.{IsCommand}
use Rattle.script_text.specs.Script.{Progress, CommandDoes, CommandFills}
use Rattle.run_session.specs.Line.{CommandBegins}
use Rattle.rudekpi_c.specs.Session.{stands, rules_of, limit_of, with_text_if, GoesOn}
use Rattle.rudekpi_c.specs.SilentDrives.{Silences}
use Rattle.rudekpi_c.specs.Slot.{IsNobody}
use Rattle.rudekpi_c.specs.ReplyNumbers.{told_of, untold, entry_status}
use Rattle.rudekpi_c.specs.declared.request.StepItem.{StepItem}
use Rattle.rudekpi_c.specs.declared.session.Session.{Session}
use Rattle.rudekpi_c.specs.declared.call_result.CallResult.{CallResult}

-- the name, or none for 0
abbrev pub optional_name : ℕ → Option ℕ
optional_name zero = None
optional_name (suc n) = Some (suc n)

abbrev pub item_named : StepItem → Item
item_named c = record { node = c.node; wish = optional_name c.wish }

-- the step that chooses these items
abbrev pub step_named : List StepItem → Event
step_named chosen = Step (map item_named chosen)

-- the numbers gave this command, or are out of range; or memory ran out for numbers in range
abbrev pub IsAsked : {E : Type 0} → Result (Option Command) E → Command → Type 0
IsAsked (Ok found) command = SomeIff found (IsCommand command) command
IsAsked (Err want) command = IsCommand command

-- the reply to a command that is carried out here: the machine's, if it is one event
abbrev pub reply_at : RuleTable → Command → Progress → Reply
reply_at t (Tell event) at = reply_of t at.moment.state at.moment.spent event
reply_at t other at = Accepted

-- the number returned if a command was not carried out: 0 for an event, else the number of the last entry
abbrev pub number_left : Command → ℕ → ℕ
number_left (Tell event) count = 0
number_left other count = count

-- the number returned with this result, if there are this many entries after the command
abbrev pub number_at : Command → ℕ → Result Unit RecordFault → ℕ
number_at command count (Ok done) = count
number_at command count (Err fault) = number_left command count

-- the reply that is kept with this result
abbrev pub reply_kept : RuleTable → Command → Progress → Result Unit RecordFault → Reply
reply_kept t command before (Ok done) = reply_at t command before
reply_kept t command before (Err fault) = Accepted

-- the status of a command
abbrev pub command_status : Reply → Result Unit RecordFault → ℕ
command_status reply (Ok done) = entry_status reply
command_status reply (Err LogFull) = 2
command_status reply (Err Memory) = 3

-- 0, or 6 if the machine refuses the event: the command was carried out; 2: the command met a full log; 3:
-- memory ran out, and at most some first turns were taken
abbrev pub IsCommandOutcome : RuleTable → ℕ → Command → ℕ → ℕ → Reply → Progress → Progress → Type 0
IsCommandOutcome t limit command status number reply before after =
    ((status ≡ entry_status (reply_at t command before)) × CommandDoes t limit command before after × (number ≡ after.count) × (reply ≡ reply_at t command before))
    ⊎ ((status ≡ 2) × CommandFills t limit command before after × (number ≡ number_left command after.count) × (reply ≡ Accepted))
    ⊎ ((status ≡ 3) × CommandBegins t limit command before after × (number ≡ number_left command after.count) × (reply ≡ Accepted))

-- the command was given to the session, which keeps the reply; the session's line count is unchanged
pub record IsCommandAnswer (command : Command) (status : ℕ) (outcome : CallResult) (old new : Option Session) : Type 0 where
  pub s : Session
  pub t : Session
  pub was : old ≡ Some s
  pub is : new ≡ Some t
  pub goes_on : GoesOn s t
  pub lines : t.lines ≡ s.lines
  pub after : Progress
  pub follows : IsCommandOutcome (table_of (rules_of s)) (limit_of s) command status t.answer.seq t.answer.reply (stands s) after
  pub silent : status ≡ 0 → Silences (table_of (rules_of s)) command (stands s).moment.state after.moment.state
  pub stands_is : stands t ≡ with_text_if t.keeps after
  pub told_is : outcome ≡ told_of t.answer.seq t.answer.reply

-- 5: the numbers are out of range, and nothing was done; 4: there was no session; else the command was given
-- to the session
abbrev pub AnswersCommand : Command → ℕ → CallResult → Option Session → Option Session → Type 0
AnswersCommand command status outcome old new =
    ((IsCommand command → ⊥) × (status ≡ 5) × (outcome ≡ untold) × (new ≡ old))
    ⊎ (IsCommand command × IsNobody status old new × (outcome ≡ untold))
    ⊎ (IsCommand command × IsCommandAnswer command status outcome old new)
