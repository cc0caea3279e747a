-- How carrying out one line ends, in a run whose text is written as it grows.
use Rattle.std.specs.Prelude.{◌≡◌, ℕ, List, Option, Result, Ok, Err}
use Rattle.rand_core.specs.Stream.{Stream}
use Rattle.rule_machine.specs.declared.event.Event.{Event}
use Rattle.rule_machine.specs.RuleTable.{RuleTable}
use Rattle.script_text.specs.declared.command.Command.{Command}
use Rattle.seeded_turns.specs.DrawnEvents.{Draws}
use Rattle.step_log.specs.declared.fault.RecordFault.{RecordFault}
use Rattle.step_log.specs.declared.fault.RecordFault.TheVariants as record_fault
use Rattle.script_text.specs.Script.{Progress, EventDoes, TurnsDo, TurnsFill, CommandDoes, CommandFills, LineDoes, IsBadLine, MeetsFullLog}
use Rattle.run_session.specs.Line.{TurnsBegin, CommandBegins, progress_of}
use Rattle.run_session.specs.declared.run.Run.{Run}
use Rattle.byte_streams.specs.PartialOutput.{AppendsBeginning}
use Rattle.script_run.specs.declared.fault.RunFault.{RunFault}
use Rattle.script_run.specs.declared.fault.RunFault.TheVariants.{BadLine, LogFull, Write, Memory}
use Rattle.script_run.specs.RunEnds.{SplitsOutput, TakesFirstTurns}

-- this progress with another text
abbrev pub with_text : Progress → List ℕ → Progress
with_text p text =
    record { rules = p.rules; moment = p.moment; count = p.count; text = text; counting = p.counting }

-- P holds of the progress with all of its text, and the writer has all of this text but what the run holds
abbrev pub HandsOver : (Progress → Type 0) → Progress → Option (List ℕ) → Option (List ℕ) → Type 0
HandsOver P after had has = (text : List ℕ) × P (with_text after text) × SplitsOutput had has text after.text

-- P holds of some progress, and the writer has all of its text but what the run holds
abbrev pub HandsTextOver : (Progress → Type 0) → Progress → Option (List ℕ) → Option (List ℕ) → Type 0
HandsTextOver P after had has = (end : Progress) × P end × SplitsOutput had has end.text after.text

-- P holds of some progress, and the writer, which failed, has a beginning of its text
abbrev pub FailsToHandOver : (Progress → Type 0) → Option (List ℕ) → Option (List ℕ) → Type 0
FailsToHandOver P had has = (end : Progress) × P end × AppendsBeginning had has end.text

-- the step has its entry; or the log was full, and nothing was done; if memory ran out, no text was added
abbrev pub StepEnds : RuleTable → ℕ → Event → Progress → Progress → Result Unit RecordFault → Type 0
StepEnds t limit event before after (Ok done) = EventDoes t limit event before after
StepEnds t limit event before after (Err record_fault.LogFull) = (before.count ≡ limit) × (after ≡ before)
StepEnds t limit event before after (Err record_fault.Memory) = after.text ≡ before.text

-- The command was carried out at once, or met a full log. If memory ran out, at most the text of some first
-- turns was added.
abbrev pub CommandEndsAtOnce : RuleTable → ℕ → Command → Progress → Progress → Result Unit RecordFault → Type 0
CommandEndsAtOnce t limit command before after (Ok done) = CommandDoes t limit command before after
CommandEndsAtOnce t limit command before after (Err record_fault.LogFull) = CommandFills t limit command before after
CommandEndsAtOnce t limit command before after (Err record_fault.Memory) =
    (end : Progress) × CommandBegins t limit command before end × (after.text ≡ end.text)

-- The turns were taken, or a turn met a full log. If memory ran out or the writer failed, some first turns were
-- taken, each of them whole.
abbrev pub TurnsWrite : Draws → RuleTable → ℕ → ℕ → Stream → Progress → Progress → Option (List ℕ) → Option (List ℕ) → Result Unit RunFault → Type 0
TurnsWrite draws t limit turns stream before after had has (Ok done) = HandsOver (TurnsDo draws t limit turns stream before) after had has
TurnsWrite draws t limit turns stream before after had has (Err LogFull) = HandsOver (TurnsFill draws t limit turns stream before) after had has
TurnsWrite draws t limit turns stream before after had has (Err Memory) = HandsOver (TurnsBegin draws t limit turns stream before) after had has
TurnsWrite draws t limit turns stream before after had has (Err Write) = FailsToHandOver (TurnsBegin draws t limit turns stream before) had has
TurnsWrite draws t limit turns stream before after had has (Err other) = ⊥

-- the command was carried out, or met a full log; if memory ran out or the writer failed, at most some of its
-- first turns were taken
abbrev pub CommandWrites : RuleTable → ℕ → Command → Progress → Progress → Option (List ℕ) → Option (List ℕ) → Result Unit RunFault → Type 0
CommandWrites t limit command before after had has (Ok done) = HandsOver (CommandDoes t limit command before) after had has
CommandWrites t limit command before after had has (Err LogFull) = HandsOver (CommandFills t limit command before) after had has
CommandWrites t limit command before after had has (Err Memory) = HandsTextOver (CommandBegins t limit command before) after had has
CommandWrites t limit command before after had has (Err Write) = FailsToHandOver (CommandBegins t limit command before) had has
CommandWrites t limit command before after had has (Err other) = ⊥

-- the line was carried out, is bad, or met a full log; if memory ran out or the writer failed, at most some of
-- its first turns were taken
abbrev pub LineWrites : RuleTable → ℕ → ℕ → List ℕ → Progress → Progress → Option (List ℕ) → Option (List ℕ) → Result Unit RunFault → Type 0
LineWrites t limit number line before after had has (Ok done) = HandsOver (LineDoes t limit line before) after had has
LineWrites t limit number line before after had has (Err (BadLine n)) =
    (n ≡ number) × IsBadLine line × HandsOver (λ end. end ≡ before) after had has
LineWrites t limit number line before after had has (Err LogFull) = HandsOver (MeetsFullLog t limit line before) after had has
LineWrites t limit number line before after had has (Err Memory) = HandsTextOver (TakesFirstTurns t limit line before) after had has
LineWrites t limit number line before after had has (Err Write) = FailsToHandOver (TakesFirstTurns t limit line before) had has
LineWrites t limit number line before after had has (Err other) = ⊥

-- the line with this number was carried out, from one run to the next, and some of the text was written
abbrev pub CarriesLine : {R : Type 0} → RuleTable → Run R → Run R → ℕ → List ℕ → Option (List ℕ) → Option (List ℕ) → Result Unit RunFault → Type 0
CarriesLine t old new number line had has result = LineWrites t old.recorder.limit number line (progress_of old) (progress_of new) had has result
