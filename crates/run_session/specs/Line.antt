-- How carrying out one line, or a part of one line, ends.
use Rattle.std.specs.Prelude.{◌≡◌, ◌≢◌, ◌<◌, ◌≤◌, ◌⊎◌, ℕ, zero, suc, Bool, true, false, List, [], None, Some, Result, Ok, Err}
use Rattle.rand_core.specs.Stream.{Stream}
use Rattle.rule_machine.specs.declared.event.Event.{Event}
use Rattle.rule_machine.specs.declared.rule_set.RuleSet.{RuleSet}
use Rattle.rule_machine.specs.RuleTable.{RuleTable}
use Rattle.rule_machine.specs.Run.{Moment}
use Rattle.step_log.specs.Recording.{Recording}
use Rattle.step_log.specs.declared.fault.RecordFault.{RecordFault}
use Rattle.step_log.specs.declared.fault.RecordFault.TheVariants.{LogFull, Memory}
use Rattle.script_text.specs.declared.command.Command.{Command}
use Rattle.script_text.specs.declared.command.Command.TheVariants.{Tell, Drive, Scramble, Checkpoint}
use Rattle.seeded_turns.specs.DrawnEvents.{Draws, seeded_stream, drawn_step, drawn_fault}
use Rattle.script_text.specs.Command.{Says}
use Rattle.script_text.specs.Script.{Progress, AppendsEntry, EventDoes, TurnsDo, TurnsFill, CommandDoes, CommandFills, LineDoes, IsBadLine, MeetsFullLog}
use Rattle.run_session.specs.declared.run.Run.{Run}
use Rattle.run_session.specs.declared.line_error.LineError.{LineError}
use Rattle.run_session.specs.declared.line_error.LineError.TheVariants.{BadLine, Record}

-- the state of a recording, and the moves spent
abbrev pub recording_moment : Recording → Moment
recording_moment r = record { state = r.state; spent = r.spent }

-- the progress of a run: its rule set, how far its recording has come and what it counts, and this text
abbrev pub progress : RuleSet → Recording → List ℕ → Progress
progress rules r text = record { rules = rules; moment = recording_moment r; count = r.len; text = text; counting = r.counting }

module _ {R : Type 0} where
  -- the progress of a run
  abbrev pub progress_of : Run R → Progress
  progress_of run = progress run.rules run.recorder run.text.items

-- a turn was taken: it drew an event, and its entry was made; `rest` are the words that it left
abbrev pub TurnTakes : Draws → RuleTable → ℕ → Stream → Stream → Progress → Progress → Type 0
TurnTakes draws t limit stream rest before after =
    (event : Event) × (before.count < limit) × (draws t before.moment.state stream ≡ (Some event, rest)) × AppendsEntry t event before after

-- this many turns were taken, each with an entry; `rest` are the words that they left
abbrev pub TurnsTake : Draws → RuleTable → ℕ → ℕ → Stream → Stream → Progress → Progress → Type 0
TurnsTake draws t limit zero stream rest before after = (rest ≡ stream) × (after ≡ before)
TurnsTake draws t limit (suc n) stream rest before after =
    (mid : Progress) × (words : Stream) × TurnsTake draws t limit n stream words before mid × TurnTakes draws t limit words rest mid after

-- after n of these turns: all were taken; or the next one draws no event, meets a full log, or found no memory
abbrev pub StopsAfter : Draws → RuleTable → ℕ → ℕ → ℕ → Stream → Stream → Progress → Result Bool RecordFault → Type 0
StopsAfter draws t limit turns n rest left after (Ok true) = (n ≡ turns) × (left ≡ rest)
StopsAfter draws t limit turns n rest left after (Ok false) = (n < turns) × (after.count < limit) × ((draws t after.moment.state rest).0 ≡ None)
StopsAfter draws t limit turns n rest left after (Err LogFull) = (n < turns) × (limit ≤ after.count)
StopsAfter draws t limit turns n rest left after (Err Memory) = n ≤ turns

-- Some turns were taken, and they stopped so. If all were taken, `left` are the words for the turns after them.
pub record SomeTurnsEnd (draws : Draws) (t : RuleTable) (limit turns : ℕ) (stream left : Stream) (before after : Progress) (result : Result Bool RecordFault) : Type 0 where
  pub taken : ℕ
  pub rest : Stream
  pub takes : TurnsTake draws t limit taken stream rest before after
  pub stops : StopsAfter draws t limit turns taken rest left after result

-- some first turns were taken, each of them whole
abbrev pub TurnsBegin : Draws → RuleTable → ℕ → ℕ → Stream → Progress → Progress → Type 0
TurnsBegin draws t limit turns stream before after = (n : ℕ) × (n ≤ turns) × TurnsDo draws t limit n stream before after

-- at most some first turns of the command were taken
abbrev pub CommandBegins : RuleTable → ℕ → Command → Progress → Progress → Type 0
CommandBegins t limit (Tell event) before after = after ≡ before
CommandBegins t limit (Drive turns) before after = TurnsBegin drawn_step t limit turns.count (seeded_stream turns.seed) before after
CommandBegins t limit (Scramble turns) before after = TurnsBegin drawn_fault t limit turns.count (seeded_stream turns.seed) before after
CommandBegins t limit Checkpoint before after = after ≡ before

-- at most some first turns of the line's command were taken
abbrev pub LineBegins : RuleTable → ℕ → List ℕ → Progress → Progress → Type 0
LineBegins t limit line before after = (after ≡ before) ⊎ ((command : Command) × Says line command × CommandBegins t limit command before after)

-- the event has its entry; or nothing was done, because the log was full or memory ran out
abbrev pub EventEnds : RuleTable → ℕ → Event → Progress → Progress → Result Unit RecordFault → Type 0
EventEnds t limit event before after (Ok done) = EventDoes t limit event before after
EventEnds t limit event before after (Err LogFull) = (before.count ≡ limit) × (after ≡ before)
EventEnds t limit event before after (Err Memory) = after ≡ before

-- the turns were taken, or a turn met a full log; if memory ran out, some first turns were taken
abbrev pub TurnsEnd : Draws → RuleTable → ℕ → ℕ → Stream → Progress → Progress → Result Unit RecordFault → Type 0
TurnsEnd draws t limit turns stream before after (Ok done) = TurnsDo draws t limit turns stream before after
TurnsEnd draws t limit turns stream before after (Err LogFull) = TurnsFill draws t limit turns stream before after
TurnsEnd draws t limit turns stream before after (Err Memory) = TurnsBegin draws t limit turns stream before after

-- the command was carried out, or met a full log; if memory ran out, at most some of its first turns were
-- taken
abbrev pub CommandEnds : RuleTable → ℕ → Command → Progress → Progress → Result Unit RecordFault → Type 0
CommandEnds t limit command before after (Ok done) = CommandDoes t limit command before after
CommandEnds t limit command before after (Err LogFull) = CommandFills t limit command before after
CommandEnds t limit command before after (Err Memory) = CommandBegins t limit command before after

-- the line is bad, and has this number; or memory ran out while it was read
abbrev pub FailsToRead : ℕ → List ℕ → LineError → Type 0
FailsToRead number line (BadLine n) = (n ≡ number) × IsBadLine line
FailsToRead number line (Record LogFull) = ⊥
FailsToRead number line (Record Memory) = Unit {0}

-- a command was read from the line, which is not empty
abbrev pub SaysSome : List ℕ → Command → Type 0
SaysSome line command = (line ≢ []) × Says line command

-- the line was carried out, is bad, or met a full log; if memory ran out, at most some first turns were taken
abbrev pub LineEnds : RuleTable → ℕ → ℕ → List ℕ → Progress → Progress → Result Unit LineError → Type 0
LineEnds t limit number line before after (Ok done) = LineDoes t limit line before after
LineEnds t limit number line before after (Err (BadLine n)) = (n ≡ number) × IsBadLine line × (after ≡ before)
LineEnds t limit number line before after (Err (Record LogFull)) = MeetsFullLog t limit line before after
LineEnds t limit number line before after (Err (Record Memory)) = LineBegins t limit line before after
