-- A script: its lines, and what the lines do one after another.
use Rattle.std.specs.Prelude.{◌≡◌, ◌≢◌, ℕ, zero, suc, ◌+◌, ◌<◌, ◌≤◌, ◌⊎◌, List, [], ◌∷◌, ◌++◌, ◌==◌, if◌then◌else◌, Option, None, Some}
use Rattle.rand_core.specs.Stream.{Stream}
use Rattle.rule_machine.specs.declared.event.Event.{Event}
use Rattle.rule_machine.specs.declared.rule_set.RuleSet.{RuleSet}
use Rattle.rule_machine.specs.RuleTable.{RuleTable}
use Rattle.rule_machine.specs.Least.{reply_of, state_after}
use Rattle.rule_machine.specs.Run.{Moment, moment_after}
use Rattle.rule_machine.specs.Base.{base_of}
use Rattle.round_laws.specs.RoundCounts.{RoundCount, next_counting}
use Rattle.line_text.specs.EntryText.{entry_line}
use Rattle.line_text.specs.BaseText.{base_text}
use Rattle.script_text.specs.declared.command.Command.{Command}
use Rattle.script_text.specs.declared.command.Command.TheVariants.{Tell, Drive, Scramble, Checkpoint}
use Rattle.script_text.specs.Command.{Says, SaysNothing}
use Rattle.seeded_turns.specs.DrawnEvents.{Draws, seeded_stream, drawn_step, drawn_fault}

-- the same lines with this byte put before the first
abbrev pub onto_first : ℕ → List (List ℕ) → List (List ℕ)
onto_first b [] = (b ∷ []) ∷ []
onto_first b (line ∷ lines) = (b ∷ line) ∷ lines

-- the lines in order, without their LFs; the last line may lack its LF
abbrev pub lines_of : List ℕ → List (List ℕ)
lines_of [] = []
lines_of (b ∷ bytes) = if b == 10 then [] ∷ lines_of bytes else onto_first b (lines_of bytes)

-- how far a run has come: its rule set, the machine's state, the moves spent, the number of entries, the text
-- of the entries, and the count of rounds, if they are counted
pub record Progress : Type 0 where
  pub rules : RuleSet
  pub moment : Moment
  pub count : ℕ
  pub text : List ℕ
  pub counting : Option RoundCount

-- the machine carries out the event, and its entry is appended to the text and counted
pub record AppendsEntry (t : RuleTable) (event : Event) (before after : Progress) : Type 0 where
  pub rules : after.rules ≡ before.rules
  pub moment : after.moment ≡ moment_after t before.moment event
  pub count : after.count ≡ before.count + 1
  pub text : after.text ≡ before.text ++ entry_line (before.count + 1) event (reply_of t before.moment.state before.moment.spent event)
  pub counting : after.counting ≡ next_counting t (reply_of t before.moment.state before.moment.spent event) (state_after t before.moment.state event) before.counting

-- an event makes an entry, if there are fewer entries than the limit
abbrev pub EventDoes : RuleTable → ℕ → Event → Progress → Progress → Type 0
EventDoes t limit event before after = (before.count < limit) × AppendsEntry t event before after

-- one turn: if it draws no event, the turns end; if it draws an event, an entry is made and the other turns
-- follow
abbrev pub TurnDoes : RuleTable → Option Event → (Progress → Type 0) → Progress → Progress → Type 0
TurnDoes t None Others before after = after ≡ before
TurnDoes t (Some event) Others before after = (next : Progress) × AppendsEntry t event before next × Others next

-- at most this many turns, each made while there are fewer entries than the limit; each turn draws its event
-- in the state that the turns before it have reached
abbrev pub TurnsDo : Draws → RuleTable → ℕ → ℕ → Stream → Progress → Progress → Type 0
TurnsDo draws t limit zero stream before after = after ≡ before
TurnsDo draws t limit (suc turns) stream before after =
    (before.count < limit) × TurnDoes t (draws t before.moment.state stream).0 (λ next. TurnsDo draws t limit turns (draws t before.moment.state stream).1 next after) before after

-- the lines of the state's base are appended; a base is no entry, so the number of entries stays the same
abbrev pub with_checkpoint : Progress → Progress
with_checkpoint at = record at { text = at.text ++ base_text at.rules at.moment.state.network.size (base_of at.count at.moment) }

-- what a command does
abbrev pub CommandDoes : RuleTable → ℕ → Command → Progress → Progress → Type 0
CommandDoes t limit (Tell event) before after = EventDoes t limit event before after
CommandDoes t limit (Drive turns) before after = TurnsDo drawn_step t limit turns.count (seeded_stream turns.seed) before after
CommandDoes t limit (Scramble turns) before after = TurnsDo drawn_fault t limit turns.count (seeded_stream turns.seed) before after
CommandDoes t limit Checkpoint before after = after ≡ with_checkpoint before

-- an empty line does nothing; any other line is a command and does what the command does
abbrev pub LineDoes : RuleTable → ℕ → List ℕ → Progress → Progress → Type 0
LineDoes t limit [] before after = after ≡ before
LineDoes t limit (b ∷ line) before after = (command : Command) × Says (b ∷ line) command × CommandDoes t limit command before after

-- Each line does what it says, one after another. `one_end` proves that they lead to at most one end.
abbrev pub LinesDo : RuleTable → ℕ → List (List ℕ) → Progress → Progress → Type 0
LinesDo t limit [] before after = after ≡ before
LinesDo t limit (line ∷ lines) before after =
    (next : Progress) × LineDoes t limit line before next × LinesDo t limit lines next after

-- the line is neither empty nor a command
abbrev pub IsBadLine : List ℕ → Type 0
IsBadLine line = (line ≢ []) × SaysNothing line

-- the log is full, and nothing was done
abbrev pub IsFull : ℕ → Progress → Progress → Type 0
IsFull limit before after = (limit ≤ before.count) × (after ≡ before)

-- a turn that makes an entry, after which a later turn meets a full log
abbrev pub TurnFills : RuleTable → Option Event → (Progress → Type 0) → Progress → Type 0
TurnFills t None Others before = ⊥
TurnFills t (Some event) Others before = (next : Progress) × AppendsEntry t event before next × Others next

-- some first turns are taken, and the next turn meets a full log; that turn draws nothing
abbrev pub TurnsFill : Draws → RuleTable → ℕ → ℕ → Stream → Progress → Progress → Type 0
TurnsFill draws t limit zero stream before after = ⊥
TurnsFill draws t limit (suc turns) stream before after =
    IsFull limit before after
    ⊎ ((before.count < limit) × TurnFills t (draws t before.moment.state stream).0 (λ next. TurnsFill draws t limit turns (draws t before.moment.state stream).1 next after) before)

-- the command or one of its turns meets a full log; a checkpoint needs no entry
abbrev pub CommandFills : RuleTable → ℕ → Command → Progress → Progress → Type 0
CommandFills t limit (Tell event) before after = IsFull limit before after
CommandFills t limit (Drive turns) before after = TurnsFill drawn_step t limit turns.count (seeded_stream turns.seed) before after
CommandFills t limit (Scramble turns) before after = TurnsFill drawn_fault t limit turns.count (seeded_stream turns.seed) before after
CommandFills t limit Checkpoint before after = ⊥

-- the line is a command that meets a full log
abbrev pub MeetsFullLog : RuleTable → ℕ → List ℕ → Progress → Progress → Type 0
MeetsFullLog t limit line before after = (command : Command) × Says line command × CommandFills t limit command before after
