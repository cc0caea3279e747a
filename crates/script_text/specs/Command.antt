-- The commands of script lines. Each command has one text.
use Rattle.std.specs.Prelude.{◌≡◌, ℕ, ◌≤◌, List, ◌++◌, codes}
use Rattle.line_text.specs.Words.{number_text}
use Rattle.line_text.specs.EventText.{IsEvent, event_text}
use Rattle.script_text.specs.declared.command.Command.{Command}
use Rattle.script_text.specs.declared.command.Command.TheVariants.{Tell, Drive, Scramble, Checkpoint}
use Rattle.script_text.specs.declared.command.Turns.{Turns}

-- a seed of a generator, and at most 1,000,000 turns
abbrev pub IsTurns : Turns → Type 0
IsTurns turns = (turns.seed ≤ 18446744073709551615) × (turns.count ≤ 1000000)

-- the text of a seed and a number of turns
abbrev pub turns_text : Turns → List ℕ
turns_text turns = number_text turns.seed ++ codes " " ++ number_text turns.count

abbrev pub command_text : Command → List ℕ
command_text (Tell event) = event_text event
command_text (Drive turns) = codes "drive " ++ turns_text turns
command_text (Scramble turns) = codes "scramble " ++ turns_text turns
command_text Checkpoint = codes "checkpoint"

-- what every value of the program's type `Command` satisfies
abbrev pub IsCommand : Command → Type 0
IsCommand (Tell event) = IsEvent event
IsCommand (Drive turns) = IsTurns turns
IsCommand (Scramble turns) = IsTurns turns
IsCommand Checkpoint = Unit {0}

-- the line is the command's text
abbrev pub Says : List ℕ → Command → Type 0
Says line command = IsCommand command × (line ≡ command_text command)

-- the line is no `drive` or `scramble`
abbrev pub SaysNoTurns : List ℕ → Type 0
SaysNoTurns line = (turns : Turns) → IsTurns turns → (line ≡ codes "drive " ++ turns_text turns → ⊥) × (line ≡ codes "scramble " ++ turns_text turns → ⊥)

-- The line is the text of no command. `long_line` proves this of every line above 1,048,576 bytes.
abbrev pub SaysNothing : List ℕ → Type 0
SaysNothing line = (command : Command) → Says line command → ⊥
