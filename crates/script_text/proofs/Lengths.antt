-- How long the text of a command is.
use Rattle.script_text.proofs.Prelude.{ℕ, ◌<◌, ◌≤◌, List, length, codes, ap, length-append, arith, length-decimal-le, number_text, two_short, event_short, Command, Tell, Drive, Scramble, Checkpoint, Turns, IsTurns, IsCommand, turns_text, command_text, SaysNothing}

turns_short : (t : Turns) → IsTurns t → length (turns_text t) ≤ 28
turns_short t h =
    let seed : length (number_text t.seed) ≤ 20 = length-decimal-le 20 t.seed (omega arith) (omega (arith, h.0)) (omega (arith, h.0)) in
    let count : length (number_text t.count) ≤ 7 = length-decimal-le 7 t.count (omega arith) (omega (arith, h.1)) (omega (arith, h.1)) in
    two_short (number_text t.seed) (number_text t.count) 20 7 seed count

command_short : (c : Command) → IsCommand c → length (command_text c) ≤ 786424
command_short (Tell event) h = event_short event h
command_short (Drive turns) h = omega (arith, turns_short turns h, length-append (codes "drive ") (turns_text turns))
command_short (Scramble turns) h = omega (arith, turns_short turns h, length-append (codes "scramble ") (turns_text turns))
command_short Checkpoint h = omega arith

-- a line this long is no command
pub long_says_nothing : (line : List ℕ) → 1048576 < length line → SaysNothing line
long_says_nothing line long c says = omega (arith, long, command_short c says.0, ap length says.1)
