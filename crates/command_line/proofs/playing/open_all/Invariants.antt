use Rattle.std.proofs.Common.{◌≡◌, length}
use Rattle.command_line.proofs.playing.open_all.Given as goal

abbrev pub invariant-loop-name : goal.invariant-loop-name
invariant-loop-name g l = length l.files.items ≡ l.name-index
