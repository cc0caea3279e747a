use Rattle.script_text.proofs.Prelude.{◌+◌, ◌≤◌, ◌++◌, ℕ, List, length, lines_of, ScriptLine, LinesHold, FirstBad}
use Rattle.script_text.proofs.text.read_text.Given as goal

abbrev pub invariant-loop-line : goal.invariant-loop-line
invariant-loop-line l = record {
  holds : (more : List ScriptLine) → LinesHold (l.number + 1) (lines_of l.rest) more → LinesHold 1 (lines_of l.text) (l.lines.items ++ more);
  bad : (number : ℕ) → FirstBad (l.number + 1) (lines_of l.rest) number → FirstBad 1 (lines_of l.text) number;
  room : l.number + length l.rest ≤ length l.text;
}

abbrev pub decreases-loop-line : goal.decreases-loop-line
decreases-loop-line l = length l.rest
