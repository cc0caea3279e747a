use Rattle.script_text.proofs.Prelude.{◌≡◌, ◌+◌, ◌++◌, ℕ, List, length, map, drop, ScriptLine, AllHold, FirstBadScript}
use Rattle.script_text.proofs.reading.read_each.Given as goal

abbrev pub invariant-loop-reader : goal.invariant-loop-reader
invariant-loop-reader g l =
    let known = g.In.Read.remaining in
    let readers = l.fn.readers.items in record {
      number : l.number ≡ length l.yielded;
      holds : (more : List (List ScriptLine)) → AllHold (map known (drop l.number readers)) more → AllHold (map known readers) (l.scripts.items ++ more);
      bad : (script line : ℕ) → FirstBadScript (l.number + 1) (map known (drop l.number readers)) script line → FirstBadScript 1 (map known readers) script line;
    }
