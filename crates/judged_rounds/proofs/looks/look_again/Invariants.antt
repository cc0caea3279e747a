use Rattle.judged_rounds.proofs.Prelude.{◌≡◌, Bool, List, length, members, table_of, AreNoted, AreOnBut}
use Rattle.judged_rounds.proofs.looks.look_again.Given as goal

abbrev pub invariant-loop-v : goal.invariant-loop-v
invariant-loop-v l = record {
  on : AreOnBut (table_of l.rules) l.judge l.fn.enabled l.fn.due l.fn.witnesses → AreOnBut (table_of l.rules) l.judge l.enabled l.due l.witnesses;
  noted : (before : List Bool) → AreNoted before l.fn.enabled l.fn.removals → AreNoted before l.enabled l.removals;
  places : length l.enabled ≡ length l.fn.enabled;
  due_places : length l.due ≡ length l.fn.due;
  witness_places : length l.witnesses ≡ length l.fn.witnesses;
}

abbrev pub decreases-loop-v : goal.decreases-loop-v
decreases-loop-v l = length (members l.due)
