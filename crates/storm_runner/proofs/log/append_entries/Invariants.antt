use Rattle.storm_runner.proofs.Prelude.{◌≡◌, ◌+◌, ◌-◌, ◌≤◌, ◌++◌, drop, dropped, Extends, entry_lines, AreWritable}
use Rattle.storm_runner.proofs.log.append_entries.Given as goal

abbrev pub invariant-loop-before : goal.invariant-loop-before
invariant-loop-before g l = record {
  behind : dropped l.journal.base ≤ l.before;
  text : l.out.items ++ entry_lines (l.before + 1) (drop (l.before - dropped l.journal.base) l.journal.entries) ≡ l.fn.out.items ++ entry_lines (dropped l.journal.base + 1) l.journal.entries;
  grown : Extends l.fn.out.items l.out.items;
  values : AreWritable (drop (l.before - dropped l.journal.base) l.journal.entries) → AreWritable l.journal.entries;
}
