use Rattle.graph_store.proofs.Prelude.{◌≤◌, IsPartFor}
use Rattle.std.specs.Prelude.{◌-◌, ◌^◌}
use Rattle.graph_store.proofs.rows.narrow.Given as goal

abbrev pub invariant-loop : goal.invariant-loop
invariant-loop l = record {
  part : IsPartFor l.row l.name l.part.start l.part.size;
  short : l.part.size ≤ 2 ^ (6 - l.counter);
}
