use Rattle.snapshots.proofs.Prelude.{◌≡◌, fold, drop, with_present, with_target}
use Rattle.snapshots.proofs.effect.put_nodes.Given as goal

-- the nodes that are left lead to the end of all of them
abbrev pub invariant-loop-at : goal.invariant-loop-at
invariant-loop-at l = record {
  row : fold with_target l.row (drop l.at-index l.nodes) ≡ fold with_target l.fn.row l.nodes;
  here : fold with_present l.here (drop l.at-index l.nodes) ≡ fold with_present l.fn.here l.nodes;
}
