use Rattle.daemon.proofs.Prelude.{◌≡◌, ◌≤◌, ◌++◌, drop, length, vec_capacity, plain, draw_odd}
use Rattle.daemon.proofs.seeded.push_odd.Given as goal

abbrev pub invariant-loop-node : goal.invariant-loop-node
invariant-loop-node g l =
    (l.items.items ++ plain (draw_odd (drop l.node-index l.names) (g.G.Rng.stream l.generator)).0 ≡ plain (draw_odd l.names (g.G.Rng.stream l.initial.generator)).0)
    × ((draw_odd (drop l.node-index l.names) (g.G.Rng.stream l.generator)).1 ≡ (draw_odd l.names (g.G.Rng.stream l.initial.generator)).1)
    × (length l.items.items ≤ l.node-index)
    × (vec_capacity l.initial.items ≤ vec_capacity l.items)
