use Rattle.net_state.proofs.Prelude.{◌↔◌, drop, NamesRise}
use Rattle.net_state.proofs.lines.names_rise.Given as goal

abbrev pub invariant-loop-place : goal.invariant-loop-place
invariant-loop-place l = NamesRise 0 l.nodes ↔ NamesRise l.last (drop l.place-index l.nodes)
