use Rattle.daemon.proofs.Prelude.{◌≡◌, drop, map, played}
use Rattle.daemon.proofs.recorded.play.Given as goal

abbrev pub invariant-loop-place : goal.invariant-loop-place
invariant-loop-place l = played l.central l.names (drop l.place (map (λ list. list.items) l.lists)) ≡ played l.central l.names (drop l.from (map (λ list. list.items) l.lists))
