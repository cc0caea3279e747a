use Rattle.std.proofs.Common.{◌≡◌, drop, map}
use Rattle.local_rule.specs.Looks.{suitor_in}
use Rattle.local_rule.proofs.seen.first_suitor.Given as goal

abbrev pub invariant-loop-row : goal.invariant-loop-row
invariant-loop-row g l =
    suitor_in (map g.T.AsRecord.shows (drop l.row-index l.around)) l.v ≡ suitor_in (map g.T.AsRecord.shows l.around) l.v
