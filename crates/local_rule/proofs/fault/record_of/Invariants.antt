use Rattle.std.proofs.Common.{◌≡◌, find, drop, nat_eq, map}
use Rattle.local_rule.proofs.fault.record_of.Given as goal

abbrev pub invariant-loop-row : goal.invariant-loop-row
invariant-loop-row g l =
    find (λ r. nat_eq r.node l.w) (map g.T.AsRecord.shows (drop l.row-index l.around)) ≡ find (λ r. nat_eq r.node l.w) (map g.T.AsRecord.shows l.around)
