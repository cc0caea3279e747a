use Rattle.std.proofs.Common.{◌≡◌, ◌≤◌, drop, take, map, All, IfSome}
use Rattle.local_rule.specs.Faults.{rows_fault}
use Rattle.local_rule.proofs.fault.rows_fault.Given as goal

abbrev pub invariant-loop-row : goal.invariant-loop-row
invariant-loop-row g l = record {
  rest : rows_fault l.me l.before (map g.T.AsRecord.shows (drop l.row-index l.around)) ≡ rows_fault l.me 0 (map g.T.AsRecord.shows l.around);
  named : All (λ r. IfSome r.target (λ w. 1 ≤ w)) (map g.T.AsRecord.shows (take l.row-index l.around));
}
