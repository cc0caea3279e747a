use Rattle.std.proofs.Common.{◌≡◌, drop, map}
use Rattle.local_rule.specs.Looks.{first_open_in}
use Rattle.local_rule.proofs.seen.first_open.Given as goal

abbrev pub invariant-loop-row : goal.invariant-loop-row
invariant-loop-row g l = first_open_in g.R.Rules.table.opens (map g.T.AsRecord.shows (drop l.row-index l.around)) ≡ first_open_in g.R.Rules.table.opens (map g.T.AsRecord.shows l.around)
