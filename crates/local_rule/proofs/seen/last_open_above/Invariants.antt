use Rattle.std.proofs.Common.{◌≡◌, take, map}
use Rattle.local_rule.specs.Looks.{open_above_in}
use Rattle.local_rule.proofs.seen.last_open_above.Given as goal

-- nothing was found after the index
abbrev pub invariant-loop-place : goal.invariant-loop-place
invariant-loop-place g l = open_above_in g.R.Rules.table.opens (map g.T.AsRecord.shows (take l.place l.around)) l.v ≡ open_above_in g.R.Rules.table.opens (map g.T.AsRecord.shows l.around) l.v
