use Rattle.std.proofs.Common.{rules, refl}
use Rattle.snapshots.proofs.history.History.open.Goals as goal

pub open_row-seen-requires : goal.open_row-seen-requires
open_row-seen-requires g c = ((0, c.requires, refl), search rules, search rules)
