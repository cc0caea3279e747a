use Rattle.std.proofs.Common.{◌↔◌, drop}
use Rattle.std.specs.List.{AllByRecursion}
use Rattle.rudekpi_c.specs.LocalCalls.{AreNames}
use Rattle.rudekpi_c.proofs.local.are_named.Given as goal

abbrev pub invariant-loop-shown : goal.invariant-loop-shown
invariant-loop-shown l = AllByRecursion AreNames (drop l.shown-index l.around) ↔ AllByRecursion AreNames l.around
