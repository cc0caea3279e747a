use Rattle.std.proofs.Common.{◌≡◌, map}
use Rattle.locked_net.specs.Receipts.{receipts_of}
use Rattle.locked_net.proofs.ending.all_receipts.Given as goal

abbrev pub invariant-loop-clerk : goal.invariant-loop-clerk
invariant-loop-clerk l = l.all.items ≡ map receipts_of l.yielded
