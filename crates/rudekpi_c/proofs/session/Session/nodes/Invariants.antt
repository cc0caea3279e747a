use Rattle.std.proofs.Common.{◌≡◌, filter}
use Rattle.std.specs.List.{range_with_len}
use Rattle.rule_machine.specs.Network.{present}
use Rattle.rudekpi_c.proofs.session.Session.nodes.Given as goal

abbrev pub invariant-loop-below : goal.invariant-loop-below
invariant-loop-below l = l.list.items ≡ filter (present l.store.network) (range_with_len 1 l.below)
