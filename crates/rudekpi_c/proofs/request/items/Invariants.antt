use Rattle.std.proofs.Common.{◌≡◌, ◌≤◌, map, take, drop, length, vec_capacity}
use Rattle.std.specs.List.{AllByRecursion}
use Rattle.line_text.specs.EventText.{IsItem}
use Rattle.rudekpi_c.specs.CommandCalls.{item_named}
use Rattle.rudekpi_c.proofs.request.items.Given as goal

abbrev pub invariant-loop-one : goal.invariant-loop-one
invariant-loop-one l =
    (l.items.items ≡ map item_named (take l.one-index l.chosen)) × AllByRecursion IsItem (map item_named (drop l.one-index l.chosen)) × (length l.chosen ≤ vec_capacity l.items)
