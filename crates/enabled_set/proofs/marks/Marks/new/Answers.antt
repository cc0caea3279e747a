use Rattle.std.proofs.Common.{◌+◌, sym, arith}
use Rattle.enabled_set.proofs.Prelude.{true≢false}
use Rattle.enabled_set.proofs.MarkChanges.{none_listed}
use Rattle.enabled_set.proofs.marks.Marks.new.Goals as goal

pub invariant_of-result : goal.invariant_of-result
invariant_of-result c = (
  none_listed (c.args.nodes + 1) c.in_ok-is_marked.is_marked.items c.in_ok-names.names.items (omega arith) (omega (arith, c.requires)) (c.in_ok-is_marked.ensures.items_if_clones_equal (λ y e. e)) (omega (arith, c.in_ok-names.ensures.len)),
  λ all. absurd (true≢false (sym all)),
)
