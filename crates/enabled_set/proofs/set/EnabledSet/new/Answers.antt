use Rattle.std.proofs.Common.{◌+◌, arith}
use Rattle.enabled_set.proofs.Changes.{counted_new, places_empty}
use Rattle.enabled_set.proofs.set.EnabledSet.new.Goals as goal

pub invariant_of-result : goal.invariant_of-result
invariant_of-result c = counted_new (c.args.nodes + 1) c.in_ok-words.words.items c.in_ok-by_512.by_512.items c.in_ok-by_4096.by_4096.items (omega arith) (c.in_ok-words.ensures.items_if_clones_equal (λ y e. e)) (c.in_ok-by_512.ensures.items_if_clones_equal (λ y e. e)) (c.in_ok-by_4096.ensures.items_if_clones_equal (λ y e. e))

pub returns : goal.returns
returns c = places_empty (c.args.nodes + 1) c.in_ok-words.words.items (c.in_ok-words.ensures.items_if_clones_equal (λ y e. e))
