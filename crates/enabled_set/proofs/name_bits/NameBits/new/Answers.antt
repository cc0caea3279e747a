use Rattle.enabled_set.proofs.PlainBits.{empty_bits, empty_trimmed}
use Rattle.enabled_set.proofs.name_bits.NameBits.new.Goals as goal

pub invariant_of-result : goal.invariant_of-result
invariant_of-result c = empty_trimmed c.in_ok-words.words.items (c.in_ok-words.ensures.items_if_clones_equal (λ y e. e))

pub returns : goal.returns
returns c = empty_bits c.in_ok-words.words.items (c.in_ok-words.ensures.items_if_clones_equal (λ y e. e))
