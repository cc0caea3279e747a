use Rattle.enabled_set.proofs.Prelude.{◌∙◌, ap, get_or, sym, first_bits, is_in}
use Rattle.enabled_set.proofs.PlainBits.{lot_none}
use Rattle.enabled_set.proofs.set.EnabledSet.lots.Goals as goal

pub returns-clause-counted : goal.returns-clause-counted
returns-clause-counted c = λ lot v none from low.
    ap (λ s. is_in s v) (sym c.self.view_is)
    ∙ lot_none (first_bits c.self.inside.len c.self.inside.words.items) c.self.inside.by_4096.items lot v c.self.invariant.in_4096 (sym (ap (λ counts. get_or counts lot 0) c.deref.ensures.value) ∙ none) from low
