use Rattle.enabled_set.proofs.Prelude.{length, sym, ap, ◌∙◌, members, first_bits}
use Rattle.enabled_set.proofs.Members.{length-members}
use Rattle.enabled_set.proofs.set.EnabledSet.count.Goals as goal

pub returns : goal.returns
returns c = sym c.self.invariant.in_all ∙ sym (length-members (first_bits c.self.inside.len c.self.inside.words.items)) ∙ ap (λ bits. length (members bits)) c.self.view_is
