use Rattle.enabled_set.proofs.Prelude.{◌≡◌, ◌&&◌, ◌∙◌, Bool, ap, ap₂, arith, sym, length, first_bits, is_bit_on, is_in}
use Rattle.std.proofs.lemmas.List.{with_items_is}
use Rattle.enabled_set.proofs.PlainBits.{bits_all, met_on}
use Rattle.enabled_set.proofs.name_bits.NameBits.retain.Goals as goal

pub returns : goal.returns
returns c = λ v.
    let words = c.meet.new.words in
    let room : length words ≡ 1024 = omega (arith, c.meet.ensures.room, ap length c.deref_mut.ensures.value, c.self.invariant.room) in
    ap (λ ws. is_in (first_bits 65536 ws) v) (with_items_is c.self.inside.words words (omega (arith, c.meet.ensures.room, c.deref_mut.ensures.len)))
    ∙ bits_all words room v ∙ met_on c.deref_mut.result.now c.words.result.now words c.meet.ensures.each v
    ∙ ap₂ (λ (a b : Bool). a && b)
    (ap (λ ws. is_bit_on ws v) c.deref_mut.ensures.value ∙ sym (bits_all c.self.inside.words.items c.self.invariant.room v) ∙ ap (λ s. is_in s v) c.self.view_is)
    (sym (c.words.ensures.same v))
