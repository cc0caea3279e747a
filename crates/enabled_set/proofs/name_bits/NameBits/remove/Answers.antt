use Rattle.enabled_set.proofs.Prelude.{◌/◌, ◌%◌, ◌<◌, ◌∙◌, ℕ, List, false, ap, arith, subst, sym, get_or, get_or_read, length, length-set, set, first_bits, has_bit, AreTrimmed}
use Rattle.enabled_set.proofs.PlainBits.{bits_left, put_bits, put_off, trimmed_again}
use Rattle.enabled_set.proofs.name_bits.NameBits.remove.Goals as goal

pub invariant_of-self : goal.invariant_of-self
invariant_of-self c =
    let it = c.self.inside in
    let v = c.place-place.result in
    let good = c.self.invariant in
    let there : v / 64 < length it.words.items = omega (arith, good.room, c.place-place.ensures.named) in
    let read = get_or_read it.words.items (v / 64) c.index-word.result.now there c.index-word.ensures 0 in
    let end = c.trimmed-self-inside.ensures in
    subst (λ (ws : List ℕ). AreTrimmed ws c.trimmed-self-inside.result) c.deref.ensures.value
    (trimmed_again c.deref.result.now it.used c.trimmed-self-inside.result (ap length c.deref.ensures.value ∙ length-set it.words.items (v / 64) c.without_bit.result ∙ good.room) good.within
    (λ i past. ap (λ ws. get_or ws i 0) c.deref.ensures.value ∙ put_off it.words.items it.used (v / 64) c.without_bit.result (omega arith) there good.off
    (λ j low on. ap (λ w. has_bit w j) (sym read) ∙ bits_left c.without_bit.result c.index-word.result.now (v % 64) c.without_bit.ensures.here c.without_bit.ensures.others j low on) i past)
    end.within end.off end.last)

pub returns : goal.returns
returns c =
    let it = c.self.inside in
    let v = c.place-place.result in
    let good = c.self.invariant in
    let named = c.place-place.ensures.named in
    let there : v / 64 < length it.words.items = omega (arith, good.room, named) in
    let read = get_or_read it.words.items (v / 64) c.index-word.result.now there c.index-word.ensures 0 in
    put_bits it.words.items v c.without_bit.result good.room (omega (arith, named)) c.without_bit.ensures.here (λ i low apart. c.without_bit.ensures.others i low apart ∙ ap (λ w. has_bit w i) read)
    ∙ ap (λ v. set (first_bits 65536 it.words.items) v false) c.place-place.ensures.same ∙ ap (λ xs. set xs c.args.v false) c.self.view_is
