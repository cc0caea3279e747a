use Rattle.enabled_set.proofs.Prelude.{◌≡◌, ◌∙◌, ap, arith, first_bits, is_in, length}
use Rattle.std.proofs.lemmas.List.{with_items_is}
use Rattle.std.specs.Vec.{with_items}
use Rattle.enabled_set.proofs.PlainBits.{copied_all}
use Rattle.enabled_set.proofs.name_bits.NameBits.copy_from.Goals as goal

pub returns : goal.returns
returns c = λ v.
    let words = c.copy_lots-top.new.words in
    let room : length words ≡ 1024 = omega (arith, c.copy_lots-top.ensures.room, ap length c.deref_mut-2.ensures.value, c.wipe.ensures.room, ap length c.deref_mut.ensures.value, c.self.invariant.room) in
    ap (λ ws. is_in (first_bits 65536 ws) v) (with_items_is (with_items c.self.inside.words c.wipe.new.words) words (omega (arith, c.copy_lots-top.ensures.room, c.deref_mut-2.ensures.len)))
    ∙ copied_all words c.args.from.now c.words.result.now room c.words.ensures.few c.words.ensures.same c.copy_lots-top.ensures.same v
