use Rattle.enabled_set.proofs.Prelude.{◌*◌, ◌≤◌, length, ap, sym, ◌∙◌, arith, members, is_bit_on, first_bits}
use Rattle.enabled_set.proofs.PassCounts.{below_none}
use Rattle.enabled_set.proofs.Nth.{below_all}
use Rattle.enabled_set.proofs.set.EnabledSet.to_list.Goals as goal

pub loop-place-init : goal.loop-place-init
loop-place-init c = c.in_ok-list.ensures.items ∙ sym (below_none (is_bit_on c.self.inside.words.items))

pub returns : goal.returns
returns c =
    let end = c.loop-place-test.false in
    let most : 64 * length c.self.inside.words.items ≤ 64 * c.loop-place.place = omega (arith, c.len-place-end.ensures) in
    c.loop-place.invariant ∙ below_all (first_bits c.self.inside.len c.self.inside.words.items) c.self.inside.words.items c.self.inside.by_512.items c.self.inside.by_4096.items c.self.inside.total (64 * c.loop-place.place) c.self.invariant most ∙ ap members c.self.view_is
