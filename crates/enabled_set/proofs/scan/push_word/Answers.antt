use Rattle.std.proofs.Common.{◌+◌, refl, ap, ◌∙◌, arith}
use Rattle.enabled_set.proofs.Nth.{listed_none, listed_up, listed_more, bit_named, bits_fewer}
use Rattle.enabled_set.proofs.scan.push_word.Goals as goal
use Rattle.enabled_set.proofs.scan.push_word.Goals.{in-Some-new+in_ok-push, in_default-new}

pub loop-at-init : goal.loop-at-init
loop-at-init c = (0, listed_none c.args.words.now c.args.place _ c.args.list.now.items refl c.requires.so_far)

pub overflow_cast-name : goal.overflow_cast-name
overflow_cast-name c =
    let found = c.in-Some.ensures in
    let so_far = c.loop-at.invariant in
    let name = bit_named c.args.words.now c.args.place c.loop-at.rest c.loop-at.list.items so_far.0 c.in-Some.at c.requires.named so_far.1 found.0 found.1 in
    omega arith

pub loop-at-smaller : goal.loop-at-smaller
loop-at-smaller c =
    let found = c.in-Some.ensures in
    bits_fewer c.loop-at.rest c.without_bit-rest.result c.in-Some.at found.0 found.1 c.without_bit-rest.ensures.here c.without_bit-rest.ensures.others

pub loop-at-preserved : goal.loop-at-preserved
loop-at-preserved c =
    let found = c.in-Some.ensures in
    let so_far = c.loop-at.invariant in
    let name = bit_named c.args.words.now c.args.place c.loop-at.rest c.loop-at.list.items so_far.0 c.in-Some.at c.requires.named so_far.1 found.0 found.1 in (
      c.in-Some.at + 1,
      elim c.match-new.branch [
        | in-Some-new+in_ok-push w ↦ listed_more c.args.words.now c.args.place c.loop-at.rest c.without_bit-rest.result c.in-Some.at w.in-Some-new.member so_far.0 c.loop-at.list.items c.match-new.list.items so_far.1 found.0 found.1 found.2 c.without_bit-rest.ensures.here c.without_bit-rest.ensures.others (w.in-Some-new.ensures.1 ∙ c.from.ensures) (ap (λ list. list.items) w.list-is ∙ w.in_ok-push.ensures.items)
        | in_default-new w ↦ absurd (w.in_default-new.ensures (omega (arith, c.from.ensures), omega (arith, c.from.ensures)))
      ],
    )

pub returns : goal.returns
returns c =
    let so_far = c.loop-at.invariant in
    listed_up c.args.words.now c.args.place c.loop-at.rest c.loop-at.list.items so_far.0 64 so_far.1 so_far.1.within (omega arith) (λ i low. c.in_default.ensures i)
