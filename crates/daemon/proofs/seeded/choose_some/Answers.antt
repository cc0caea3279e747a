use Rattle.daemon.proofs.Prelude.{rules, ◌≤◌, List, length, ap, ◌∙◌, arith, Stream, Item, members, draw_some}
use Rattle.daemon.proofs.Odd.{some_few}
use Rattle.daemon.proofs.Climb.{length_plain}
use Rattle.daemon.proofs.seeded.choose_some.Goals as goal

pub unwrap-requires : goal.unwrap-requires
unwrap-requires g c =
    let names = members c.args.set.now in
    let stream = g.G.Rng.stream c.args.generator.now in
    let len = ap (λ (d : List Item × Stream). length d.0) c.in_ok-items.ensures.drawn ∙ length_plain (draw_some names stream).0 in
    let most = some_few names stream c.requires in
    let all = c.in_ok-names.ensures.few in
    let few : length c.in_ok-items.items.items ≤ 65535 = omega arith in
    search rules
