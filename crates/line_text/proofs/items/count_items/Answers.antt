use Rattle.std.proofs.Common.{◌≡◌, ◌≢◌, ◌<◌, [], arith}
use Rattle.line_text.proofs.ItemsOnce.{Counted-more, Counted-stuck}
use Rattle.line_text.proofs.items.count_items.Goals as goal

pub returns-in_default : goal.returns-in_default
returns-in_default c =
    let some : c.loop-rest.rest.now ≢ [] = λ (h : c.loop-rest.rest.now ≡ []). absurd (grind arith) in
    Counted-stuck c.args.bytes.now c.loop-rest.count c.loop-rest.rest.now c.loop-rest.invariant some c.in_default.ensures

pub loop-rest-preserved : goal.loop-rest-preserved
loop-rest-preserved c =
    let few = c.loop-rest.invariant.few in
    let room : c.loop-rest.count < 65535 = grind arith in
    Counted-more c.args.bytes.now c.loop-rest.count c.loop-rest.rest.now _ c.in-Some.behind.now c.loop-rest.invariant room c.in-Some.ensures
