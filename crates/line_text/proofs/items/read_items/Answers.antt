use Rattle.std.proofs.Common.{◌≡◌, ◌≢◌, [], arith}
use Rattle.line_text.proofs.ItemsOnce.{SoFar-more, SoFar-stuck}
use Rattle.line_text.proofs.items.read_items.Goals as goal

pub returns-in_default-read_item-clause-items : goal.returns-in_default-read_item-clause-items
returns-in_default-read_item-clause-items c all f e =
    let some : c.loop-rest.rest.now ≢ [] = λ (h : c.loop-rest.rest.now ≡ []). absurd (grind arith) in
    SoFar-stuck c.args.bytes.now c.loop-rest.items.items c.loop-rest.rest.now c.loop-rest.invariant some c.in_default-read_item.ensures all f e

pub loop-rest-preserved : goal.loop-rest-preserved
loop-rest-preserved c =
    rw c.in-Ok-push.ensures.items (SoFar-more c.args.bytes.now c.loop-rest.items.items c.loop-rest.rest.now c.in-Some-read_item.item c.in-Some-read_item.behind.now c.loop-rest.invariant c.in-Some-read_item.ensures)
