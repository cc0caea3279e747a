use Rattle.std.proofs.Common.{map, sym, ap, ◌∙◌}
use Rattle.std.proofs.lemmas.Iterator.Adapters.{YieldsList-from_vec}
use Rattle.std.proofs.lemmas.Iterator.Consumers.{YieldsList-end}
use Rattle.std.proofs.lemmas.List.{map-id}
use Rattle.locked_net.specs.Receipts.{receipts_of}
use Rattle.locked_net.proofs.ending.all_receipts.Goals as goal

pub returns : goal.returns
returns c =
    let from = c.into_iter-clerk-iterator.ensures.into_iter_gives in
    let every = YieldsList-from_vec {s = c.into_iter-clerk-iterator.result} c.args.clerks.items from.0 (from.1 ∙ c.args.clerks.ok.0) in
    let over = YieldsList-end every c.loop-clerk.yielded c.loop-clerk.clerk-iterator c.loop-clerk.yielded_by c.next.result c.next.new.self c.in-None.is c.next.ensures.steps in
    c.loop-clerk.invariant ∙ ap (map receipts_of) (sym (map-id c.loop-clerk.yielded) ∙ over.0)
