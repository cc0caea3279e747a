use Rattle.std.proofs.Common.{◌≡◌, ◌∙◌, ◌+◌, ◌++◌, cond, filter, [], ◌∷◌, ap, arith}
use Rattle.std.specs.List.{range_with_len}
use Rattle.std.proofs.lemmas.Grind.{common_steps}
use Rattle.rule_machine.specs.Network.{Network, names, present}
use Rattle.rudekpi_c.proofs.NodeLists.{found_more, named_next}
use Rattle.rudekpi_c.proofs.session.Session.nodes.Goals as goal
use Rattle.rudekpi_c.proofs.session.Session.nodes.Goals.{then-has+in_ok-push, else-has}

pub loop-below-preserved : goal.loop-below-preserved
loop-below-preserved c =
    let net = c.store-store.result.now.network in
    let v = c.unwrap-v.result in
    let named : v ≡ c.loop-below.below + 1 = named_next _ _ _ _ c.new.ensures c.unwrap-v.ensures in
    let more : filter (present net) (range_with_len 1 (c.loop-below.below + 1)) ≡ filter (present net) (range_with_len 1 c.loop-below.below) ++ cond (present net v) (v ∷ []) [] =
    found_more (present net) c.loop-below.below v named in
    let so_far : c.loop-below.list.items ≡ filter (present net) (range_with_len 1 c.loop-below.below) = c.loop-below.invariant in
    let has : c.has.result ≡ present net v = c.has.ensures in
    elim c.if-has.branch [
      | then-has+in_ok-push w ↦ grind (arith, common_steps, w.list-is, w.in_ok-push.ensures.items, w.if-has.true, more, has, so_far)
      | else-has w ↦ grind (arith, common_steps, w.list-is, w.if-has.false, more, has, so_far)
    ]

pub returns : goal.returns
returns c =
    let net = c.store-store.result.now.network in
    let count : c.loop-below.below ≡ net.size = omega (arith, c.capacity-below-end.ensures.size) in
    c.loop-below.invariant ∙ ap (λ n. filter (present net) (range_with_len 1 n)) count ∙ ap (λ (x : Network). names x) c.store-store.ensures
