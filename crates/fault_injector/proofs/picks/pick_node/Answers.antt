use Rattle.std.proofs.Common.{◌≡◌, ◌<◌, ◌%◌, get_or, true, ap, sym, subst, ◌∙◌, arith}
use Rattle.std.specs.List.{range_with_len}
use Rattle.std.proofs.lemmas.List.Elements.{All-get_or, filter_passes}
use Rattle.rule_machine.specs.Network.{names, node_count, present}
use Rattle.fault_injector.proofs.picks.pick_node.Goals as goal

pub returns-clause-present : goal.returns-clause-present
returns-clause-present c =
    let net = c.args.store.now.network in
    let size = node_count net in
    let inside : c.args.word % size < size = omega (arith, c.requires) in
    let at : get_or (names net) (c.args.word % size) 0 ≡ c.nth_node.result = ap (λ n. get_or (names net) (c.args.word % n) 0) (sym c.nodes.ensures.count) ∙ sym c.nth_node.ensures in
    subst (λ v. present net v ≡ true) at
    (All-get_or (λ v. present net v ≡ true) (names net) (c.args.word % size) 0 inside (filter_passes (present net) (range_with_len 1 net.size)))
