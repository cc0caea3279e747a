use Rattle.std.proofs.Common.{◌≡◌, ◌+◌, ◌≤◌, SomeIff, refl, sym, subst, ◌∙◌}
use Rattle.std.specs.Option.{IsSome}
use Rattle.std.proofs.lemmas.Option.{slice_get-get_or, get_or_from_slice_get}
use Rattle.rule_machine.specs.Network.{names, node_count}
use Rattle.fault_injector.proofs.FullNetworks.{name_at}
use Rattle.fault_injector.proofs.picks.nth_node.Goals as goal

pub returns-then-nodes-capacity : goal.returns-then-nodes-capacity
returns-then-nodes-capacity c =
    let net = c.args.store.now.network in
    let is = subst (λ o. SomeIff o ((1 ≤ c.args.place + 1) × (c.args.place + 1 ≤ 65535)) (c.args.place + 1)) c.unwrap.ensures c.new.ensures in
    let whole : node_count net ≡ net.size = sym c.nodes.ensures.count ∙ c.if-nodes-capacity.true ∙ c.capacity.ensures.size in
    is.1 ∙ sym (name_at net c.args.place whole c.requires)

pub unwrap-requires-2 : goal.unwrap-requires-2
unwrap-requires-2 c =
    let net = c.args.store.now.network in
    subst IsSome (sym (c.nth.ensures ∙ slice_get-get_or (names net) c.args.place 0 c.requires)) refl

pub returns : goal.returns
returns c =
    let net = c.args.store.now.network in
    sym (get_or_from_slice_get (names net) c.args.place c.unwrap-2.result 0 (sym c.nth.ensures ∙ c.unwrap-2.ensures))
