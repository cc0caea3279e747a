use Rattle.graph_store.proofs.Prelude.{◌≡◌, ◌+◌, ◌-◌, ◌≤◌, length, true, slice_set, set, SomeIff, arith, ap, ◌∙◌, subst, first_names}
use Rattle.graph_store.proofs.PresentRows.{first_names_len, first_names_none, first_names_more}
use Rattle.graph_store.proofs.edge_store.first_names.Goals as goal

pub loop-name-init : goal.loop-name-init
loop-name-init c = c.in_ok-set.ensures ∙ first_names_none c.args.size

pub insert-requires : goal.insert-requires
insert-requires c =
    let is = subst (λ o. SomeIff o ((1 ≤ c.loop-name.name) × (c.loop-name.name ≤ 65535)) c.loop-name.name) c.unwrap.ensures c.new-in-loop-name.ensures in
    let len = ap length c.loop-name.invariant ∙ first_names_len c.args.size (c.loop-name.name - 1) in
    let below = c.loop-name-test.true in
    let within = c.requires.within in
    omega (arith, is.1, len, below, within)

pub loop-name-preserved : goal.loop-name-preserved
loop-name-preserved c =
    let is = subst (λ o. SomeIff o ((1 ≤ c.loop-name.name) × (c.loop-name.name ≤ 65535)) c.loop-name.name) c.unwrap.ensures c.new-in-loop-name.ensures in
    let below = c.loop-name-test.true in
    let within = c.requires.within in
    let low = c.loop-name.auto.name in
    let next : c.loop-name.name ≡ (c.loop-name.name - 1) + 1 = omega (arith, low) in
    let back : c.loop-name.name ≡ c.loop-name.name + 1 - 1 = omega arith in
    c.insert.ensures ∙ ap (λ l. slice_set l c.unwrap.result true) c.loop-name.invariant ∙ ap (λ v. set (first_names c.args.size (c.loop-name.name - 1)) v true) is.1
    ∙ first_names_more c.args.size (c.loop-name.name - 1) c.loop-name.name low (omega (arith, below, within)) next ∙ ap (first_names c.args.size) back

pub returns : goal.returns
returns c =
    let past = c.loop-name-test.false in
    let most = c.loop-name.auto.name-end (omega arith) in
    let end : c.loop-name.name - 1 ≡ c.args.count = omega (arith, past, most) in
    c.loop-name.invariant ∙ ap (first_names c.args.size) end
