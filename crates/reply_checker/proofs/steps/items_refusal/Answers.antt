use Rattle.reply_checker.proofs.Prelude.{◌≡◌, ◌+◌, ◌<◌, ◌≤◌, ◌∙◌, None, Some, is_some, length, take, sym, ap, refl, subst, arith, length-set, table_of, present_range, refused_item, is_item_node, HasChosenItems}
use Rattle.reply_checker.proofs.Table.{item_refused, refusal_more, refusal_here, held_more, item_taken, within_from_held}
use Rattle.reply_checker.proofs.steps.items_refusal.Goals as goal

pub loop-item-preserved : goal.loop-item-preserved
loop-item-preserved c =
    let t = table_of c.args.rules in
    let s = c.args.net.now.state in
    let items = c.args.items.now in
    let k = c.loop-item.item-index in
    let item = c.item-item.result in
    let table = c.loop-item.chosen in
    let inv = c.loop-item.invariant in
    let same : refused_item t s item c.is_some-twice.result ≡ refused_item t s item (is_item_node (take k items) item.node) = ap (refused_item t s item) (c.is_some-twice.ensures ∙ ap is_some c.get.ensures) ∙ item_refused t s items k item table inv.held in
    let none : refused_item t s item (is_item_node (take k items) item.node) ≡ None = sym same ∙ c.in-Ok.ensures.0 in
    let taken = item_taken t s item (is_item_node (take k items) item.node) none in
    let high : item.node ≤ s.network.size = (present_range s.network item.node taken.0).1 in
    let place : item.node < length table = omega (arith, high, inv.len, c.requires.len) in
    record {
      same = refusal_more t s items k item c.loop-item-test.true c.item-item.is none ∙ inv.same;
      held = subst (λ next. HasChosenItems t s next (take (k + 1) items)) (sym c.put.ensures) (held_more t s table items k item c.in-Ok.act inv.held c.in-Ok.ensures.1 c.loop-item-test.true c.item-item.is place taken.1);
      len = ap length c.put.ensures ∙ length-set table item.node (Some (record { item = item; act = c.in-Ok.act })) ∙ inv.len;
    }

pub returns-in-Err-clause-value : goal.returns-in-Err-clause-value
returns-in-Err-clause-value c =
    let t = table_of c.args.rules in
    let s = c.args.net.now.state in
    let items = c.args.items.now in
    let k = c.loop-item.item-index in
    let item = c.item-item.result in
    let inv = c.loop-item.invariant in
    let same : refused_item t s item c.is_some-twice.result ≡ refused_item t s item (is_item_node (take k items) item.node) = ap (refused_item t s item) (c.is_some-twice.ensures ∙ ap is_some c.get.ensures) ∙ item_refused t s items k item c.loop-item.chosen inv.held in
    sym (refusal_here t s items k item (Some c.in-Err.refusal) c.loop-item-test.true c.item-item.is (sym same ∙ c.in-Err.ensures) refl) ∙ inv.same

pub returns-in-Err-clause-within : goal.returns-in-Err-clause-within
returns-in-Err-clause-within c = within_from_held (table_of c.args.rules) c.args.net.now.state c.loop-item.chosen c.args.items.now c.loop-item.item-index c.loop-item.invariant.held

pub returns-clause-within : goal.returns-clause-within
returns-clause-within c = within_from_held (table_of c.args.rules) c.args.net.now.state c.loop-item.chosen c.args.items.now c.loop-item.item-index c.loop-item.invariant.held
