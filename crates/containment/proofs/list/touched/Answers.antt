use Rattle.containment.proofs.Prelude.{◌≡◌, ◌∙◌, ℕ, Bool, List, [], ◌∷◌, ◌++◌, cond, Vec, Global, sym, ap, subst, Node, cond-true, cond-false, names, without_head, is_hit_or_parted}
use Rattle.containment.proofs.MergedLists.{Remains, begun, taken, all_taken}
use Rattle.containment.proofs.list.touched.Goals.{then-is_touched+in_ok-push, else-is_touched}
use Rattle.containment.proofs.list.touched.Goals as goal

pub loop-v-init : goal.loop-v-init
loop-v-init c = λ p q one two. begun c.args.net.now.state.network p q (is_hit_or_parted c.args.net.now.state c.args.event.now) c.args.xs.now c.args.ys.now c.new-list.result.items one two c.new-list.ensures.items

pub loop-v-preserved : goal.loop-v-preserved
loop-v-preserved c = λ p q one two.
    let test : ℕ → Bool = is_hit_or_parted c.args.net.now.state c.args.event.now in
    let v = c.in-Some.v in
    let grown : c.if-is_touched.list.items ≡ cond (test v) (c.loop-v.list.items ++ v ∷ []) c.loop-v.list.items = elim c.if-is_touched.branch [
      | then-is_touched+in_ok-push w ↦ ap (λ (x : Vec Node Global). x.items) w.list-is ∙ w.in_ok-push.ensures.items ∙ sym (cond-true (test v) (c.loop-v.list.items ++ v ∷ []) c.loop-v.list.items (sym c.is_touched.ensures ∙ w.if-is_touched.true))
      | else-is_touched w ↦ ap (λ (x : Vec Node Global). x.items) w.list-is ∙ sym (cond-false (test v) (c.loop-v.list.items ++ v ∷ []) c.loop-v.list.items (sym c.is_touched.ensures ∙ w.if-is_touched.false))
    ] in
    subst (λ (ys : List ℕ). Remains (names c.args.net.now.state.network) p q test c.without_head-first.result.now ys c.if-is_touched.list.items) (sym c.without_head-second.ensures)
    (subst (λ (xs : List ℕ). Remains (names c.args.net.now.state.network) p q test xs (without_head v c.loop-v.second.now) c.if-is_touched.list.items) (sym c.without_head-first.ensures)
    (taken (names c.args.net.now.state.network) p q test c.loop-v.first.now c.loop-v.second.now c.loop-v.list.items c.if-is_touched.list.items v (c.loop-v.invariant p q one two) (sym c.least_head.ensures ∙ c.in-Some.is) grown))

pub returns : goal.returns
returns c = λ p q one two. all_taken (names c.args.net.now.state.network) p q (is_hit_or_parted c.args.net.now.state c.args.event.now) c.loop-v.first.now c.loop-v.second.now c.loop-v.list.items
    (c.loop-v.invariant p q one two) (sym c.least_head.ensures ∙ c.in_default.is)
