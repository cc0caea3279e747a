use Rattle.net_totals.proofs.Prelude.{◌&&◌, ◌∙◌, ◌≤◌, ℕ, Bool, cond, count_by, length, ap, sym, subst, arith, take_all, neighbours, points, StateView, one_byte, few_neighbours}
use Rattle.net_totals.proofs.ContributionSums.{counted_more, few_bytes}
use Rattle.net_totals.proofs.contribution.closing_among.Goals as goal

pub overflow_add-closing : goal.overflow_add-closing
overflow_add-closing g c =
    let net = c.net.result.now.state.network in
    let near = few_neighbours net c.args.node.now.node in
    let all = ap length c.neighbours-w-items.ensures.all in
    let few = subst (λ (h : StateView). h.state.network.size ≤ 65535) (sym c.net.ensures.value) c.net.ensures.few in
    let so_far = c.loop-w.invariant.few in
    omega (arith, near, all, few, so_far, c.loop-w-test.true, c.from-closing.ensures, few_bytes c.closes_edge.result)

pub loop-w-preserved : goal.loop-w-preserved
loop-w-preserved g c =
    let v = c.args.node.now.node in
    let p : ℕ → Bool = λ x. points c.args.index.now.state.registers x v && g.R.Rules.closes c.args.index.now.state x in
    let so_far = c.loop-w.invariant.few in
    record {
      count = counted_more p c.neighbours-w-items.result.now c.loop-w.w-index c.w-item.result c.loop-w.closing c.from-closing.result c.loop-w-test.true c.w-item.is c.loop-w.invariant.count (c.from-closing.ensures ∙ one_byte c.closes_edge.result ∙ ap (λ (b : Bool). cond {A = ℕ} b 1 0) c.closes_edge.ensures);
      few = omega (arith, so_far, c.from-closing.ensures, few_bytes c.closes_edge.result);
    }

pub returns : goal.returns
returns g c =
    let v = c.args.node.now.node in
    c.loop-w.invariant.count
    ∙ ap (count_by (λ x. points c.args.index.now.state.registers x v && g.R.Rules.closes c.args.index.now.state x))
    (take_all c.loop-w.w-index c.neighbours-w-items.result.now (omega arith) ∙ c.neighbours-w-items.ensures.all ∙ ap (λ (h : StateView). neighbours h.state.network v) c.net.ensures.value)
