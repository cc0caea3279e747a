use Rattle.std.proofs.Common.{◌∙◌, count_by, length, ap, arith}
use Rattle.std.proofs.lemmas.List.{take_all}
use Rattle.silence_laws.specs.Costs.{is_single_but}
use Rattle.move_bounds.proofs.Counting.{few_bytes, few_near, near_count}
use Rattle.move_bounds.proofs.count.unmarried_neighbours_but.Goals as goal

pub overflow_add-count : goal.overflow_add-count
overflow_add-count c =
    let near = few_near c.args.net.now.state.network c.args.v in
    let all = ap length c.neighbours-w-items.ensures.all in
    let so_far = c.loop-w.invariant.few in
    omega (arith, near, all, so_far, c.capacity.ensures.size, c.capacity.ensures.few, c.loop-w-test.true, c.from-count.ensures, few_bytes c.is_unmarried_but.result)

pub returns-clause-count : goal.returns-clause-count
returns-clause-count c =
    let s = c.args.net.now.state in
    c.loop-w.invariant.count
    ∙ ap (count_by (is_single_but s c.args.but.now)) (take_all c.loop-w.w-index c.neighbours-w-items.result.now (omega arith) ∙ c.neighbours-w-items.ensures.all)
    ∙ near_count s.network (is_single_but s c.args.but.now) c.args.v

pub returns-clause-few : goal.returns-clause-few
returns-clause-few c =
    let near = few_near c.args.net.now.state.network c.args.v in
    let all = ap length c.neighbours-w-items.ensures.all in
    let so_far = c.loop-w.invariant.few in
    omega (arith, near, all, so_far, c.loop-w.auto.w-index-end, c.capacity.ensures.size, c.capacity.ensures.few)
