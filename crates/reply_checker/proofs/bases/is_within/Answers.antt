use Rattle.reply_checker.proofs.Prelude.{◌-◌, ◌∙◌, nat_le, ap, ap₂, arith, charge_bound, table_of, weight_of}
use Rattle.reply_checker.proofs.BaseStarts.{charge_within, beside}
use Rattle.reply_checker.proofs.bases.is_within.Goals as goal

pub overflow_sub-result : goal.overflow_sub-result
overflow_sub-result c =
    let most = charge_within c.args.rules c.args.counted.now.net.state in
    omega (arith, most, c.from-charge.ensures, c.totals.ensures.value.charge, c.bound-bound.ensures)

pub returns-clause-within : goal.returns-clause-within
returns-clause-within c =
    let s = c.args.counted.now.net.state in
    ap₂ (λ charge bound. nat_le c.from.result (bound - charge)) (c.from-charge.ensures ∙ c.totals.ensures.value.charge) c.bound-bound.ensures
    ∙ ap (λ spent. nat_le spent (charge_bound (weight_of c.args.rules) s.network - (table_of c.args.rules).charge s)) c.from.ensures
    ∙ beside c.args.spent ((table_of c.args.rules).charge s) (charge_bound (weight_of c.args.rules) s.network) (charge_within c.args.rules s)
