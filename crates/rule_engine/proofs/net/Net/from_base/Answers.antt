use Rattle.rule_engine.proofs.Prelude.{◌∙◌, sym, ap, subst, arith, State, Moment, charge_bound, few_names, list_any}
use Rattle.rule_machine.specs.Base.{IsBaseMoment}
use Rattle.rule_machine.specs.declared.base.Base.{Base}
use Rattle.rule_engine.specs.BaseFaults.{IsStateOf}
use Rattle.rule_engine.proofs.NetworkStarts.{fit_flags, begins, too_much, nodes_counted}
use Rattle.rule_engine.proofs.net.Net.from_base.Goals as goal

pub returns-then-has_unused_flag-clause-fault : goal.returns-then-has_unused_flag-clause-fault
returns-then-has_unused_flag-clause-fault g c =
    let both = c.has_unused_flag.ensures.0 c.if-has_unused_flag.true in
    (c.in_ok-state.state.state, c.in_ok-state.ensures.state, both.0, ap (list_any (λ node. node.flagged)) (sym c.as_slice.ensures) ∙ both.1)

pub returns-then-not-is_within-clause-fault : goal.returns-then-not-is_within-clause-fault
returns-then-not-is_within-clause-fault g c =
    let t = g.R.Rules.table in
    let weight = g.R.Rules.NODE_WEIGHT in
    let base : Base = c.args.base.now in
    let s : State = c.in_ok-state.state.state in
    let of_base : IsStateOf c.args.size base s = c.in_ok-state.ensures.state in
    let fit = fit_flags t c.args.size base c.as_slice.result.now s c.has_unused_flag.result c.as_slice.ensures c.has_unused_flag.ensures c.if-has_unused_flag.false of_base in
    (s, of_base, fit, too_much base.spent (t.charge s) (charge_bound weight s.network) (sym c.is_within.ensures.within ∙ c.if-not-is_within.true))

pub with_derived-requires-clause-budget : goal.with_derived-requires-clause-budget
with_derived-requires-clause-budget g c =
    let t = g.R.Rules.table in
    let weight = g.R.Rules.NODE_WEIGHT in
    let base : Base = c.args.base.now in
    let s : State = c.in_ok-state.state.state in
    let of_base : IsStateOf c.args.size base s = c.in_ok-state.ensures.state in
    let fit = fit_flags t c.args.size base c.as_slice.result.now s c.has_unused_flag.result c.as_slice.ensures c.has_unused_flag.ensures c.if-has_unused_flag.false of_base in
    let begun = begins t weight c.args.size base s of_base fit (sym c.is_within.ensures.within ∙ c.if-not-is_within.false) in
    record { is_state = begun.is_state; within = begun.within; unflagged = begun.unflagged }

pub returns : goal.returns
returns g c =
    let t = g.R.Rules.table in
    let weight = g.R.Rules.NODE_WEIGHT in
    let base : Base = c.args.base.now in
    let s : State = c.in_ok-state.state.state in
    let of_base : IsStateOf c.args.size base s = c.in_ok-state.ensures.state in
    let fit = fit_flags t c.args.size base c.as_slice.result.now s c.has_unused_flag.result c.as_slice.ensures c.has_unused_flag.ensures c.if-has_unused_flag.false of_base in
    let count = nodes_counted c.args.size base s of_base in
    let few = few_names s.network in
    let size = of_base.lines.size_is in
    let small = of_base.few.names in
    record {
      ok = subst (λ (m : Moment). IsBaseMoment t (charge_bound weight) c.args.size base m) (sym c.in_ok-net.ensures.moment)
          (begins t weight c.args.size base s of_base fit (sym c.is_within.ensures.within ∙ c.if-not-is_within.false));
      few = (of_base.few, omega (arith, count, few, size, small));
      uncounted = c.in_ok-net.ensures.uncounted;
      fault = tt;
    }
