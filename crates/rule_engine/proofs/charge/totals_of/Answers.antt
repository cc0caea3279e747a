use Rattle.rule_engine.proofs.Prelude.{arith, few_names}
use Rattle.rule_engine.proofs.ScanSums.{bound_fits, charge_counted}
use Rattle.rule_engine.proofs.charge.totals_of.Goals as goal

pub overflow_sub-charge : goal.overflow_sub-charge
overflow_sub-charge g c = omega (arith, charge_counted _ _ _ c.args.net.now.state _ _ _ _ (g.R.Rules.laws.charge_counts c.args.net.now.state c.capacity.ensures.sound) c.totals-all.ensures.open c.totals-all.ensures.added c.totals-all.ensures.closing, c.from.ensures, c.from-2.ensures, c.from-3.ensures)

pub overflow_cast-charge : goal.overflow_cast-charge
overflow_cast-charge g c =
    let s = c.args.net.now.state in
    let laws = g.R.Rules.laws in
    let bounded = laws.charged.bounded s c.capacity.ensures.sound in
    let few = c.edges.ensures.few in
    let names = few_names s.network in
    let size = c.capacity.ensures.few in
    let edges = c.edges.ensures.count in
    let fits = bound_fits g.R.Rules.NODE_WEIGHT s.network laws.is_light (omega (arith, names, size)) (omega (arith, few, edges)) in
    omega (arith, charge_counted _ _ _ c.args.net.now.state _ _ _ _ (g.R.Rules.laws.charge_counts c.args.net.now.state c.capacity.ensures.sound) c.totals-all.ensures.open c.totals-all.ensures.added c.totals-all.ensures.closing, bounded, fits, c.from.ensures, c.from-2.ensures, c.from-3.ensures)

pub returns-clause-charge : goal.returns-clause-charge
returns-clause-charge g c = omega (arith, charge_counted _ _ _ c.args.net.now.state _ _ _ _ (g.R.Rules.laws.charge_counts c.args.net.now.state c.capacity.ensures.sound) c.totals-all.ensures.open c.totals-all.ensures.added c.totals-all.ensures.closing, c.from.ensures, c.from-2.ensures, c.from-3.ensures)
