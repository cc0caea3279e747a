use Rattle.rule_engine.proofs.Prelude.{nat_eq}
use Rattle.rule_engine.proofs.GuardRefresh.{looked_both}
use Rattle.rule_engine.proofs.refresh.look_at_ends.Goals as goal

pub returns-clause-set : goal.returns-clause-set
returns-clause-set g c = looked_both g.R.Rules.table c.args.state.now.state (λ w. nat_eq w c.args.a) (λ w. nat_eq w c.args.b) _ _ _ c.look_at.ensures.set c.look_at-2.ensures.set
