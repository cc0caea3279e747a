use Rattle.rule_engine.proofs.Prelude.{subst, sym, WereOn}
use Rattle.rule_engine.proofs.derived.DerivedObserver.saw.Goals as goal

pub follow-turned-requires : goal.follow-turned-requires
follow-turned-requires g c = (c.requires.0, (c.requires.1.0, c.requires.1.1.index))

pub saw-requires : goal.saw-requires
saw-requires g c = (c.requires.0, (c.requires.1.0, c.requires.1.1.exact))

pub refresh-requires-clause-told : goal.refresh-requires-clause-told
refresh-requires-clause-told g c =
    subst (WereOn g.R.Rules.table c.args.self.now.enabled c.args.change) (sym c.new.ensures) (c.requires.0, (c.requires.1.0, c.requires.1.1.enabled))
