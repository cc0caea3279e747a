use Rattle.rule_engine.proofs.EnabledNames.{AreFirstOn}
use Rattle.rule_engine.proofs.from_state.enabled_of.Given as goal

abbrev pub invariant-loop-below : goal.invariant-loop-below
invariant-loop-below g l = AreFirstOn g.R.Rules.table l.state.state l.below l.enabled
