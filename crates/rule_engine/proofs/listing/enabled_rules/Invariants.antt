use Rattle.rule_engine.proofs.Prelude.{◌≡◌, take, filter_map, marked_at}
use Rattle.rule_engine.proofs.listing.enabled_rules.Given as goal

abbrev pub invariant-loop-v : goal.invariant-loop-v
invariant-loop-v g l = l.rules.items ≡ filter_map (marked_at g.R.Rules.table l.state.state) (take l.v-index l.nodes)
