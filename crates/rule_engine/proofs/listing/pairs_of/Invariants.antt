use Rattle.rule_engine.proofs.Prelude.{◌≡◌, take, filter_map, pair_above, answered_by}
use Rattle.rule_engine.proofs.listing.pairs_of.Given as goal

abbrev pub invariant-loop-v : goal.invariant-loop-v
invariant-loop-v l = l.pairs.items ≡ filter_map (λ v. pair_above v (answered_by l.registers v)) (take l.v-index l.ends)
