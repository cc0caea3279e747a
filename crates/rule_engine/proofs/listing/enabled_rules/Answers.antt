use Rattle.rule_engine.proofs.Prelude.{◌∙◌, ap, sym, filter_map, option_map, arith, take_all, marked_at}
use Rattle.rule_engine.proofs.NodeScans.{pushed_found, skipped_found, enabled_listed}
use Rattle.rule_engine.proofs.listing.enabled_rules.Goals as goal
use Rattle.rule_engine.proofs.listing.enabled_rules.Goals.{in-Some+in_ok-push, in_default}

pub loop-v-preserved : goal.loop-v-preserved
loop-v-preserved g c =
    let f = marked_at g.R.Rules.table c.args.state.now.state in
    let v = c.v-item.result in
    let rule = c.rule_enabled.ensures in
    elim c.match-rule_enabled.branch [
      | in-Some+in_ok-push w ↦
          pushed_found f c.loop-v.rules.items _ c.args.nodes.now c.loop-v.v-index v _ c.loop-v-test.true c.v-item.is c.loop-v.invariant (ap (λ r. r.items) w.rules-is ∙ w.in_ok-push.ensures.items) (ap (option_map (λ act. (v, act))) (sym rule ∙ w.in-Some.is))
      | in_default w ↦
          skipped_found f c.loop-v.rules.items _ c.args.nodes.now c.loop-v.v-index v c.loop-v-test.true c.v-item.is c.loop-v.invariant (ap (λ r. r.items) w.rules-is) (ap (option_map (λ act. (v, act))) (sym rule ∙ w.in_default.is))
    ]

pub returns : goal.returns
returns g c =
    let t = g.R.Rules.table in
    let s = c.args.state.now.state in
    c.loop-v.invariant ∙ ap (filter_map (marked_at t s)) (take_all c.loop-v.v-index c.args.nodes.now (omega arith) ∙ c.requires) ∙ enabled_listed t s
