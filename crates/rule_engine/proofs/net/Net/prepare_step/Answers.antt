use Rattle.rule_engine.proofs.Prelude.{ap, sym, ◌∙◌, verdicts_of}
use Rattle.rule_engine.proofs.ItemVerdicts.{judged_of}
use Rattle.rule_engine.proofs.net.Net.prepare_step.Goals as goal

pub step_of-requires : goal.step_of-requires
step_of-requires g c =
    let t = g.R.Rules.table in
    let s = c.args.self.now.state in
    judged_of t s c.items.result.now c.args.verdicts.now (c.requires ∙ ap (verdicts_of t s) (sym c.items.ensures.items))
