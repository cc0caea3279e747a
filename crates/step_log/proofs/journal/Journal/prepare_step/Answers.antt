use Rattle.step_log.proofs.Prelude.{ap, ◌∙◌, Step, fits}
use Rattle.step_log.proofs.LogGrowth.{next_fits}
use Rattle.step_log.proofs.journal.Journal.prepare_step.Goals as goal

pub new-requires : goal.new-requires
new-requires g c =
    let laws = g.R.Rules.laws in
    ap (fits (Step c.args.choice)) c.in_ok-reply.ensures.reply ∙ next_fits g.R.Rules.table g.R.Rules.NODE_WEIGHT laws.table _ c.self.invariant.journal.is_kept (Step c.args.choice)
