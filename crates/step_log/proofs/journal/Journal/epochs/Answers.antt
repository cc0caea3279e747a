use Rattle.step_log.proofs.Prelude.{refl, subst, epoch_now, IfOk, IfOk-weaker, AreEpochs, JournalView, kept_of}
use Rattle.step_log.specs.JournalRounds.{AreEpochRounds}
use Rattle.step_log.proofs.EpochRounds.{rounds_of_epochs}
use Rattle.step_log.proofs.EpochPaths.{told_epochs, told_bounded}
use Rattle.step_log.proofs.journal.Journal.epochs.Goals as goal

pub returns-clause-epochs : goal.returns-clause-epochs
returns-clause-epochs g c =
    let t = g.R.Rules.table in
    let weight = g.R.Rules.NODE_WEIGHT in
    subst (λ (held : JournalView). IfOk c.list.result (λ epochs. AreEpochs t weight (kept_of held) epochs.items)) c.self.view_is
    (IfOk-weaker c.list.result _ _ (λ epochs are. told_epochs t weight _ _ _ c.self.invariant.journal epochs.items are) c.list.ensures.epochs)

pub returns-clause-bound : goal.returns-clause-bound
returns-clause-bound g c =
    let laws = g.R.Rules.laws in
    let t = g.R.Rules.table in
    let weight = g.R.Rules.NODE_WEIGHT in
    IfOk-weaker c.list.result _ _ (λ epochs are. told_bounded t weight laws.table laws.charged _ _ _ c.self.invariant.journal epochs.items are) c.list.ensures.epochs

pub returns-clause-rounds : goal.returns-clause-rounds
returns-clause-rounds g c =
    let t = g.R.Rules.table in
    let weight = g.R.Rules.NODE_WEIGHT in
    let now = epoch_now c.self.inside.epochs.begun c.self.inside.net in
    subst (λ (held : JournalView). IfOk c.list.result (λ epochs. AreEpochRounds t weight (kept_of held) held.counted_from held.counting epochs.items)) c.self.view_is
    (IfOk-weaker c.list.result _ _ (λ epochs are. rounds_of_epochs t weight _ _ _ _ _ c.self.invariant now refl refl epochs.items are) c.list.ensures.list)
