use Rattle.step_log.proofs.Prelude.{subst, JournalView, kept_of, Upholds}
use Rattle.step_log.proofs.HeadlineProof.{upheld}
use Rattle.step_log.specs.JournalRounds.{CountsKept}
use Rattle.step_log.proofs.journal.Journal.net.Goals as goal

pub returns-clause-upheld : goal.returns-clause-upheld
returns-clause-upheld g c =
    let laws = g.R.Rules.laws in
    let t = g.R.Rules.table in
    let weight = g.R.Rules.NODE_WEIGHT in
    subst (λ (held : JournalView). Upholds t weight (kept_of held)) c.self.view_is (upheld t weight laws.table laws.charged laws.quiet_is_stable laws.stable_is_quiet _ c.self.invariant.journal.is_kept)

pub returns-clause-counted : goal.returns-clause-counted
returns-clause-counted g c =
    subst (λ (held : JournalView). CountsKept g.R.Rules.table g.R.Rules.NODE_WEIGHT (kept_of held) held.counted_from held.counting) c.self.view_is c.self.invariant.counts
