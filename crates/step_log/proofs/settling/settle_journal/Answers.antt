use Rattle.step_log.proofs.Prelude.{kept_of}
use Rattle.step_log.proofs.HeadlineProof.{upheld}
use Rattle.step_log.proofs.settling.settle_journal.Goals as goal

pub returns-in-Ok-clause-headline : goal.returns-in-Ok-clause-headline
returns-in-Ok-clause-headline g c =
    let laws = g.R.Rules.laws in
    let t = g.R.Rules.table in
    let weight = g.R.Rules.NODE_WEIGHT in
    let kept = upheld t weight laws.table laws.charged laws.quiet_is_stable laws.stable_is_quiet (kept_of c.args.journal) c.in-Ok.ensures.run in
    record { upheld = kept; told = c.in-Ok.ensures.settled }
