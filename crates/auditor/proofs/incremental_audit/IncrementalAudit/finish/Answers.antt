use Rattle.auditor.proofs.PieceReading.{held_compared, held_somewhere}
use Rattle.auditor.proofs.incremental_audit.IncrementalAudit.finish.Goals as goal

pub judge_whole-requires : goal.judge_whole-requires
judge_whole-requires c = record {
  at = held_somewhere c.args.self c.in-Some.run' _ c.in-Some.is c.deref.ensures.value c.requires;
  compared = held_compared c.args.self c.in-Some.run' _ c.in-Some.is c.deref.ensures.value c.requires;
}

pub returns-in-Some-clause-ended : goal.returns-in-Some-clause-ended
returns-in-Some-clause-ended c read is = c.judge_whole.ensures.ended read (rw c.deref.ensures.value (rw c.in-Some.is at is.1).0)
