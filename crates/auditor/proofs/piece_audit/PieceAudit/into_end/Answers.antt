use Rattle.std.proofs.Common.{Err}
use Rattle.auditor.specs.TranscriptEnds.{summary_in}
use Rattle.auditor.proofs.VerdictUniqueness.{judged_accepts, judged_names}
use Rattle.auditor.proofs.IncrementalAudits.{ended_read, fed_read, some_read, tried_whole}
use Rattle.auditor.proofs.TranscriptEnds.{ends_judged}
use Rattle.auditor.proofs.piece_audit.PieceAudit.into_end.Goals as goal

pub finish-requires : goal.finish-requires
finish-requires c = (c.args.self.few, some_read c.args.self.trial c.args.self.fault c.in-None.is c.args.self.some)

pub returns-in-Some : goal.returns-in-Some
returns-in-Some c = record {
  ended = λ bytes fed. tried_whole bytes c.args.self.trial c.args.self.fault c.in-Some.fault c.in-Some.is fed;
  accepts_runs = λ bytes fed. judged_accepts bytes (Err c.in-Some.fault) (tried_whole bytes c.args.self.trial c.args.self.fault c.in-Some.fault c.in-Some.is fed);
  never_read = fed_read c.args.self.trial c.args.self.fault c.in-Some.fault c.args.self.some c.in-Some.is;
  names_damage = λ bytes fed. judged_names bytes (Err c.in-Some.fault) (tried_whole bytes c.args.self.trial c.args.self.fault c.in-Some.fault c.in-Some.is fed);
  goes_on = tt;
}

pub returns-in-None : goal.returns-in-None
returns-in-None c = record {
  ended = λ bytes fed. c.finish.ensures.ended bytes (rw c.in-None.is at fed);
  accepts_runs = λ bytes fed. judged_accepts bytes (summary_in c.finish.result) (ends_judged bytes c.finish.result (c.finish.ensures.ended bytes (rw c.in-None.is at fed)));
  never_read = ended_read c.args.self.trial c.finish.result (some_read c.args.self.trial c.args.self.fault c.in-None.is c.args.self.some) c.finish.ensures.ended;
  names_damage = λ bytes fed. judged_names bytes (summary_in c.finish.result) (ends_judged bytes c.finish.result (c.finish.ensures.ended bytes (rw c.in-None.is at fed)));
  goes_on = c.finish.ensures.goes_on;
}
