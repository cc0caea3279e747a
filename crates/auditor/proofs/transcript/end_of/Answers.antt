use Rattle.auditor.specs.TranscriptEnds.{summary_in}
use Rattle.std.proofs.lemmas.Option.{IfSome_then}
use Rattle.auditor.proofs.VerdictUniqueness.{heard_accepts, heard_names}
use Rattle.auditor.proofs.TranscriptEnds.{ends_heard, heard_ended, heard_wrong}
use Rattle.auditor.proofs.transcript.end_of.Goals as goal

pub returns-clause-ended : goal.returns-clause-ended
returns-clause-ended g c = IfSome_then (g.In.Read.remaining c.args.reader.now.reader) c.judge_read.ensures.heard (λ bytes heard. heard_ended bytes c.judge_read.result heard)

pub returns-clause-damage : goal.returns-clause-damage
returns-clause-damage g c = IfSome_then (g.In.Read.remaining c.args.reader.now.reader) c.judge_read.ensures.heard (λ bytes heard. heard_wrong bytes c.judge_read.result heard)

pub returns-clause-accepts_runs : goal.returns-clause-accepts_runs
returns-clause-accepts_runs g c = IfSome_then (g.In.Read.remaining c.args.reader.now.reader) c.judge_read.ensures.heard (λ bytes heard. heard_accepts bytes (summary_in c.judge_read.result) (ends_heard bytes c.judge_read.result heard))

pub returns-clause-names_damage : goal.returns-clause-names_damage
returns-clause-names_damage g c = IfSome_then (g.In.Read.remaining c.args.reader.now.reader) c.judge_read.ensures.heard (λ bytes heard. heard_names bytes (summary_in c.judge_read.result) (ends_heard bytes c.judge_read.result heard))
