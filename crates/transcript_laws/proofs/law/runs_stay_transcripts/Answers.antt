use Rattle.std.proofs.Common.{[]}
use Rattle.transcript_laws.proofs.AcceptedLines.{from_start, reached, to_start}
use Rattle.transcript_laws.proofs.law.runs_stay_transcripts.Goals as goal

pub returns : goal.returns
returns c first opening rules limit lines start end most same written reach = to_start first opening end (reached [] first opening rules limit most lines start end same (from_start first opening start written) reach).1
