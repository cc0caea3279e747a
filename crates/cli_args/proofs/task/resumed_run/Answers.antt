use Rattle.cli_args.proofs.Prelude.{found_of, rows_of}
use Rattle.cli_args.proofs.FoundMatches.{no_resumed}
use Rattle.cli_args.proofs.task.resumed_run.Goals as goal

pub returns-in_default : goal.returns-in_default
returns-in_default c = no_resumed (rows_of (found_of c.args.run.now)) c.args.from.now c.requires (λ k h. c.in_default.ensures k h.workers_is)
