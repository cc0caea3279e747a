use Rattle.cli_args.proofs.Prelude.{found_of, rows_of}
use Rattle.cli_args.proofs.FoundMatches.{no_fresh}
use Rattle.cli_args.proofs.task.fresh_run.Goals as goal

pub returns-in_default : goal.returns-in_default
returns-in_default c = no_fresh (rows_of (found_of c.args.run.now)) c.requires c.in_default.ensures
