use Rattle.cli_args.proofs.Prelude.{◌∙◌, found_of}
use Rattle.cli_args.proofs.FoundMatches.{given_is}
use Rattle.cli_args.proofs.task.is_given.Goals as goal

pub returns : goal.returns
returns c = c.is_some.ensures ∙ given_is (found_of c.args.found.now) c.args.id.now c.get_str.result c.get_str.ensures
