use Rattle.cli_args.proofs.Prelude.{refl, ◌^◌, found_of, one_text}
use Rattle.std.specs.contracts.prelude.U16FromStr.TheImpl.{ghosts}
use Rattle.cli_args.proofs.FoundMatches.{number_read}
use Rattle.cli_args.proofs.task.number.Goals as goal

pub returns : goal.returns
returns c =
    let f = found_of c.args.found.now in
    number_read ghosts.from_str_gives (2 ^ 16) c.args.id.now f c.get_one.result (one_text f c.args.id.now) refl c.get_one.ensures.none c.get_one.ensures.value (λ t v read. read.0) (λ t v e none is. none.0 is.0)
