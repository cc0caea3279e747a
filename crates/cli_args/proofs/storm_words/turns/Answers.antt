use Rattle.cli_args.proofs.Prelude.{refl, ◌^◌, codes, ghosts, found_of, one_text}
use Rattle.cli_args.proofs.FoundMatches.{number_read}
use Rattle.cli_args.proofs.storm_words.turns.Goals as goal

pub returns : goal.returns
returns c =
    let f = found_of c.args.storm.now in
    number_read ghosts.from_str_gives (2 ^ 32) (codes "turns") f c.get_one.result (one_text f (codes "turns")) refl c.get_one.ensures.none c.get_one.ensures.value (λ t v read. read.0) (λ t v e none is. none.0 is.0)
