use Rattle.cli_args.proofs.Prelude.{refl, ◌^◌, codes, ghosts, found_of, one_text, rows_of}
use Rattle.cli_args.proofs.FoundMatches.{maybe_read, no_picture, none_given}
use Rattle.cli_args.proofs.task.picture_task.Goals as goal

pub returns-in-Ok : goal.returns-in-Ok
returns-in-Ok c =
    let f = found_of c.args.picture.now in
    (refl, maybe_read ghosts.from_str_gives (2 ^ 32) (codes "entry") f (one_text f (codes "entry")) c.in-Ok.entry refl c.in-Ok.ensures.none c.in-Ok.ensures.value (λ t v read. read.0))

pub returns-in-Err : goal.returns-in-Err
returns-in-Err c =
    let f = found_of c.args.picture.now in
    no_picture (rows_of f) (λ entry h. none_given ghosts.from_str_gives (2 ^ 32) (codes "entry") f c.in-Err.field-0 entry c.in-Err.ensures.none c.in-Err.ensures.value (λ t v none is. none.0 is.0) h)
