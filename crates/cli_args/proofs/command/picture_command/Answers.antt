use Rattle.cli_args.proofs.ArgumentAddition.{added, last_added}
use Rattle.cli_args.proofs.command.picture_command.Goals as goal

pub returns : goal.returns
returns c =
    let entry = added _ _ _ _ _ c.in_ok-arg.ensures c.reading_command.ensures c.entry_arg.ensures in
    last_added _ _ c.arg-2.result _ _ c.arg-2.ensures entry c.file_arg.ensures
