use Rattle.std.proofs.Common.{refl}
use Rattle.cli_args.proofs.ArgumentAddition.{added, last_added}
use Rattle.cli_args.proofs.command.roaming_command.Goals as goal

pub returns : goal.returns
returns c =
    let roam = added _ _ _ _ _ c.in_ok-arg.ensures (refl, c.requires) c.roam_arg.ensures in
    let turns = added _ _ _ _ _ c.in_ok-arg-2.ensures roam c.turns_arg.ensures in
    last_added _ _ c.arg-3.result _ _ c.arg-3.ensures turns c.script_arg.ensures
