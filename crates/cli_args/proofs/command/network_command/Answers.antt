use Rattle.std.proofs.Common.{refl}
use Rattle.cli_args.proofs.ArgumentAddition.{added, last_added}
use Rattle.cli_args.proofs.command.network_command.Goals as goal

pub returns : goal.returns
returns c =
    let rules = added _ _ _ _ _ c.in_ok-arg.ensures (refl, c.requires) c.rules_arg.ensures in
    let nodes = added _ _ _ _ _ c.in_ok-arg-2.ensures rules c.nodes_arg.ensures in
    let present = added _ _ _ _ _ c.in_ok-arg-3.ensures nodes c.present_arg.ensures in
    last_added _ _ c.arg-4.result _ _ c.arg-4.ensures present c.workers_arg.ensures
