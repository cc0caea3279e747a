use Rattle.cli_args.proofs.Prelude.{ap, ◌∙◌, false, subst, IfOk, App, Builds, network_app, roaming_app}
use Rattle.cli_args.proofs.ArgumentAddition.{added}
use Rattle.cli_args.proofs.command.storm_command.Goals as goal

pub returns : goal.returns
returns c =
    let network = c.in_ok-network_command.ensures in
    let named = network.0 ∙ ap (λ (a : App). network_app a false c.args.names) c.reading_command-storm.ensures.0 in
    let from = added _ _ _ _ _ c.in_ok-storm.ensures (named, network.1) c.from_arg.ensures in
    subst (λ (a : App). IfOk c.roaming_command.result (λ more. Builds more (roaming_app a))) from.0 c.roaming_command.ensures

pub roaming_command-requires : goal.roaming_command-requires
roaming_command-requires c = (added _ _ _ _ _ c.in_ok-storm.ensures c.in_ok-network_command.ensures c.from_arg.ensures).1
