use Rattle.cli_args.proofs.Prelude.{ap, ◌∙◌, false, App, network_app}
use Rattle.cli_args.proofs.ArgumentAddition.{added, last_added}
use Rattle.cli_args.proofs.command.run_command.Goals as goal

pub returns : goal.returns
returns c =
    let network = c.in_ok-network_command.ensures in
    let named = network.0 ∙ ap (λ (a : App). network_app a false c.args.names) c.reading_command-run.ensures.0 in
    let from = added _ _ _ _ _ c.in_ok-arg.ensures (named, network.1) c.from_arg.ensures in
    last_added _ _ c.arg-2.result _ _ c.arg-2.ensures from c.file_arg.ensures
