use Rattle.cli_args.proofs.Prelude.{ap, Rule}
use Rattle.cli_args.proofs.ArgumentAddition.{excludes_three}
use Rattle.cli_args.proofs.command.strict_from.Goals as goal

pub returns-clause-excluded : goal.returns-clause-excluded
returns-clause-excluded c =
    excludes_three c.from_arg.result _ _ c.conflicts_with-3.result _ _ _ (ap (λ (r : Rule). r.is_free) c.from_arg.ensures.0) c.in_ok-conflicts_with.ensures c.in_ok-conflicts_with-2.ensures c.conflicts_with-3.ensures
