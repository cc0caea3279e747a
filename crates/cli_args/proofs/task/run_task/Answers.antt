use Rattle.cli_args.proofs.Prelude.{◌∙◌, sym, codes, found_of, first_value-rows}
use Rattle.cli_args.proofs.task.run_task.Goals as goal

pub resumed_run-requires : goal.resumed_run-requires
resumed_run-requires c = sym (first_value-rows (found_of c.args.run.now) (codes "from")) ∙ sym c.in-Some.ensures

pub fresh_run-requires : goal.fresh_run-requires
fresh_run-requires c = sym (first_value-rows (found_of c.args.run.now) (codes "from")) ∙ sym c.in-None.ensures
