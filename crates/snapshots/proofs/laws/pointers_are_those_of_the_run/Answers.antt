use Rattle.snapshots.proofs.Prelude.{ap, ◌∙◌, fold, row_effect}
use Rattle.snapshots.proofs.Machine.{run_pointers}
use Rattle.snapshots.proofs.Starts.{start_row}
use Rattle.snapshots.proofs.laws.pointers_are_those_of_the_run.Goals as goal

pub returns : goal.returns
returns c t size extent log start end is begins h = run_pointers t start log end h ∙ ap (λ row. fold row_effect row log) (start_row t size extent start is begins)
