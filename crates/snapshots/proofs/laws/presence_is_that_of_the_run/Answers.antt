use Rattle.snapshots.proofs.Prelude.{ap, ◌∙◌, fold, here_by}
use Rattle.snapshots.proofs.Machine.{run_names}
use Rattle.snapshots.proofs.Starts.{start_here, start_size}
use Rattle.snapshots.proofs.laws.presence_is_that_of_the_run.Goals as goal

pub returns-clause-here : goal.returns-clause-here
returns-clause-here c t size extent log start end is begins h =
    ap (λ n. n.1) (run_names t start log end h) ∙ ap (λ here. fold here_by here log) (start_here t size extent start is begins)

pub returns-clause-size : goal.returns-clause-size
returns-clause-size c t size extent log start end is begins h =
    ap (λ n. n.0) (run_names t start log end h) ∙ start_size t size extent.present extent.base start begins
