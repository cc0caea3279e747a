use Rattle.step_log.proofs.Prelude.{◌≤◌, ◌+◌, ◌*◌, arith, All-weaker, IsBoundedEpoch, epochs_along}
use Rattle.step_log.proofs.law.epochs_by_name.Goals as goal

pub returns-clause-hsu_huang : goal.returns-clause-hsu_huang
returns-clause-hsu_huang c kept upholds start path begins same steps =
    All-weaker (IsBoundedEpoch 1) (λ epoch. epoch.moves ≤ 2 * epoch.edges + epoch.nodes) (λ epoch bounded. omega (arith, bounded))
    (epochs_along kept start path) (upholds.epochs start path begins same steps)

pub returns-clause-manne : goal.returns-clause-manne
returns-clause-manne c kept upholds = upholds.epochs
