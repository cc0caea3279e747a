-- The bound on moves by the number of nodes alone, as a number.
use Rattle.dense_laws.proofs.Prelude.{ℕ, ◌≤◌, List, arith, node_count, IsState, hsu_huang, Entry, Moment, Run, moves_in, IsUndisturbed, dense_bound}
use Rattle.dense_laws.proofs.Runs.{moves_are_few}

-- no run without a disturbance has more moves
pub within_bound : (start : Moment) → IsState start.state → (log : List Entry) (end : Moment) → Run hsu_huang start log end → IsUndisturbed log → moves_in log ≤ dense_bound (node_count start.state.network)
within_bound start good log end run calm = omega (arith, moves_are_few start good log end run calm)
