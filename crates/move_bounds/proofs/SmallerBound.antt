-- The smaller of the two bounds is one: each of them is.
use Rattle.std.proofs.Common.{◌≡◌, ℕ, Option, None, Some, refl, arith}
use Rattle.rule_machine.specs.Network.{node_count}
use Rattle.rule_machine.specs.State.{State, IsState}
use Rattle.rule_machine.specs.RuleTable.{RuleTable}
use Rattle.machine_laws.proofs.LeastMoves.{IsTable}
use Rattle.machine_laws.specs.ChargeWords.{IsCharged}
use Rattle.machine_laws.proofs.Laws.{moves_are_paid}
use Rattle.move_bounds.specs.MovesLeft.{smaller_bound, BoundsMoves, BoundsByNodes}

pub smaller_bounds : (t : RuleTable) (weight : ℕ) → IsTable t → IsCharged t weight → (most : ℕ → Option ℕ) → BoundsByNodes t most → (s : State) (spent : ℕ) → IsState s → BoundsMoves t s spent (smaller_bound (t.charge s) (most (node_count s.network)))
smaller_bounds t weight table charged most bounds s spent good = by_most (most (node_count s.network)) (bounds s spent good)
  where
    by_charge : BoundsMoves t s spent (t.charge s)
    by_charge log end run calm =
        let paid = moves_are_paid t weight table charged (record { state = s; spent = spent }) good log end run calm in
        omega (arith, paid)

    by_most : (bound : Option ℕ) → ((n : ℕ) → bound ≡ Some n → BoundsMoves t s spent n) → BoundsMoves t s spent (smaller_bound (t.charge s) bound)
    by_most None is log end run calm = by_charge log end run calm
    by_most (Some n) is log end run calm =
        let first = by_charge log end run calm in
        let second = is n refl log end run calm in
        omega (arith, first, second)
