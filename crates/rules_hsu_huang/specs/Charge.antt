-- How the charge is counted. By these rules a node adds to the charge only by its pointer.
use Rattle.std.proofs.Common.{◌≡◌, ℕ, ◌+◌, ◌*◌, ◌≤◌, true, false, List, [], ◌∷◌, None, Some, is_none, count_by, sum_by, refl, ap, arith}
use Rattle.std.proofs.lemmas.List.Sums.{sum_by-cons}
use Rattle.rule_machine.specs.Network.{names, edge_list}
use Rattle.rule_machine.specs.State.{State, IsState, pointer, holds_at, is_unanswered}
use Rattle.rule_machine.specs.Charge.{hsu_huang_charge}
use Rattle.machine_laws.specs.ClosedByPointers.{hsu_huang_closes}
use Rattle.rule_machine.specs.ChargeInputs.{ends_open, IsSameChargeInput}
use Rattle.machine_laws.proofs.ClosedByPointers.{hsu_huang_split}

abbrev pub no_flag_charge : State → ℕ → ℕ
no_flag_charge s v = 0

no_sum : (s : State) (xs : List ℕ) → sum_by (no_flag_charge s) xs ≡ 0
no_sum s [] = refl
no_sum s (x ∷ xs) = let rest = no_sum s xs in let whole = sum_by-cons (no_flag_charge s) x xs in omega (arith, rest, whole)

-- so the charge is computed from the stances and the pointers
pub charge_without_nodes : (s : State) → IsState s → hsu_huang_charge s + 2 * count_by (hsu_huang_closes s) (names s.network) ≡ 2 * count_by (ends_open true s) (edge_list s.network) + count_by (is_unanswered s) (names s.network) + sum_by (no_flag_charge s) (names s.network)
charge_without_nodes s good =
    let split = hsu_huang_split s good in let none = no_sum s (names s.network) in omega (arith, split, none)

-- a null pointer closes nothing
pub hsu_huang_null_closes : (s : State) (v : ℕ) → pointer s v ≡ None → hsu_huang_closes s v ≡ false
hsu_huang_null_closes s v null = ap (holds_at (λ w. is_none (pointer s w))) null

-- whether a pointer closes an edge depends on the pointer of its target
pub hsu_huang_closes_alike : (s u : State) (v w : ℕ) → IsState s → IsState u → pointer s v ≡ Some w → pointer u v ≡ Some w → IsSameChargeInput s u w → hsu_huang_closes s v ≡ hsu_huang_closes u v
hsu_huang_closes_alike s u v w good also at still same = grind arith

pub hsu_huang_weight_is_small : 1 ≤ 3
hsu_huang_weight_is_small = omega arith
