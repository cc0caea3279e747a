-- How the charge is counted.
use Rattle.std.proofs.Common.{◌≡◌, ℕ, ◌+◌, ◌*◌, ◌≤◌, Bool, true, false, cond, not, ◌&&◌, None, Some, count_by, sum_by, nat_lt, sym, ◌∙◌, arith}
use Rattle.std.proofs.lemmas.Bool.{true≢false}
use Rattle.rule_machine.specs.Network.{names, edge_list}
use Rattle.rule_machine.specs.State.{State, IsState, pointer, flag, is_unanswered, married}
use Rattle.rule_machine.specs.Charge.{manne_node_charge, manne_charge}
use Rattle.machine_laws.proofs.Pointers.{married_from, married_some}
use Rattle.machine_laws.specs.ClosedByPointers.{manne_apart, manne_closes}
use Rattle.std.proofs.lemmas.Bool.{and_right}
use Rattle.rule_machine.specs.ChargeInputs.{ends_open, IsSameChargeInput, IsChargeInput}
use Rattle.rule_machine.specs.declared.charge_input.ChargeInput.{ChargeInput}
use Rattle.machine_laws.proofs.ListCounts.{count_agree}
use Rattle.machine_laws.proofs.ClosedByPointers.{manne_split}

-- computed from the stances and the pointers
pub charge_is_counted : (s : State) → IsState s → manne_charge s + 2 * count_by (manne_closes s) (names s.network) ≡ 2 * count_by (ends_open false s) (edge_list s.network) + count_by (is_unanswered s) (names s.network) + sum_by (manne_node_charge s) (names s.network)
charge_is_counted s good =
    let split = manne_split s good in
    let ends = count_agree (ends_open false s) (manne_apart s) (λ e. last_holds (not (married s e.0)) (not (married s e.1))) (edge_list s.network) in
    omega (arith, split, ends)
  where
    last_holds : (a b : Bool) → (a && b && true) ≡ (a && b)
    last_holds a b = grind arith

-- a null pointer closes nothing
pub manne_null_closes : (s : State) (v : ℕ) → pointer s v ≡ None → manne_closes s v ≡ false
manne_null_closes s v null = grind (arith, and_right)

-- a pointer at w closes its edge if w is higher, unflagged and unmarried: then its own node is unmarried too
pub closes_at : (s : State) (v w : ℕ) → IsState s → pointer s v ≡ Some w → manne_closes s v ≡ (nat_lt v w && not (flag s w) && not (married s w))
closes_at s v w good at = grind (arith, married_some, married_from, true≢false)

-- whether a pointer closes an edge depends on its target's registers
pub manne_closes_alike : (s u : State) (v w : ℕ) → IsState s → IsState u → pointer s v ≡ Some w → pointer u v ≡ Some w → IsSameChargeInput s u w → manne_closes s v ≡ manne_closes u v
manne_closes_alike s u v w good also at still same =
    closes_at s v w good at
    ∙ (λ i. nat_lt v w && not (same.flagged i) && not (same.paired i))
    ∙ sym (closes_at u v w also still)

-- a node's own part of the charge depends on the node's charge input alone
pub adds_alike : (s u : State) (v : ℕ) → IsSameChargeInput s u v → manne_node_charge s v ≡ manne_node_charge u v
adds_alike s u v same = λ i. cond (same.paired i) (cond (same.flagged i) 0 1) (cond (same.flagged i) 2 1)

pub manne_weight_is_small : 3 ≤ 3
manne_weight_is_small = omega arith

-- whether a pointer closes its edge is computed from the target's charge input
pub closes_standing : (s : State) (v : ℕ) (target : ChargeInput) → IsState s → IsChargeInput s target → pointer s v ≡ Some target.node → manne_closes s v ≡ (nat_lt v target.node && not target.flag && not target.is_married)
closes_standing s v target good stands at =
    closes_at s v target.node good at ∙ (λ i. nat_lt v target.node && not (sym stands.flagged i) && not (sym stands.paired i))
