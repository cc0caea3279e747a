-- The charge of a stable network.
use Rattle.machine_laws.proofs.ChargePrelude.{◌≡◌, ℕ, Bool, false, married, not, count_by, IsTrue, ap, ◌∙◌, ⊎_elim, arith, not_from_true, names, edge_list, State, IsState, pointer, is_unanswered, hsu_huang_closed, hsu_huang_charge, IsStable, or_left, or_right, true, ◌||◌}
use Rattle.machine_laws.proofs.ListCounts.{IsIn, none_count}
use Rattle.machine_laws.proofs.Members.{edges_contain}
use Rattle.machine_laws.proofs.MaximalMatchings.{end_answered}
use Rattle.machine_laws.proofs.Stances.{married_is, stance, is_paired, unanswered_is, paired_from}

-- no pointer is unanswered
pub none_unanswered : (uses_flags : Bool) (s : State) → IsStable uses_flags s → count_by (is_unanswered s) (names s.network) ≡ 0
none_unanswered uses_flags s stable = grind (arith, none_count, unanswered_is)

-- each edge has an end that is paired
pub an_end_paired : (uses_flags : Bool) (s : State) → IsState s → IsStable uses_flags s → (e : ℕ × ℕ) → IsIn e (edge_list s.network) → (P : Type 0) → (IsTrue (is_paired (stance (pointer s) e.0)) → P) → (IsTrue (is_paired (stance (pointer s) e.1)) → P) → P
an_end_paired uses_flags s good stable e there P low high =
    ⊎_elim
    (λ (w, to, back). low (ap is_paired (paired_from (pointer s) e.0 w to back)))
    (λ (w, to, back). high (ap is_paired (paired_from (pointer s) e.1 w to back)))
    (end_answered uses_flags s good stable e (edges_contain s.network e there))

-- Hsu and Huang: 0
pub hsu_huang_stable_is_zero : (s : State) → IsState s → IsStable false s → hsu_huang_charge s ≡ 0
hsu_huang_stable_is_zero s good stable =
    let unanswered = none_unanswered false s stable in
    let open_edges = none_count (λ e. not (hsu_huang_closed s e)) (edge_list s.network) (λ e there. not_from_true (hsu_huang_closed s e) (an_end_paired false s good stable e there (IsTrue (hsu_huang_closed s e)) (λ h. closes (married s e.0 || married s e.1) _ _ _ (or_left (married s e.0) _ (married_is s e.0 good ∙ h))) (λ h. closes (married s e.0 || married s e.1) _ _ _ (or_right (married s e.0) _ (married_is s e.1 good ∙ h))))) in
    omega (arith, unanswered, open_edges)
  where
    closes : (p a b c : Bool) → p ≡ true → (p || a || b || c) ≡ true
    closes p a b c h = grind arith
