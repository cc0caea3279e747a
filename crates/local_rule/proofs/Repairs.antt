-- When an edge goes, a pointer across it becomes null: the repair.
use Rattle.local_rule.proofs.Prelude.{◌≡◌, ◌≢◌, ℕ, Bool, true, false, cond, not, ◌&&◌, [], Option, None, Some, is_some, IsTrue, refl, sym, ap, ◌∙◌, subst, ⊎_elim, and_from, eq-eqb, cases_eq, true≢false, false_from_ne_true, none-some, same_Some, node_record_at, present, linked, edge, State, IsState, pointer, flag, pointer_of, some_from_is_at, option_cases, linked_apart, linked_present, pointer_linked, ShowsAtNode, record_of, PointsAtStranger}
use Rattle.rule_machine.specs.Disturbance.{after_unlink, without_pointer}
use Rattle.rule_machine.specs.State.{points, flag_of, Registers, with_pointer}
use Rattle.graph_store.proofs.PairOrder.{has-remove, same_pair}
use Rattle.machine_laws.proofs.Edges.{still_removed, edge_ends}
use Rattle.machine_laws.proofs.StatePreservation.{unlink_keeps}
use Rattle.machine_laws.proofs.Writes.{without_pointer_was, without_pointer_gone, without_pointer_flags, pointer-with_pointer_other}
use Rattle.local_rule.specs.Steps.{repaired, repaired_target, records_around}
use Rattle.local_rule.proofs.Shown.{shown_linked}

-- a node's own records show it
shows_itself : (s : State) (v : ℕ) → IsState s → IsTrue (present s.network v) → ShowsAtNode s (node_record_at s v) (records_around s v)
shows_itself s v good here = record { is_state = good; here = here; itself = refl; others = refl }

-- another node's pointer is left as it is
other_left : (b : Bool) (r : Registers) (w v : ℕ) → v ≢ w → pointer_of (cond b (with_pointer r w None) r) v ≡ pointer_of r v
other_left true r w v apart = pointer-with_pointer_other r w None v apart
other_left false r w v apart = refl

own_pointer : (s : State) (v w : ℕ) → v ≢ w → pointer (after_unlink s v w) v ≡ pointer_of (without_pointer s.registers v w) v
own_pointer s v w apart =
    other_left (points (without_pointer s.registers v w) w v) (without_pointer s.registers v w) w v apart

stays : (s : State) (v w : ℕ) → points s.registers v w ≡ false → pointer_of (without_pointer s.registers v w) v ≡ pointer s v
stays s v w away = ap (λ b. pointer_of (cond b (with_pointer s.registers v None) s.registers) v) away

itself : (p : ℕ × ℕ) → same_pair p p ≡ true
itself p = and_from _ _ (eq-eqb p.0 p.0 refl) (eq-eqb p.1 p.1 refl)

pub unlink_repairs : (s : State) (v w : ℕ) → IsState s → IsTrue (linked s.network v w) → node_record_at (after_unlink s v w) v ≡ repaired (node_record_at s v) (records_around (after_unlink s v w) v)
unlink_repairs s v w good h =
    λ i. record { node = v; target = targets (pointer s v) refl i; flagged = flags i }
  where
    u : State
    u = after_unlink s v w

    kept : IsState u
    kept = unlink_keeps s v w good

    apart : v ≢ w
    apart = linked_apart s.network v w good.is_network h

    shows : ShowsAtNode u (node_record_at u v) (records_around u v)
    shows = shows_itself u v kept (linked_present s.network v w good.is_network h)

    flags : flag u v ≡ flag s v
    flags = ap (λ l. flag_of (record { pointers = []; flags = l }) v) (without_pointer_flags (without_pointer s.registers v w) w v ∙ without_pointer_flags s.registers v w)

    near : (x : ℕ) → is_some (record_of (records_around u v) x) ≡ linked u.network v x
    near x = sym (shown_linked u (node_record_at u v) (records_around u v) x shows)

    left : (x : ℕ) → pointer u v ≡ Some x → (pointer s v ≡ Some x) × (x ≢ w)
    left x e =
        let once = sym (own_pointer s v w apart) ∙ e in (
          without_pointer_was s.registers v w v x once,
          λ same. without_pointer_gone s.registers v w (once ∙ ap Some same),
        )

    targets : (o : Option ℕ) → pointer s v ≡ o → pointer u v ≡ repaired_target (records_around u v) (pointer s v)
    targets None at =
        ⊎_elim
        (λ none. none)
        (λ some. absurd (none-some some.0 (sym at ∙ (left some.0 some.1).0)))
        (option_cases (pointer u v))
        ∙ sym (ap (repaired_target (records_around u v)) at)
    targets (Some x) at =
        ⊎_elim
        (λ (same : x ≡ w).
        ⊎_elim
        (λ none. none)
        (λ some. let was = left some.0 some.1 in absurd (was.1 (same_Some _ _ (sym was.0 ∙ at) ∙ same)))
        (option_cases (pointer u v))
        ∙ sym (gone x (near x ∙ false_from_ne_true (linked u.network v x) (λ there. cut (subst (λ y. IsTrue (linked u.network v y)) same there)))))
        (λ (other : x ≢ w).
        own_pointer s v w apart
        ∙ stays s v w (false_from_ne_true (points s.registers v w) (λ p. other (same_Some _ _ (sym at ∙ some_from_is_at (pointer s v) w p))))
        ∙ at
        ∙ sym (there x (near x ∙ still_removed s.network.edges (edge v w) (edge v x) (λ e. other (ends x e)) (pointer_linked s v x good at))))
        (cases_eq x w)
        ∙ sym (ap (repaired_target (records_around u v)) at)
      where
        gone : (x : ℕ) → is_some (record_of (records_around u v) x) ≡ false → repaired_target (records_around u v) (Some x) ≡ None
        gone x e = ap (λ b. cond (is_some (cond b None (Some (PointsAtStranger x)))) None (Some x)) e

        there : (x : ℕ) → is_some (record_of (records_around u v) x) ≡ true → repaired_target (records_around u v) (Some x) ≡ Some x
        there x e = ap (λ b. cond (is_some (cond b None (Some (PointsAtStranger x)))) None (Some x)) e

        cut : IsTrue (linked u.network v w) → ⊥
        cut e = true≢false (sym e ∙ has-remove s.network.edges (edge v w) (edge v w) ∙ ap (λ b. not b && linked s.network v w) (itself (edge v w)))

        ends : (x : ℕ) → edge v x ≡ edge v w → x ≡ w
        ends x e = ⊎_elim (λ p. p.1) (λ p. p.1 ∙ p.0) (edge_ends v w v x e)
