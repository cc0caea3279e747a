-- After a write of one node's registers, looks at the touched nodes keep the set of enabled nodes.
use Rattle.rule_engine.proofs.Prelude.{◌≡◌, ℕ, Bool, true, false, cond, not, ◌&&◌, ◌||◌, List, Option, None, is_some, is_none, find, refl, sym, ap, ap₂, ◌∙◌, subst, ⊎_elim, arith, beq, cases_Bool, cond-true, cond-false, or_parts, true≢false, is_in, Act, present, State, Registers, IsState, pointer, flag, pointer_of, flag_of, with_pointer, with_flag, has_suitor, is_at, RuleTable, acts, is_open, AgreesLocally, pointer-with_pointer_other, flag-with_flag_other, StateView, Pointed, Flagged, WereOn, is_enabled_at, AreOn, is_null_target, is_suitor, may_change_guard, IsRefreshed, nat_eq, may_turn, TurnsNone}
use Rattle.suitor_index.proofs.NodeChanges.{pointer_now, flag_now}
use Rattle.rule_engine.proofs.LocalViews.{AreAlikeBut, with_registers, suitor_same, glance_far}
use Rattle.rule_engine.proofs.GuardRefresh.{looked_both}

-- a guard depends only on a glance
abbrev pub IsGlanced : Bool → RuleTable → Type 0
IsGlanced above t = (s u : State) (v : ℕ) (act : Act) → IsState s → IsState u → AgreesLocally above t.opens s u v → t.guard s v act ≡ t.guard u v act

-- a write after which each node whose glance changed was looked at
kept_glanced : (above : Bool) (t : RuleTable) → IsGlanced above t → (s : State) (r : Registers) (looked : ℕ → Bool) (bits bits' : List Bool) → IsState s → AreOn t s bits → IsState (with_registers s r) → ((v : ℕ) → looked v ≡ false → AgreesLocally above t.opens s (with_registers s r) v) → IsRefreshed t (with_registers s r) looked bits bits' → AreOn t (with_registers s r) bits'
kept_glanced above t glance s r looked bits bits' before kept good far done = record {
  places = done.places ∙ kept.places;
  each = λ v. done.each v ∙ ⊎_elim
      (λ (near : looked v ≡ true). cond-true (looked v) (is_enabled_at t (with_registers s r) v) (is_in bits v) near)
      (λ (apart : looked v ≡ false).
      cond-false (looked v) (is_enabled_at t (with_registers s r) v) (is_in bits v) apart
      ∙ kept.each v
      ∙ ap (λ (g : Act → Bool). is_some (cond (present s.network v) (find g acts) None)) (λ i act. glance s (with_registers s r) v act before good (far v apart) i))
      (cases_Bool (looked v));
}

-- a target that points nowhere was looked at
no_target : (s : State) (target : Option ℕ) (w : ℕ) → is_null_target s target w ≡ false → pointer s w ≡ None → is_at target w ≡ false
no_target s target w off null = apart (is_at target w) (is_none (pointer s w)) (ap is_none null) off
  where
    apart : (at none : Bool) → none ≡ true → (at && none) ≡ false → at ≡ false
    apart at none is e = grind arith

-- a node that did not turn is as it was
unturned : (was now : Bool) → not (beq was now) ≡ false → was ≡ now
unturned true true e = refl
unturned true false e = absurd (true≢false e)
unturned false true e = absurd (true≢false e)
unturned false false e = refl

-- the state before with the network of the state now
abbrev with_old : State → State → State
with_old now before = record now { registers = before.registers }

same_old : (now before : State) → now.network ≡ before.network → before ≡ with_old now before
same_old now before same = λ i. record { network = sym same i; registers = before.registers }

-- a node that a look may have missed did not turn with v
unmissed : (near may moved turned : Bool) → (turned ≡ false → (moved && may) ≡ false) → (near || (turned && may)) ≡ false → (near || (moved && may)) ≡ false
unmissed true may moved turned none off = off
unmissed false may moved false none off = none refl
unmissed false may false true none off = refl
unmissed false may true true none off = off

-- of a pointer: looks at its old and its new target if they point nowhere, and at the touched nodes
pub kept_pointed : (above : Bool) (t : RuleTable) → IsGlanced above t → (now : StateView) (v : ℕ) (was is : Option ℕ) (turned : Bool) (bits one two three : List Bool) (told : WereOn t bits (Pointed v was is) now) → (turned ≡ false → TurnsNone above t.opens now.state (Pointed v was is)) → IsRefreshed t now.state (is_null_target now.state was) bits one → IsRefreshed t now.state (is_null_target now.state is) one two → IsRefreshed t now.state (may_change_guard above t.opens now.state v turned) two three → AreOn t now.state three
kept_pointed above t glance now v was is turned bits one two three told none looked_was looked_is looked =
    let change = told.1.0 in
    let u = now.state in
    let s : State = with_old u told.0.state in
    let old : told.0.state ≡ s = same_old u told.0.state (ap (λ (q : State). q.network) change.made) in
    let registers : u.registers ≡ with_pointer s.registers v is = ap (λ (q : State). q.registers) change.made in
    let written : pointer u v ≡ is = pointer_now told.0 now v was is change in
    let before = subst IsState old change.was_state in
    let moved : Bool = not (beq (t.opens was (flag u v)) (t.opens is (flag u v))) in
    let alike : AreAlikeBut s u v = record {
      pointers = λ x apart. sym (ap (λ r. pointer_of r x) registers ∙ pointer-with_pointer_other s.registers v is x apart);
      flags = λ x apart. sym (ap (λ r. flag_of r x) registers);
    } in
    let stays : moved ≡ false → is_open t.opens s v ≡ is_open t.opens u v =
    λ same. ap₂ t.opens (sym change.due.1) (sym (ap (λ r. flag_of r v) registers)) ∙ unturned (t.opens was (flag u v)) (t.opens is (flag u v)) same ∙ ap (λ o. t.opens o (flag u v)) (sym written)
    in
    kept_glanced above t glance s u.registers (λ w. (is_null_target u was w || is_null_target u is w) || may_change_guard above t.opens u v turned w) bits three before (subst (λ (q : State). AreOn t q bits) old told.1.1) change.is_state
    (λ w off.
    let parts = or_parts (is_null_target u was w || is_null_target u is w) (may_change_guard above t.opens u v turned w) off in
    let ends = or_parts (is_null_target u was w) (is_null_target u is w) parts.0 in
    glance_far above t.opens s u.registers v before change.is_state alike w moved stays
    (λ null. suitor_same above t.opens s u.registers v before change.is_state alike w (ap (λ o. is_at o w) (sym change.due.1) ∙ no_target u was w ends.0 null) (ap (λ o. is_at o w) written ∙ no_target u is w ends.1 null))
    (unmissed (nat_eq w v || is_suitor u v w) (may_turn above t.opens u v w) moved turned (λ e. none e w) parts.1))
    (looked_both t u (λ w. is_null_target u was w || is_null_target u is w) (may_change_guard above t.opens u v turned) bits two three (looked_both t u (is_null_target u was) (is_null_target u is) bits one two looked_was looked_is) looked)

-- of a flag: looks at the touched nodes
pub kept_flagged : (above : Bool) (t : RuleTable) → IsGlanced above t → (now : StateView) (v : ℕ) (was is : Bool) (turned : Bool) (bits bits' : List Bool) (told : WereOn t bits (Flagged v was is) now) → (turned ≡ false → TurnsNone above t.opens now.state (Flagged v was is)) → IsRefreshed t now.state (may_change_guard above t.opens now.state v turned) bits bits' → AreOn t now.state bits'
kept_flagged above t glance now v was is turned bits bits' told none looked =
    let change = told.1.0 in
    let u = now.state in
    let s : State = with_old u told.0.state in
    let old : told.0.state ≡ s = same_old u told.0.state (ap (λ (q : State). q.network) change.made) in
    let registers : u.registers ≡ with_flag s.registers v is = ap (λ (q : State). q.registers) change.made in
    let before = subst IsState old change.was_state in
    let moved : Bool = not (beq (t.opens (pointer u v) was) (t.opens (pointer u v) is)) in
    let alike : AreAlikeBut s u v = record {
      pointers = λ x apart. sym (ap (λ r. pointer_of r x) registers);
      flags = λ x apart. sym (ap (λ r. flag_of r x) registers ∙ flag-with_flag_other s.registers v is x apart);
    } in
    let stays : moved ≡ false → is_open t.opens s v ≡ is_open t.opens u v =
    λ same. ap₂ t.opens (sym (ap (λ r. pointer_of r v) registers)) (sym change.due.1) ∙ unturned (t.opens (pointer u v) was) (t.opens (pointer u v) is) same ∙ ap (t.opens (pointer u v)) (sym (flag_now told.0 now v was is change))
    in
    kept_glanced above t glance s u.registers (may_change_guard above t.opens u v turned) bits bits' before (subst (λ (q : State). AreOn t q bits) old told.1.1) change.is_state
    (λ w off.
    glance_far above t.opens s u.registers v before change.is_state alike w moved stays
    (λ null. ap (λ r. has_suitor (with_registers s r) w) (sym registers))
    (unmissed (nat_eq w v || is_suitor u v w) (may_turn above t.opens u v w) moved turned (λ e. none e w) off))
    looked
