-- On whose registers it depends whether a rule is enabled at a node: its target's, a caller's, or its own alone.
use Rattle.reply_checker.proofs.Prelude.{◌≡◌, ℕ, Bool, true, false, cond, not, ◌&&◌, ◌||◌, find, Option, None, Some, IfSome, IsTrue, is_some, nat_le, refl, sym, ap, ap₂, ◌∙◌, arith, eq-eqb, true≢false, list_any, near_agree, near_found, pointer_linked, points_from, points_true, married_from, null_unmarried, unanswered_unmarried, linked, neighbours, State, IsState, RuleTable, rule_at, pointer, flag, points, is_at, is_none, nat_lt, hsu_huang, manne, hsu_huang_calls, manne_calls, RestsOn}
use Rattle.reply_checker.proofs.EnabledNodes.{hsu_huang_null, manne_null}
use Rattle.reply_checker.proofs.Table.{found_any}

-- a neighbour passes
any_near : (s : State) (p : ℕ → Bool) (v w : ℕ) → IsState s → IsTrue (linked s.network v w) → IsTrue (p w) → list_any p (neighbours s.network v) ≡ true
any_near s p v w good link passes = sym (found_any p (neighbours s.network v)) ∙ ap is_some (near_found s.network p v w good.is_network link passes).1

-- if the pointer is not null, the target's registers and its own decide
pub rests_on_target : (t : RuleTable) (f : Bool → Option ℕ → Bool → Bool) (s : State) (v w : ℕ) → ((x : State) → IsState x → pointer x v ≡ Some w → is_some (rule_at t x v) ≡ f (flag x v) (pointer x w) (flag x w)) → IsState s → pointer s v ≡ Some w → RestsOn t s v (Some w)
rests_on_target t f s v w value good at u good' same =
    let link = pointer_linked s v w good at in
    let own = eq-eqb w w refl in
    let before = value s good at in
    let after = value u good' (sym same.own_pointer ∙ at) in
    let agree = ap (λ b. f b (pointer s w) (flag s w)) same.own_flag ∙ ap₂ (f (flag u v)) (same.pointers w link own) (same.flags w link own) in
    ap₂ (λ a b. a && b) (sym same.presence) (after ∙ sym agree ∙ sym before)

-- if it is null, the neighbours that call decide: one that does, or else all
pub rests_on_caller : (t : RuleTable) (calls : ℕ → Option ℕ → Bool → Bool) (s : State) (v : ℕ) (o : Option ℕ) → ((x : State) → pointer x v ≡ pointer s v → flag x v ≡ flag s v → list_any (λ w. calls w (pointer x w) (flag x w)) (neighbours x.network v) ≡ is_some (rule_at t x v)) → IsState s → IfSome o (λ w. IsTrue (linked s.network v w)) → IfSome o (λ w. IsTrue (calls w (pointer s w) (flag s w))) → RestsOn t s v o
rests_on_caller t calls s v None value good link called u good' same =
    let p : ℕ → Bool = λ w. calls w (pointer s w) (flag s w) in
    let q : ℕ → Bool = λ w. calls w (pointer u w) (flag u w) in
    let agree : find p (neighbours s.network v) ≡ find q (neighbours u.network v) = near_agree s.network p q v (λ w near. ap₂ (calls w) (same.pointers w near refl) (same.flags w near refl)) ∙ ap (find q) same.neighbours in
    ap₂ (λ a b. a && b) (sym same.presence)
    (sym (value u (sym same.own_pointer) (sym same.own_flag)) ∙ sym (found_any q (neighbours u.network v)) ∙ ap is_some (sym agree) ∙ found_any p (neighbours s.network v) ∙ value s refl refl)
rests_on_caller t calls s v (Some w) value good link called u good' same =
    let own = eq-eqb w w refl in
    let before = any_near s (λ x. calls x (pointer s x) (flag s x)) v w good link called in
    let after = any_near u (λ x. calls x (pointer u x) (flag u x)) v w good' (sym (same.links w) ∙ link) (sym (ap₂ (calls w) (same.pointers w link own) (same.flags w link own)) ∙ called) in
    ap₂ (λ a b. a && b) (sym same.presence) (sym (value u (sym same.own_pointer) (sym same.own_flag)) ∙ after ∙ sym before ∙ value s refl refl)

-- ---- Hsu and Huang's rules

pub hsu_huang_on_caller : (s : State) (v : ℕ) (o : Option ℕ) → IsState s → pointer s v ≡ None → IfSome o (λ w. IsTrue (linked s.network v w)) → IfSome o (λ w. IsTrue (hsu_huang_calls s v w)) → RestsOn hsu_huang s v o
hsu_huang_on_caller s v o good null link called =
    rests_on_caller hsu_huang (λ w target flag. is_at target v || is_none target) s v o (λ x is own. hsu_huang_null x v (is ∙ null)) good link called

-- ---- the rules of Manne and others

abbrev manne_waits : ℕ → ℕ → Bool → Option ℕ → Bool → Bool
manne_waits v w flag target flag_there = cond (is_at target v) (not flag) (flag || flag_there || nat_le w v)

pub manne_pointing : (s : State) (v w : ℕ) → IsState s → pointer s v ≡ Some w → is_some (rule_at manne s v) ≡ manne_waits v w (flag s v) (pointer s w) (flag s w)
manne_pointing s v w good at = by (points s.registers w v) refl
  where
    by : (back : Bool) → points s.registers w v ≡ back → is_some (rule_at manne s v) ≡ manne_waits v w (flag s v) (pointer s w) (flag s w)
    by true back = let wed = married_from s v w good at (points_true s w v back) in grind arith
    by false back = let single = unanswered_unmarried s v w at (λ e. true≢false (sym (points_from s w v e) ∙ back)) in grind arith

pub manne_on_target : (s : State) (v w : ℕ) → IsState s → pointer s v ≡ Some w → RestsOn manne s v (Some w)
manne_on_target s v w good at = rests_on_target manne (manne_waits v w) s v w (λ x good'. manne_pointing x v w good') good at

-- a flagged node with a null pointer updates its flag, whatever its neighbours do
pub manne_flagged : (s : State) (v : ℕ) → pointer s v ≡ None → flag s v ≡ true → is_some (rule_at manne s v) ≡ true
manne_flagged s v null flagged = let single = null_unmarried s v null in grind arith

pub manne_on_itself : (s : State) (v : ℕ) → pointer s v ≡ None → flag s v ≡ true → RestsOn manne s v (Some v)
manne_on_itself s v null flagged u good' same =
    ap₂ (λ a b. a && b) (sym same.presence) (manne_flagged u v (sym same.own_pointer ∙ null) (sym same.own_flag ∙ flagged) ∙ sym (manne_flagged s v null flagged))

pub manne_on_caller : (s : State) (v : ℕ) (o : Option ℕ) → IsState s → pointer s v ≡ None → flag s v ≡ false → IfSome o (λ w. IsTrue (linked s.network v w)) → IfSome o (λ w. IsTrue (manne_calls s v w)) → RestsOn manne s v o
manne_on_caller s v o good null unflagged link called =
    rests_on_caller manne (λ w target flag. is_at target v || ((is_none target && not flag) && nat_lt v w)) s v o (λ x is own. manne_null x v (own ∙ unflagged) (is ∙ null)) good link called
