-- The targets that a node's rule allows.
use Rattle.machine_laws.proofs.ChargePrelude.Imports.{◌≡◌, ℕ, Bool, true, false, cond, not, ◌&&◌, ◌||◌, Option, None, Some, is_some, is_none, IsSome, nat_lt, find, IsTrue, refl, sym, ap, ap₂, ◌∙◌, subst, inl, inr, ⊎_elim, ◌⊎◌, and_parts, and_from, cases_Bool, cases_order, ltb-true, not-true, false_from_ne_true, Update, Marry, Seduce, Abandon, linked, neighbours, State, IsState, pointer, flag, is_at, suits, has_suitor, is_settled, rule_at, least_target, manne, may_court}
use Rattle.machine_laws.proofs.ChargePrelude.{option_cases, near_some, near_found, near_fails, null_unmarried, some_from_is_at, is_at_from_some}
use Rattle.std.proofs.Common.{lt-ltb}
use Rattle.std.specs.Option.{option_or, option_and_then}
use Rattle.rule_machine.specs.State.{first_suitor}
use Rattle.rule_machine.specs.Target.{target_by, target_at}
use Rattle.machine_laws.proofs.Neighbours.{near_none, near_agree}
use Rattle.machine_laws.proofs.Pointers.{none_is}
use Rattle.rules_manne.specs.GreatestTarget.{greatest, greatest_none, greatest_some}
use Rattle.rules_manne.specs.Rule.{manne_rule_by, manne_rule_cases, null_rule, is_lost, courts}
use Rattle.rules_manne.specs.Target.{is_free_node}

-- the test of the neighbours above w that v may court
abbrev above : State → ℕ → ℕ → ℕ → Bool
above s v w x = may_court s v x && nat_lt w x

-- w may be seduced exactly if it is the greatest
allowed_greatest : (s : State) (v w : ℕ) → IsState s → greatest s v ≡ Some w → manne.allowed s v Seduce w ≡ true
allowed_greatest s v w is_state e =
    let parts = greatest_some s v w is_state.is_network e in
    let none = near_fails s.network (above s v w) v (
    λ x h. false_from_ne_true _ (
    λ passes. let both = and_parts _ _ passes in
    let below = ltb-true w x both.1 in
    let fails = parts.2 x h below in
    absurd cc
    )
    ) in
    and_from _ _ (and_from _ _ parts.0 parts.1) (ap (λ o. not (is_some o)) none)

greatest_allowed : (s : State) (v w : ℕ) → IsState s → manne.allowed s v Seduce w ≡ true → greatest s v ≡ Some w
greatest_allowed s v w is_state h =
    let outer = and_parts (linked s.network v w && may_court s v w) (not (is_some (find (above s v w) (neighbours s.network v)))) h in
    let inner = and_parts (linked s.network v w) (may_court s v w) outer.0 in
    let none = near_none s.network (above s v w) v is_state.is_network (none_is (find (above s v w) (neighbours s.network v)) (not-true _ outer.1)) in
    ⊎_elim
    (λ e. let fails = greatest_none s v is_state.is_network e w inner.0 in absurd cc)
    (
    λ some. let parts = greatest_some s v some.0 is_state.is_network some.1 in
    ⊎_elim
    (λ (same : ◌≡◌ {A = ℕ} w some.0). some.1 ∙ ap Some (sym same))
    (
    ⊎_elim
    (
    λ below. let passes = and_from (may_court s v some.0) (nat_lt w some.0) parts.1 (lt-ltb w some.0 below) in
    let fails = none some.0 parts.0 in
    absurd cc
    )
    (λ higher. let fails = parts.2 w inner.0 higher in absurd cc)
    )
    (cases_order w some.0)
    )
    (option_cases (greatest s v))

pub seduce_allowed : (s : State) (v w : ℕ) → IsState s → manne.allowed s v Seduce w ≡ is_at (greatest s v) w
seduce_allowed s v w is_state =
    ⊎_elim
    (λ yes. yes ∙ sym (is_at_from_some (greatest s v) w (greatest_allowed s v w is_state yes)))
    (
    λ no. no ∙ sym (
    false_from_ne_true _ (λ at. let yes = allowed_greatest s v w is_state (some_from_is_at (greatest s v) w at) in absurd cc)
    )
    )
    (cases_Bool (manne.allowed s v Seduce w))

-- the least suitor, and the one neighbour that is allowed to be seduced
pub manne_least_suitor : (s : State) (v : ℕ) → least_target manne s v Marry ≡ first_suitor s v
manne_least_suitor s v =
    near_agree s.network (manne.allowed s v Marry) (suits s v) v (λ w h. ap (λ b. b && suits s v w) h)

pub least_greatest : (s : State) (v : ℕ) → IsState s → least_target manne s v Seduce ≡ greatest s v
least_greatest s v is_state =
    ⊎_elim
    (
    λ none. near_fails s.network (manne.allowed s v Seduce) v (λ w h. seduce_allowed s v w is_state ∙ ap (λ o. is_at o w) none)
    ∙ sym none
    )
    (
    λ some. let parts = greatest_some s v some.0 is_state.is_network some.1 in
    let found = near_found s.network (manne.allowed s v Seduce) v some.0 is_state.is_network parts.0 (allowed_greatest s v some.0 is_state some.1) in
    let passes = (near_some s.network (manne.allowed s v Seduce) v found.0 found.1).1 in
    found.1 ∙ sym (greatest_allowed s v found.0 is_state passes)
    )
    (option_cases (greatest s v))

-- the rule of a free node: it is unmarried, so its flag is right
free_rule : (s : State) (v : ℕ) → IsState s → is_free_node s v ≡ true → rule_at manne s v ≡ manne_rule_by true None (has_suitor s v) (is_some (greatest s v)) (is_lost s v)
free_rule s v is_state h =
    let parts = and_parts _ _ h in
    let null = none_is (pointer s v) (not-true _ parts.0) in
    let settled : is_settled s v ≡ true = ap (λ m. cond m (flag s v) (not (flag s v))) (null_unmarried s v null) ∙ parts.1 in
    null_rule s v (has_suitor s v) (is_some (greatest s v)) is_state settled null refl refl

-- the rule of one that is not free takes no target
bound_rule : (s : State) (v : ℕ) → is_free_node s v ≡ false → IsSome (rule_at manne s v) → (rule_at manne s v ≡ Some Update) ⊎ (rule_at manne s v ≡ Some Abandon)
bound_rule s v h enabled =
    let by = manne_rule_cases s v in
    cases (is_settled s v) (pointer s v) (flag s v) refl refl refl h (subst (λ o. IsSome o) by enabled) by
  where
    leaves : (b : Bool) → IsSome (cond b (Some Abandon) None) → cond b (Some Abandon) None ≡ Some Abandon
    leaves true k = refl
    leaves false k = absurd cc

    cases : (settled : Bool) (o : Option ℕ) (f : Bool) → is_settled s v ≡ settled → pointer s v ≡ o → flag s v ≡ f → (is_none o && not f) ≡ false → IsSome (manne_rule_by settled o (has_suitor s v) (courts s v) (is_lost s v)) → rule_at manne s v ≡ manne_rule_by settled o (has_suitor s v) (courts s v) (is_lost s v) → (rule_at manne s v ≡ Some Update) ⊎ (rule_at manne s v ≡ Some Abandon)
    cases false o f p q r k some e = inl e
    cases true None true p q r k some e =
        let wrong : is_settled s v ≡ false = ap₂ (λ m b. cond m b (not b)) (null_unmarried s v q) r in absurd cc
    cases true None false p q r k some e = absurd cc
    cases true (Some w) f p q r k some e = inr (e ∙ leaves (is_lost s v w) some)

pub bound_target : (s : State) (v : ℕ) → is_free_node s v ≡ false → IsSome (rule_at manne s v) → target_at manne s v None ≡ Some None
bound_target s v h enabled =
    ⊎_elim
    (λ e. ap (option_and_then (target_by manne s v None)) e ∙ ap Some (near_fails s.network (manne.allowed s v Update) v (λ x k. refl)))
    (λ e. ap (option_and_then (target_by manne s v None)) e ∙ ap Some (near_fails s.network (manne.allowed s v Abandon) v (λ x k. refl)))
    (bound_rule s v h enabled)

pub bound_wish : (s : State) (v w : ℕ) → is_free_node s v ≡ false → IsSome (rule_at manne s v) → target_at manne s v (Some w) ≡ None
bound_wish s v w h enabled =
    ⊎_elim
    (λ e. ap (option_and_then (target_by manne s v (Some w))) e)
    (λ e. ap (option_and_then (target_by manne s v (Some w))) e)
    (bound_rule s v h enabled)

-- a free node takes its first suitor, else the greatest neighbour that it may court
pub manne_free_target : (s : State) (v : ℕ) → IsState s → is_free_node s v ≡ true → IsSome (rule_at manne s v) → target_at manne s v None ≡ Some (option_or (first_suitor s v) (greatest s v))
manne_free_target s v is_state h enabled =
    let by = free_rule s v is_state h in
    ap (option_and_then (target_by manne s v None)) by ∙ cases (first_suitor s v) (greatest s v) (manne_least_suitor s v) (least_greatest s v is_state) (subst (λ o. IsSome o) by enabled)
  where
    cases : (suitor court : Option ℕ) → least_target manne s v Marry ≡ suitor → least_target manne s v Seduce ≡ court → IsSome (manne_rule_by true None (is_some suitor) (is_some court) (is_lost s v)) → option_and_then (target_by manne s v None) (manne_rule_by true None (is_some suitor) (is_some court) (is_lost s v)) ≡ Some (option_or suitor court)
    cases (Some w) court p q k = ap Some p
    cases None (Some w) p q k = ap Some q
    cases None None p q k = absurd cc

-- whether w is a target that a wish of v may name: a suitor or, if v has none, the greatest neighbour that
-- v may court
abbrev pub may_point : State → ℕ → ℕ → Bool
may_point s v w = (linked s.network v w && suits s v w) || (is_none (first_suitor s v) && is_at (greatest s v) w)

pub manne_free_wish : (s : State) (v w : ℕ) → IsState s → is_free_node s v ≡ true → IsSome (rule_at manne s v) → target_at manne s v (Some w) ≡ cond (may_point s v w) (Some (Some w)) None
manne_free_wish s v w is_state h enabled =
    let by = free_rule s v is_state h in
    ap (option_and_then (target_by manne s v (Some w))) by ∙ cases (has_suitor s v) (greatest s v) (linked s.network v w && suits s v w) refl (seduce_allowed s v w is_state) suitor (subst (λ o. IsSome o) by enabled)
  where
    suitor : IsTrue (linked s.network v w && suits s v w) → has_suitor s v ≡ true
    suitor k =
        let parts = and_parts _ _ k in
        ap is_some (near_found s.network (suits s v) v w is_state.is_network parts.0 parts.1).1

    cases : (a : Bool) (o : Option ℕ) (c : Bool) → manne.allowed s v Marry w ≡ c → manne.allowed s v Seduce w ≡ is_at o w → (IsTrue c → a ≡ true) → IsSome (manne_rule_by true None a (is_some o) (is_lost s v)) → option_and_then (target_by manne s v (Some w)) (manne_rule_by true None a (is_some o) (is_lost s v)) ≡ cond (c || (not a && is_at o w)) (Some (Some w)) None
    cases true o true p q k some = ap (λ t. cond t (Some (Some w)) None) p
    cases true o false p q k some = ap (λ t. cond t (Some (Some w)) None) p
    cases false (Some x) true p q k some = let no = k refl in absurd cc
    cases false (Some x) false p q k some = ap (λ t. cond t (Some (Some w)) None) q
    cases false None c p q k some = absurd cc
