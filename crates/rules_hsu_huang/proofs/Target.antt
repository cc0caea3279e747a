-- The targets that a node's rule allows.
use Rattle.machine_laws.proofs.ChargePrelude.Imports.{◌≡◌, ℕ, Bool, true, false, cond, not, ◌&&◌, ◌||◌, Option, None, Some, is_some, is_none, IsSome, IsTrue, refl, ap, ◌∙◌, subst, and_parts, Marry, Seduce, Abandon, linked, State, IsState, pointer, suits, has_suitor, rule_at, least_target, is_open, hsu_huang, hsu_huang_opens}
use Rattle.machine_laws.proofs.ChargePrelude.{near_found, near_fails}
use Rattle.std.specs.Option.{option_or, option_and_then}
use Rattle.rule_machine.specs.State.{first_suitor}
use Rattle.rule_machine.specs.RuleTable.{first_open}
use Rattle.rule_machine.specs.Target.{target_by, target_at}
use Rattle.machine_laws.proofs.Neighbours.{near_agree}
use Rattle.rules_hsu_huang.specs.Rule.{hsu_huang_rule_by, hsu_huang_rule_cases, is_taken, has_open}

-- the least suitor, and the least open neighbour
pub hsu_huang_least_suitor : (s : State) (v : ℕ) → least_target hsu_huang s v Marry ≡ first_suitor s v
hsu_huang_least_suitor s v =
    near_agree s.network (hsu_huang.allowed s v Marry) (suits s v) v (λ w h. ap (λ b. b && suits s v w) h)

pub least_open : (s : State) (v : ℕ) → least_target hsu_huang s v Seduce ≡ first_open hsu_huang_opens s v
least_open s v =
    near_agree s.network (hsu_huang.allowed s v Seduce) (is_open hsu_huang_opens s) v (λ w h. ap (λ b. b && is_open hsu_huang_opens s w) h)

-- a node that points somewhere abandons, and takes no target
pub held_target : (s : State) (v w : ℕ) → pointer s v ≡ Some w → IsSome (rule_at hsu_huang s v) → (rule_at hsu_huang s v ≡ Some Abandon) × (target_at hsu_huang s v None ≡ Some None)
held_target s v w there enabled =
    let by = hsu_huang_rule_cases s v ∙ ap (λ o. hsu_huang_rule_by o (has_suitor s v) (has_open s v) (is_taken s v)) there in
    let abandons : rule_at hsu_huang s v ≡ Some Abandon = by ∙ is_abandon (is_taken s v w) (subst (λ o. IsSome o) by enabled) in (
      abandons,
      ap (option_and_then (target_by hsu_huang s v None)) abandons ∙ ap Some (near_fails s.network (hsu_huang.allowed s v Abandon) v (λ x h. refl)),
    )
  where
    is_abandon : (b : Bool) → IsSome (cond b (Some Abandon) None) → cond b (Some Abandon) None ≡ Some Abandon
    is_abandon true h = refl
    is_abandon false h = absurd cc

-- a node that points nowhere takes its first suitor, else its first open neighbour
pub hsu_huang_free_target : (s : State) (v : ℕ) → pointer s v ≡ None → IsSome (rule_at hsu_huang s v) → target_at hsu_huang s v None ≡ Some (option_or (first_suitor s v) (first_open hsu_huang_opens s v))
hsu_huang_free_target s v null enabled =
    let by = hsu_huang_rule_cases s v ∙ ap (λ o. hsu_huang_rule_by o (has_suitor s v) (has_open s v) (is_taken s v)) null in
    ap (option_and_then (target_by hsu_huang s v None)) by ∙ cases (first_suitor s v) (first_open hsu_huang_opens s v) (hsu_huang_least_suitor s v) (least_open s v) (subst (λ o. IsSome o) by enabled)
  where
    cases : (suitor reach : Option ℕ) → least_target hsu_huang s v Marry ≡ suitor → least_target hsu_huang s v Seduce ≡ reach → IsSome (hsu_huang_rule_by None (is_some suitor) (is_some reach) (is_taken s v)) → option_and_then (target_by hsu_huang s v None) (hsu_huang_rule_by None (is_some suitor) (is_some reach) (is_taken s v)) ≡ Some (option_or suitor reach)
    cases (Some w) reach p q h = ap Some p
    cases None (Some w) p q h = ap Some q
    cases None None p q h = absurd cc

-- a node with a null pointer may wish a suitor as target or, if there is none, an open neighbour
pub hsu_huang_free_wish : (s : State) (v w : ℕ) → IsState s → pointer s v ≡ None → IsSome (rule_at hsu_huang s v) → target_at hsu_huang s v (Some w) ≡ cond ((linked s.network v w && suits s v w) || (is_none (first_suitor s v) && (linked s.network v w && is_open hsu_huang_opens s w))) (Some (Some w)) None
hsu_huang_free_wish s v w is_state null enabled =
    let by = hsu_huang_rule_cases s v ∙ ap (λ o. hsu_huang_rule_by o (has_suitor s v) (has_open s v) (is_taken s v)) null in
    ap (option_and_then (target_by hsu_huang s v (Some w))) by ∙ cases (has_suitor s v) (has_open s v) (linked s.network v w && suits s v w) (linked s.network v w && is_open hsu_huang_opens s w) refl refl suitor (subst (λ o. IsSome o) by enabled)
  where
    suitor : IsTrue (linked s.network v w && suits s v w) → has_suitor s v ≡ true
    suitor h =
        let parts = and_parts _ _ h in
        ap is_some (near_found s.network (suits s v) v w is_state.is_network parts.0 parts.1).1

    cases : (a b c d : Bool) → hsu_huang.allowed s v Marry w ≡ c → hsu_huang.allowed s v Seduce w ≡ d → (IsTrue c → a ≡ true) → IsSome (hsu_huang_rule_by None a b (is_taken s v)) → option_and_then (target_by hsu_huang s v (Some w)) (hsu_huang_rule_by None a b (is_taken s v)) ≡ cond (c || (not a && d)) (Some (Some w)) None
    cases true b true d p q k h = ap (λ t. cond t (Some (Some w)) None) p
    cases true b false d p q k h = ap (λ t. cond t (Some (Some w)) None) p
    cases false true true d p q k h = let no = k refl in absurd cc
    cases false true false d p q k h = ap (λ t. cond t (Some (Some w)) None) q
    cases false false c d p q k h = absurd cc
