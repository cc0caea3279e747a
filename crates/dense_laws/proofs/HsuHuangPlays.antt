-- By Hsu and Huang's rules: what each rule lets a node do, and which nodes no rule lets move.
use Rattle.dense_laws.proofs.Prelude.{◌≡◌, ℕ, Bool, true, false, cond, not, ◌&&◌, None, Some, is_some, is_none, IsTrue, find, refl, sym, ap, ◌∙◌, arith, and_from, not_from_false, false_from_ne_true, true≢false, none-some, same_Some, Act, Marry, Seduce, Abandon, linked, present, neighbours, State, IsState, pointer, suits, has_suitor, rule_at, is_open, hsu_huang, hsu_huang_opens, hsu_huang_guard, hsu_huang_inside, wish_refusal, BadTarget, near_found, points_from, suitor_some, suitor_from, null_is}
use Rattle.machine_laws.proofs.Asks.{hsu_huang_asks}
use Rattle.dense_laws.proofs.NodeKinds.{stuck_from, stuck_is}
use Rattle.dense_laws.proofs.HighPairs.{IsPaired, null_alone, unanswered_alone}
use Rattle.dense_laws.proofs.Plays.{IsPlayed, played_by}
use Rattle.rule_machine.specs.State.{flag}
use Rattle.rule_machine.specs.declared.act.Act.TheVariants.{Update}

-- the rules in their order
rule_is : (s : State) (v : ℕ) (marry seduce abandon : Bool) → hsu_huang_guard s v Marry ≡ marry → hsu_huang_guard s v Seduce ≡ seduce → hsu_huang_guard s v Abandon ≡ abandon → rule_at hsu_huang s v ≡ cond marry (Some Marry) (cond seduce (Some Seduce) (cond abandon (Some Abandon) None))
rule_is s v marry seduce abandon a b c = grind arith

wished : (s : State) (v w : ℕ) (act : Act) → IsTrue (hsu_huang.allowed s v act w) → wish_refusal (hsu_huang.allowed s v act) (Some w) ≡ None
wished s v w act allowed = ap (λ b. cond b None (Some BadTarget)) allowed

pub may_take : (s : State) → IsState s → (v w : ℕ) → IsTrue (present s.network v) → IsTrue (linked s.network v w) → pointer s v ≡ None → pointer s w ≡ Some v → IsPlayed hsu_huang s v (Some w) (flag s v)
may_take s good v w has near null suitor =
    played_by hsu_huang hsu_huang_inside s good v Marry (Some w) has
    (rule_is s v true (hsu_huang_guard s v Seduce) (hsu_huang_guard s v Abandon) (and_from (is_none (pointer s v)) (has_suitor s v) (null_is (pointer s v) null) (suitor_from s v w good suitor)) refl refl)
    (wished s v w Marry allowed) (allowed, λ h. refl) refl
  where
    allowed : IsTrue (hsu_huang.allowed s v Marry w)
    allowed = and_from (linked s.network v w) (suits s v w) near (points_from s w v suitor)

pub may_court : (s : State) → IsState s → (v w : ℕ) → IsTrue (present s.network v) → IsTrue (linked s.network v w) → pointer s v ≡ None → pointer s w ≡ None → ((u : ℕ) → pointer s u ≡ Some v → ⊥) → IsPlayed hsu_huang s v (Some w) (flag s v)
may_court s good v w has near null other unsuited =
    played_by hsu_huang hsu_huang_inside s good v Seduce (Some w) has
    (rule_is s v false true (hsu_huang_guard s v Abandon)
    (ap (λ b. is_none (pointer s v) && b) alone ∙ and_none (is_none (pointer s v)))
    (and_from (is_none (pointer s v) && not (has_suitor s v)) _ (and_from (is_none (pointer s v)) (not (has_suitor s v)) (null_is (pointer s v) null) (not_from_false (has_suitor s v) alone))
    (let found = near_found s.network (is_open hsu_huang_opens s) v w good.is_network near (null_is (pointer s w) other) in ap is_some found.1))
    refl)
    (wished s v w Seduce allowed) (allowed, λ h. refl) refl
  where
    alone : has_suitor s v ≡ false
    alone = false_from_ne_true (has_suitor s v) (λ h. let some = suitor_some s v h in unsuited some.0 some.1)

    and_none : (b : Bool) → (b && false) ≡ false
    and_none b = grind arith

    allowed : IsTrue (hsu_huang.allowed s v Seduce w)
    allowed = and_from (linked s.network v w) (is_open hsu_huang_opens s w) near (null_is (pointer s w) other)

pub may_leave : (s : State) → IsState s → (v w y : ℕ) → IsTrue (present s.network v) → pointer s v ≡ Some w → pointer s w ≡ Some y → (y ≡ v → ⊥) → IsPlayed hsu_huang s v None (flag s v)
may_leave s good v w y has at on apart =
    played_by hsu_huang hsu_huang_inside s good v Abandon None has
    (rule_is s v false false true
    (ap (λ o. is_none o && has_suitor s v) at)
    (ap (λ o. is_none o && not (has_suitor s v) && is_some (find (is_open hsu_huang_opens s) (neighbours s.network v))) at)
    (stuck_from (pointer s) v w at (λ null. none-some y (sym null ∙ on)) (λ back. apart (same_Some y v (sym on ∙ back)))))
    refl refl refl

-- no rule is enabled at a node of a pair
pub paired_idle : (s : State) (v : ℕ) (act : Act) → IsPaired (pointer s) v → IsTrue (hsu_huang.guard s v act) → ⊥
paired_idle s v Update paired guard = true≢false (sym guard)
paired_idle s v Marry paired guard = null_alone (pointer s) v (hsu_huang_asks.marry s v guard).0 paired
paired_idle s v Seduce paired guard = null_alone (pointer s) v (hsu_huang_asks.seduce s v guard).0 paired
paired_idle s v Abandon paired guard = let asks = hsu_huang_asks.abandon s v guard in unanswered_alone (pointer s) v asks.0 asks.1 asks.2 paired

-- nor at one whose target is null
pub hoping_idle : (s : State) (v w : ℕ) (act : Act) → pointer s v ≡ Some w → pointer s w ≡ None → IsTrue (hsu_huang.guard s v act) → ⊥
hoping_idle s v w Update at null guard = true≢false (sym guard)
hoping_idle s v w Marry at null guard = none-some w (sym (hsu_huang_asks.marry s v guard).0 ∙ at)
hoping_idle s v w Seduce at null guard = none-some w (sym (hsu_huang_asks.seduce s v guard).0 ∙ at)
hoping_idle s v w Abandon at null guard =
    let aim = stuck_is (pointer s) v guard in aim.2 (ap (pointer s) (same_Some aim.0 w (sym aim.1 ∙ at)) ∙ null)
