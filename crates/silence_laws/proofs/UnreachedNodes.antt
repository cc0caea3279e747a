-- In a stable network no node waits, and a disturbance that reaches no node leaves it stable.
use Rattle.silence_laws.proofs.Prelude.{◌≡◌, ℕ, Bool, false, Option, None, Some, IfSome, refl, subst, arith, cases_Bool, true≢false, and_parts, or_cases, false_from_ne_true, none-some, hsu_huang_stable_is_zero, hsu_huang_table, all_rest, rest_is_stable, disturbed_rests, is_hit, is_parted, is_in_reach, near_fails, points_from, points_true, suitor_some, answers_keep, AnswersBy, Answers, Does, hsu_huang_charge, hsu_huang, refusal_of, RuleTable, IsStable, State, IsState, has_suitor, is_unanswered, pointer, points, Event, Refusal, Accepted, NobodyWaits}

-- ---- nobody waits

pub answer_at : (uses_flags : Bool) (s : State) → IsStable uses_flags s → (v w : ℕ) → pointer s v ≡ Some w → pointer s w ≡ Some v
answer_at uses_flags s stable v w at = subst (λ o. IfSome o (λ x. pointer s x ≡ Some v)) at (stable.answered v)

pub none_waits : (uses_flags : Bool) (s : State) → IsStable uses_flags s → (v : ℕ) → is_unanswered s v ≡ false
none_waits uses_flags s stable v = grind arith

pub none_courted : (uses_flags : Bool) (s : State) → IsStable uses_flags s → (v : ℕ) → pointer s v ≡ None → has_suitor s v ≡ false
none_courted uses_flags s stable v null = grind (arith, false_from_ne_true, suitor_some, none-some, answer_at)

pub crossed_back : (uses_flags : Bool) (s : State) → IsStable uses_flags s → (a b : ℕ) → points s.registers a b ≡ points s.registers b a
crossed_back uses_flags s stable a b = grind (arith, false_from_ne_true, true≢false, cases_Bool, points_from, answer_at, points_true)

pub nobody_waits : NobodyWaits
nobody_waits uses_flags s stable =
    (none_waits uses_flags s stable, none_courted uses_flags s stable, crossed_back uses_flags s stable)

-- ---- nobody is reached

-- what was accepted was not refused
pub accepted : (t : RuleTable) (s : State) (spent : ℕ) (event : Event) (after : State) → Answers t s spent event Accepted after → (refusal_of t s event ≡ None) × Does t s spent event Accepted after
accepted t s spent event after answers = by (refusal_of t s event) refl answers
  where
    by : (r : Option Refusal) → refusal_of t s event ≡ r → AnswersBy t s spent event r Accepted after → (refusal_of t s event ≡ None) × Does t s spent event Accepted after
    by None e does = (e, does)
    by (Some refusal) e does = absurd cc

pub unreached_from : (s : State) (event : Event) → ((v : ℕ) → is_hit s event v ≡ false) → ((v : ℕ) → is_parted s event v ≡ false) → (v : ℕ) → is_in_reach s event v ≡ false
unreached_from s event calm kept v = grind (arith, false_from_ne_true, true≢false, or_cases, and_parts, near_fails)

pub unreached_is_silent : (s : State) → IsState s → IsStable false s → (spent : ℕ) (event : Event) (after : State) → Answers hsu_huang s spent event Accepted after → ((v : ℕ) → is_in_reach s event v ≡ false) → hsu_huang_charge after ≡ 0
unreached_is_silent s good stable spent event after answers none =
    let good' = answers_keep hsu_huang hsu_huang_table s good spent event Accepted after answers in
    hsu_huang_stable_is_zero after good' (rest_is_stable false after good' (λ v has. (disturbed_rests hsu_huang hsu_huang_table s good spent event after answers v (all_rest false s good stable v) (none v)).0))
