-- The list of the nodes that an event would reach.
use Rattle.rule_engine.proofs.Prelude.{◌≡◌, ℕ, ◌≤◌, Bool, true, false, cond, ◌&&◌, Option, None, Some, is_none, List, [], ◌∷◌, Contains, IsTrue, filter, length, inl, inr, ⊎_elim, refl, sym, ap, ◌∙◌, subst, arith, cases_Bool, and_from, filter_agree, length-filter, Event, Link, Unlink, Point, Flag, Step, Show, Enabled, Matching, Status, Join, Leave, Refusal, Accepted, Answers, AnswersBy, names, refusal_of, IsTable, contains_first, contains_rest, IsIn, in_names, rest_is, rest_from, disturbed_rests, RuleTable, State, IsState, is_in_reach, reach_size, reach_is_small, disturbs, may_disturb, would_reach, reach_of, Spares}

pub accepted_reach : (t : RuleTable) (s : State) (event : Event) → disturbs t s event ≡ true → filter (is_in_reach s event) (names s.network) ≡ reach_of t s event
accepted_reach t s event accepted = filter_agree (is_in_reach s event) (would_reach t s event) (λ v. ap (λ b. b && is_in_reach s event v) (sym accepted)) (names s.network)

none_kept : {X : Type 0} (p : X → Bool) (xs : List X) → filter (λ x. false && p x) xs ≡ []
none_kept p [] = refl
none_kept p (x ∷ xs) = none_kept p xs

pub refused_reach : (t : RuleTable) (s : State) (event : Event) → disturbs t s event ≡ false → [] ≡ reach_of t s event
refused_reach t s event refused =
    sym (none_kept (is_in_reach s event) (names s.network))
    ∙ filter_agree (λ v. false && is_in_reach s event v) (would_reach t s event) (λ v. ap (λ b. b && is_in_reach s event v) (sym refused)) (names s.network)

pub few_reached : (s : State) (event : Event) (xs : List ℕ) → IsState s → xs ≡ filter (is_in_reach s event) (names s.network) → length xs ≤ reach_size s event
few_reached s event xs good is =
    let few = reach_is_small s good event in
    let long = ap (length {A = ℕ}) is ∙ length-filter (is_in_reach s event) (names s.network) in
    omega (arith, few, long)

-- ---- the nodes that it spares

accepted_disturbs : (t : RuleTable) (s : State) (spent : ℕ) (event : Event) (after : State) → Answers t s spent event Accepted after → disturbs t s event ≡ true
accepted_disturbs t s spent event after answers = go event (refusal_of t s event) answers
  where
    go : (e : Event) (r : Option Refusal) → AnswersBy t s spent e r Accepted after → (may_disturb e && is_none r) ≡ true
    go e (Some refusal) does = absurd (let k = does.0 in cc)
    go (Link a b) None does = refl
    go (Unlink a b) None does = refl
    go (Point v target) None does = refl
    go (Flag v value) None does = refl
    go (Join v) None does = refl
    go (Leave v) None does = refl
    go (Step items) None does = absurd does
    go (Show v) None does = absurd does
    go Enabled None does = absurd does
    go Matching None does = absurd does
    go Status None does = absurd does

kept_contains : (p : ℕ → Bool) (v : ℕ) (xs : List ℕ) → IsTrue (p v) → IsIn v xs → Contains (filter p xs) v
kept_contains p v [] passes there = absurd there
kept_contains p v (x ∷ xs) passes (inl same) =
    subst (λ b. Contains (cond b (x ∷ filter p xs) (filter p xs)) v) (sym (ap p same ∙ passes)) (subst (λ y. Contains (x ∷ filter p xs) y) same (contains_first x (filter p xs)))
kept_contains p v (x ∷ xs) passes (inr there) =
    let rest = kept_contains p v xs passes there in
    elim (p x) as (λ b. Contains (cond b (x ∷ filter p xs) (filter p xs)) v) [ true ↦ contains_rest x v (filter p xs) rest | false ↦ rest ]

pub spares_others : (t : RuleTable) → IsTable t → (s : State) → IsState s → (spent : ℕ) (event : Event) (xs : List ℕ) → xs ≡ reach_of t s event → Spares t s spent event xs
spares_others t table s good spent event xs is = λ after answers v has rest out.
    let beyond : is_in_reach s event v ≡ false = ⊎_elim
    (λ reached. absurd (out (subst (λ (ys : List ℕ). Contains ys v) (sym is)
    (kept_contains (would_reach t s event) v (names s.network) (and_from (disturbs t s event) (is_in_reach s event v) (accepted_disturbs t s spent event after answers) reached) (in_names s.network v has)))))
    (λ calm. calm)
    (cases_Bool (is_in_reach s event v)) in
    let here = disturbed_rests t table s good spent event after answers v (rest_is t.flags s v good rest) beyond in
    (rest_from t.flags after v here.0, here.1)
