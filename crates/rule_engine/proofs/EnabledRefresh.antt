-- Looks again near a change keep the set of enabled nodes.
use Rattle.rule_engine.proofs.Prelude.{◌≡◌, ℕ, suc, ◌+◌, Bool, true, false, cond, ◌&&◌, ◌||◌, List, [], ◌∷◌, length, filter, find, Option, None, is_some, nat_eq, refl, sym, ap, ◌∙◌, subst, ⊎_elim, arith, range_with_len, cases_Bool, cond-true, cond-false, eqb-true, eq-eqb, nil_from_length, filter_agree, Act, Network, present, State, IsState, RuleTable, acts, rule_at, enabled_names, SameAt, is_in, members, is_enabled_at, AreOn, IsRefreshed, kept_twice}

-- a guard depends only on what its node shows
abbrev pub IsLocal : RuleTable → Type 0
IsLocal t = (s u : State) (v : ℕ) (act : Act) → IsState s → IsState u → SameAt s u v → t.guard s v act ≡ t.guard u v act

-- two states that show the same at a name, present in both or in neither, enable the same rule there
pub same_on : (t : RuleTable) → IsLocal t → (s u : State) (v : ℕ) → IsState s → IsState u → present u.network v ≡ present s.network v → SameAt s u v → is_enabled_at t s v ≡ is_enabled_at t u v
same_on t local s u v good good' here same =
    ap (λ b. is_some (cond b (rule_at t s v) None)) (sym here)
    ∙ ap (λ (g : Act → Bool). is_some (cond (present u.network v) (find g acts) None)) (λ i act. local s u v act good good' same i)

-- a change that keeps the number of names; each name that shows something else, or whose presence changed,
-- was looked at
pub kept_again : (t : RuleTable) → IsLocal t → (s u : State) (looked : ℕ → Bool) (bits bits' : List Bool) → IsState s → AreOn t s bits → IsState u → u.network.size ≡ s.network.size → ((v : ℕ) → looked v ≡ false → present u.network v ≡ present s.network v) → ((v : ℕ) → looked v ≡ false → SameAt s u v) → IsRefreshed t u looked bits bits' → AreOn t u bits'
kept_again t local s u looked bits bits' was kept good size here far done = record {
  places = done.places ∙ kept.places ∙ ap (λ n. n + 1) (sym size);
  each = λ v. done.each v ∙ ⊎_elim
      (λ (near : looked v ≡ true). cond-true (looked v) (is_enabled_at t u v) (is_in bits v) near)
      (λ (apart : looked v ≡ false). cond-false (looked v) (is_enabled_at t u v) (is_in bits v) apart ∙ kept.each v ∙ same_on t local s u v was good (here v apart) (far v apart))
      (cases_Bool (looked v));
}

-- after a change of edges that shows at two ends only, a look at both
pub kept_ends : (t : RuleTable) → IsLocal t → (s u : State) (net : Network) (a b : ℕ) (bits bits' : List Bool) → IsState s → AreOn t s bits → IsState u → u ≡ record s { network = net } → net.size ≡ s.network.size → ((x : ℕ) → present net x ≡ present s.network x) → ((v : ℕ) → (nat_eq v a || nat_eq v b) ≡ false → SameAt s (record s { network = net }) v) → IsRefreshed t u (λ w. nat_eq w a || nat_eq w b) bits bits' → AreOn t u bits'
kept_ends t local s u net a b bits bits' was kept good is size here far =
    kept_again t local s u (λ w. nat_eq w a || nat_eq w b) bits bits' was kept good (ap (λ q. q.network.size) is ∙ size) (λ x _. ap (λ q. present q.network x) is ∙ here x)
    (λ v apart. subst (λ q. SameAt s q v) (sym is) (far v apart))

-- a rule that only present nodes have
by_presence : {X : Type 0} (here : Bool) (o : Option X) → is_some (cond here o None) ≡ (here && is_some o)
by_presence true o = refl
by_presence false o = refl

-- the members are the enabled nodes, since no rule is enabled at place 0
pub members_on : (t : RuleTable) (s : State) (bits : List Bool) → AreOn t s bits → members bits ≡ enabled_names t s
members_on t s bits on =
    let count : length bits ≡ suc s.network.size = omega (arith, on.places) in
    ap (λ n. filter (is_in bits) (range_with_len 0 n)) count
    ∙ ap (λ b. cond b (0 ∷ filter (is_in bits) (range_with_len (0 + 1) s.network.size)) (filter (is_in bits) (range_with_len (0 + 1) s.network.size))) (on.each 0)
    ∙ ap (λ a. filter (is_in bits) (range_with_len a s.network.size)) (let one : 0 + 1 ≡ 1 = omega arith in one)
    ∙ filter_agree (is_in bits) (λ v. present s.network v && is_some (rule_at t s v)) (λ v. on.each v ∙ by_presence (present s.network v) (rule_at t s v)) (range_with_len 1 s.network.size)
    ∙ sym (kept_twice (λ v. is_some (rule_at t s v)) (present s.network) (range_with_len 1 s.network.size))

-- it counts no members exactly if no rule is enabled
pub quiet_by_count : (t : RuleTable) (s : State) (bits : List Bool) (count : ℕ) → AreOn t s bits → count ≡ length (members bits) → (nat_eq count 0 ≡ true → enabled_names t s ≡ []) × (enabled_names t s ≡ [] → nat_eq count 0 ≡ true)
quiet_by_count t s bits count on is =
    (λ none. sym (members_on t s bits on) ∙ nil_from_length (members bits) (sym is ∙ eqb-true count 0 none), λ quiet. eq-eqb count 0 (is ∙ ap length (members_on t s bits on ∙ quiet)))
