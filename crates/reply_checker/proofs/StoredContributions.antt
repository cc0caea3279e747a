-- What is kept of each name: at first, as what depends on a name becomes due, and after a look.
use Rattle.reply_checker.proofs.Prelude.{◌≡◌, ◌≢◌, ℕ, ◌+◌, ◌≤◌, Bool, true, false, cond, List, length, set, None, is_some, IsTrue, sym, ap, subst, ◌∙◌, ⊎_elim, arith, cases_eq, lt-leb, true≢false, get_or_past, get_or-set_other, get_or-set_same, length-set, is_in, EdgeStance, end_at, RuleSet, present, rule_at, pair_above, State, IsState, partner, table_of, Contribution, adds, asks, closes, edge_stance_by, absent_contribution, contribution_of_name, AreAsking, IsShare, IsContributionAt, AreExactIfFresh, OpenEdges, CountsOpenEdges}

-- of a name without a node no value is kept
told_nowhere : (rules : RuleSet) (s : State) (ends : List EdgeStance) (each : List Contribution) (v : ℕ) → present s.network v ≡ false → contribution_of_name each v ≡ absent_contribution → IsContributionAt rules s ends each v
told_nowhere rules s ends each v absent nothing = record {
  share = record {
    rule = ap (λ (it : Contribution). it.rule) nothing ∙ sym (ap (λ b. cond b (rule_at (table_of rules) s v) None) absent);
    is_lower_end = ap (λ (it : Contribution). it.is_lower_end) nothing ∙ sym (ap (λ b. is_some (cond b (pair_above v (partner s v)) None)) absent);
    added = ap (λ (it : Contribution). it.added) nothing ∙ sym (ap (λ b. cond b (adds rules s v) 0) absent);
    closes = ap (λ (it : Contribution). it.closes) nothing ∙ sym (ap (λ b. cond b (closes rules s v) false) absent);
  };
  end = λ here. absurd (true≢false (sym here ∙ absent));
}

-- if all names are due no value is kept
pub told_of_none : (rules : RuleSet) (s : State) (it : OpenEdges) (each : List Contribution) (touched due : List Bool) → IsState s → length each ≡ s.network.size + 1 → length touched ≡ s.network.size + 1 → length due ≡ s.network.size + 1 → contribution_of_name each 0 ≡ absent_contribution → ((v : ℕ) → 1 ≤ v → v ≤ s.network.size → is_in due v ≡ true) → CountsOpenEdges s.network it → AreExactIfFresh rules s it each touched due
told_of_none rules s it each touched due good places touched_places due_places none all counted = record {
  sound = good;
  places = places;
  touched_places = touched_places;
  due_places = due_places;
  nobody = none;
  told = λ v fresh.
      let due_if = all v in
      let fresh_now = fresh.not_due in
      let low = lt-leb 1 v in
      let past = lt-leb v s.network.size in
      let beyond = get_or_past each v absent_contribution in
      told_nowhere rules s it.stances.items each v (grind arith) (grind arith);
  counted = counted;
}

-- what depends on a name is due, and the name is untouched
pub told_spread : (rules : RuleSet) (s : State) (it : OpenEdges) (each : List Contribution) (touched touched' due due' : List Bool) (v : ℕ) → touched' ≡ set touched v false → AreAsking s v due due' → AreExactIfFresh rules s it each touched due → AreExactIfFresh rules s it each touched' due'
told_spread rules s it each touched touched' due due' v cleared asking told = record {
  sound = told.sound;
  places = told.places;
  touched_places = ap length cleared ∙ length-set touched v false ∙ told.touched_places;
  due_places = asking.places ∙ told.due_places;
  nobody = told.nobody;
  told = λ x fresh.
      let fact = asking.others x fresh.not_due in
      told.told x (record {
        not_due = fact.0;
        untouched = λ w asked.
            let apart : w ≢ v = λ same. true≢false (sym asked ∙ ap (asks s x) same ∙ fact.1) in
            sym (ap (λ l. is_in l w) cleared ∙ get_or-set_other touched v w false false apart) ∙ fresh.untouched w asked;
      });
  counted = told.counted;
}

-- name 0 has no node
none_there : (rules : RuleSet) (s : State) (share : Contribution) → IsShare rules s 0 share → share ≡ absent_contribution
none_there rules s share is = λ i. record { rule = is.rule i; is_lower_end = is.is_lower_end i; added = is.added i; closes = is.closes i }

-- a look at a name makes its entry right, and leaves the others
pub told_next : (rules : RuleSet) (s : State) (it it' : OpenEdges) (each each' : List Contribution) (touched due due' : List Bool) (v : ℕ) (share : Contribution) → v ≤ s.network.size → each' ≡ set each v share → due' ≡ set due v false → IsShare rules s v share → (IsTrue (present s.network v) → end_at it'.stances.items v ≡ edge_stance_by rules s v) → ((w : ℕ) → w ≢ v → end_at it'.stances.items w ≡ end_at it.stances.items w) → CountsOpenEdges s.network it' → AreExactIfFresh rules s it each touched due → AreExactIfFresh rules s it' each' touched due'
told_next rules s it it' each each' touched due due' v share within set_each set_due is end others counted told = record {
  sound = told.sound;
  places = ap length set_each ∙ length-set each v share ∙ told.places;
  touched_places = told.touched_places;
  due_places = ap length set_due ∙ length-set due v false ∙ told.due_places;
  nobody =
      ⊎_elim
      (λ (same : v ≡ 0). ap (contribution_of_name each') (sym same) ∙ new_share ∙ none_there rules s share (subst (λ x. IsShare rules s x share) same is))
      (λ (apart : v ≢ 0). kept_share 0 (λ e. apart (sym e)) ∙ told.nobody)
      (cases_eq v 0);
  told = λ w fresh.
      ⊎_elim
      (λ (same : w ≡ v). subst (λ x. IsContributionAt rules s it'.stances.items each' x) (sym same) here)
      (λ (apart : w ≢ v). there w apart (told.told w (record { not_due = sym (ap (λ l. is_in l w) set_due ∙ get_or-set_other due v w false false apart) ∙ fresh.not_due; untouched = fresh.untouched })))
      (cases_eq w v);
  counted = counted;
}
  where
    new_share : contribution_of_name each' v ≡ share
    new_share = ap (λ l. contribution_of_name l v) set_each ∙ get_or-set_same each v share absent_contribution (omega (arith, told.places))

    kept_share : (w : ℕ) → w ≢ v → contribution_of_name each' w ≡ contribution_of_name each w
    kept_share w apart = ap (λ l. contribution_of_name l w) set_each ∙ get_or-set_other each v w share absent_contribution apart

    here : IsContributionAt rules s it'.stances.items each' v
    here = record { share = subst (IsShare rules s v) (sym new_share) is; end = end }

    there : (w : ℕ) → w ≢ v → IsContributionAt rules s it.stances.items each w → IsContributionAt rules s it'.stances.items each' w
    there w apart was = record {
      share = subst (IsShare rules s w) (sym (kept_share w apart)) was.share;
      end = λ h. others w apart ∙ was.end h;
    }
