-- A name that is absent, and one without neighbours.
use Rattle.containment.proofs.Prelude.{◌≡◌, ℕ, suc, ◌<◌, Bool, true, false, List, [], ◌∷◌, filter, nat_eq, None, Some, is_some, find, refl, sym, ap, ap₂, ◌∙◌, inl, inr, ⊎_elim, arith, true≢false, false_from_ne_true, cases_eq, eq-eqb, ne_eqb, cond-true, cond-false, Network, names, linked, neighbours, present, State, IsState, points, pointer, partner, married, linked_present, near_fails, names_fails, married_some, none_is, points_from, unanswered_unmarried, empty_from_find, IsIn, pointer_present, in_names, is_at_rest, rest_from, absent_rests}
use Rattle.containment.proofs.MergedLists.{Rises, names_rise}

pub absent_unmarried : (s : State) (v : ℕ) → IsState s → present s.network v ≡ false → false ≡ married s v
absent_unmarried s v good gone =
    sym (false_from_ne_true (married s v) (λ is. let pair = married_some s v is in true≢false (sym (pointer_present s v pair.0 good pair.1) ∙ gone)))

pub absent_alone : (s : State) (p : ℕ → Bool) (v : ℕ) → IsState s → present s.network v ≡ false → false ≡ is_some (find p (neighbours s.network v))
absent_alone s p v good gone =
    sym (ap is_some (near_fails s.network p v (λ w near. absurd (true≢false (sym (linked_present s.network v w good.is_network near) ∙ gone)))))

pub absent_at_rest : (uses_flags : Bool) (s : State) (v : ℕ) → IsState s → present s.network v ≡ false → true ≡ is_at_rest uses_flags s v
absent_at_rest uses_flags s v good gone = sym (rest_from uses_flags s v (absent_rests uses_flags s v good gone))

pub absent_near : (s : State) (v : ℕ) → IsState s → present s.network v ≡ false → [] ≡ neighbours s.network v
absent_near s v good gone =
    sym (empty_from_find (linked s.network v) (names s.network) (names_fails s.network (linked s.network v) (λ w has. false_from_ne_true (linked s.network v w) (λ near. true≢false (sym (linked_present s.network v w good.is_network near) ∙ gone)))))

-- a node that is not answered is not married
pub lone : (s : State) (v w : ℕ) → pointer s v ≡ Some w → points s.registers w v ≡ false → None ≡ partner s v
lone s v w at other = sym (none_is (partner s v) (unanswered_unmarried s v w at (λ back. true≢false (sym (points_from s w v back) ∙ other))))

-- ---- one name

only_out : (v : ℕ) (xs : List ℕ) (low : ℕ) → Rises low xs → v < low → filter (λ x. nat_eq x v) xs ≡ []
only_out v [] low up below = refl
only_out v (x ∷ xs) low up below =
    let le = up.0 in
    cond-false (nat_eq x v) (x ∷ filter (λ y. nat_eq y v) xs) (filter (λ y. nat_eq y v) xs) (ne_eqb x v (λ same. omega (arith, le, same)))
    ∙ only_out v xs (suc x) up.1 (omega (arith, le))

only_here : (v x : ℕ) (xs : List ℕ) (low : ℕ) → Rises low (x ∷ xs) → x ≡ v → filter (λ y. nat_eq y v) (x ∷ xs) ≡ v ∷ []
only_here v x xs low up same =
    cond-true (nat_eq x v) (x ∷ filter (λ y. nat_eq y v) xs) (filter (λ y. nat_eq y v) xs) (eq-eqb x v same)
    ∙ ap₂ (λ y (ys : List ℕ). y ∷ ys) same (only_out v xs (suc x) up.1 (omega (arith, same)))

only_in : (v : ℕ) (xs : List ℕ) (low : ℕ) → Rises low xs → IsIn v xs → filter (λ x. nat_eq x v) xs ≡ v ∷ []
only_in v [] low up at = absurd at
only_in v (x ∷ xs) low up (inl same) = only_here v x xs low up same
only_in v (x ∷ xs) low up (inr there) =
    ⊎_elim
    (λ same. only_here v x xs low up same)
    (λ apart. cond-false (nat_eq x v) (x ∷ filter (λ y. nat_eq y v) xs) (filter (λ y. nat_eq y v) xs) (ne_eqb x v apart) ∙ only_in v xs (suc x) up.1 there)
    (cases_eq x v)

pub only_present : (net : Network) (v : ℕ) → present net v ≡ true → v ∷ [] ≡ filter (λ x. nat_eq x v) (names net)
only_present net v has = sym (only_in v (names net) 1 (names_rise net) (in_names net v has))

pub only_absent : (net : Network) (v : ℕ) → present net v ≡ false → [] ≡ filter (λ x. nat_eq x v) (names net)
only_absent net v gone =
    sym (empty_from_find (λ x. nat_eq x v) (names net) (names_fails net (λ x. nat_eq x v) (λ w has. ne_eqb w v (λ same. true≢false (sym has ∙ ap (present net) same ∙ gone)))))
