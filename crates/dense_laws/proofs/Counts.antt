-- Counts that differ at one element or at two, and what a count implies for the elements.
use Rattle.dense_laws.proofs.Prelude.{◌≡◌, ℕ, ◌+◌, ◌≤◌, Bool, false, ◌&&◌, ◌⊎◌, List, [], ◌∷◌, count_by, nat_eq, IsTrue, refl, sym, ap, ◌∙◌, subst, inl, inr, ⊎_elim, arith, cases_Bool, cases_eq, and_parts, or_left, eqb-true, eq-eqb, false_from_ne_true, true≢false, sum_by-cons, IsIn, IsWithoutRepeats, bit}
use Rattle.std.proofs.Common.{◌||◌}
use Rattle.std.proofs.lemmas.Bool.{or_cases, or_right}
use Rattle.machine_laws.proofs.ListCounts.{count_either, count_le, count_or, none_count, one_count, once as counted_once}

-- whatever passes p passes q, except perhaps y
pub count_more : (p q : ℕ → Bool) (y : ℕ) (xs : List ℕ) → IsWithoutRepeats xs → IsIn y xs → ((v : ℕ) → (v ≡ y → ⊥) → IsTrue (p v) → IsTrue (q v)) → count_by p xs ≤ count_by q xs + 1
count_more p q y xs once at within =
    let le = count_le p (λ v. q v || nat_eq y v) xs (λ v there h. one v h (cases_eq v y)) in
    omega (arith, le, count_or q (nat_eq y) xs, counted_once y xs once)
  where
    one : (v : ℕ) → IsTrue (p v) → (v ≡ y) ⊎ (v ≡ y → ⊥) → IsTrue (q v || nat_eq y v)
    one v h at = grind (arith, within v)

-- y passes q and not p
pub record IsGone (p q : ℕ → Bool) (xs : List ℕ) (y : ℕ) : Type 0 where
  pub there : IsIn y xs
  pub was : IsTrue (q y)
  pub gone : IsTrue (p y) → ⊥

gone_at : (p q : ℕ → Bool) (xs : List ℕ) (y v : ℕ) → IsGone p q xs y → IsTrue (nat_eq y v) → IsTrue (q v) × (IsTrue (p v) → ⊥)
gone_at p q xs y v gone same = subst (λ z. IsTrue (q z) × (IsTrue (p z) → ⊥)) (eqb-true y v same) (gone.was, gone.gone)

-- what passes p passes q, and y does not pass p any more
pub count_less : (p q : ℕ → Bool) (y : ℕ) (xs : List ℕ) → IsWithoutRepeats xs → ((v : ℕ) → IsTrue (p v) → IsTrue (q v)) → IsGone p q xs y → count_by p xs + 1 ≤ count_by q xs
count_less p q y xs once within gone =
    let le = count_le (λ v. p v || nat_eq y v) q xs (λ v there h. ⊎_elim (within v) (λ same. (gone_at p q xs y v gone same).0) (or_cases (p v) (nat_eq y v) h)) in
    let none = none_count (λ v. p v && nat_eq y v) xs (λ v there. false_from_ne_true (p v && nat_eq y v) (λ h. let both = and_parts (p v) (nat_eq y v) h in (gone_at p q xs y v gone both.1).1 both.0)) in
    omega (arith, le, none, count_either p (nat_eq y) xs, one_count (nat_eq y) xs y gone.there (eq-eqb y y refl))

-- nor do two
pub count_less_two : (p q : ℕ → Bool) (y z : ℕ) (xs : List ℕ) → IsWithoutRepeats xs → ((v : ℕ) → IsTrue (p v) → IsTrue (q v)) → IsGone p q xs y → IsGone p q xs z → (y ≡ z → ⊥) → count_by p xs + 2 ≤ count_by q xs
count_less_two p q y z xs once within gone also apart =
    let first = count_less p (λ v. p v || nat_eq y v) y xs once (λ v h. or_left (p v) (nat_eq y v) h) (record { there = gone.there; was = or_right (p y) (nat_eq y y) (eq-eqb y y refl); gone = gone.gone }) in
    let second = count_less (λ v. p v || nat_eq y v) q z xs once (λ v h. ⊎_elim (within v) (λ same. (gone_at p q xs y v gone same).0) (or_cases (p v) (nat_eq y v) h))
    (record { there = also.there; was = also.was; gone = λ h. ⊎_elim also.gone (λ same. apart (eqb-true y z same)) (or_cases (p z) (nat_eq y z) h) }) in
    omega (arith, first, second)

-- two elements that pass are counted
pub count_two : (q : ℕ → Bool) (y z : ℕ) (xs : List ℕ) → IsWithoutRepeats xs → IsIn y xs → IsIn z xs → IsTrue (q y) → IsTrue (q z) → (y ≡ z → ⊥) → 2 ≤ count_by q xs
count_two q y z xs once at also passes passes_too apart =
    let le = count_less_two (λ v. false) q y z xs once (λ v h. absurd (true≢false (sym h))) (record { there = at; was = passes; gone = λ h. true≢false (sym h) }) (record { there = also; was = passes_too; gone = λ h. true≢false (sym h) }) apart in
    omega (arith, le)

-- what is counted is there
pub count_exists : (p : ℕ → Bool) (xs : List ℕ) → 1 ≤ count_by p xs → (v : ℕ) × IsIn v xs × IsTrue (p v)
count_exists p [] h = absurd (omega arith)
count_exists p (x ∷ xs) h =
    let whole = sum_by-cons (λ v. bit (p v)) x xs in
    ⊎_elim
    (λ yes. (x, inl refl, yes))
    (λ no.
    let none : bit (p x) ≡ 0 = ap bit no in
    let rest = count_exists p xs (omega (arith, whole, none, h)) in
    (rest.0, inr rest.1, rest.2))
    (cases_Bool (p x))
