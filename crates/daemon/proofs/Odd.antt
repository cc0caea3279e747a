-- The names whose word is odd.
use Rattle.daemon.proofs.Prelude.{◌≡◌, ℕ, suc, ◌+◌, ◌%◌, ◌<◌, ◌≤◌, Bool, true, false, cond, List, [], ◌∷◌, length, get_or, nat_eq, refl, sym, subst, ◌∙◌, arith, ⊎_elim, cases_Bool, true≢false, Stream, next_u32, is_in, members, plain, IsLawful, draw_one, keep_odd, draw_odd, or_one, draw_some}
use Rattle.daemon.proofs.Climb.{Climbs, climbs_lower, climbs_members, climbs_at, lawful_plain}

climbs_kept : (p : ℕ → Bool) (low v word : ℕ) (names : List ℕ) → low ≤ v → p v ≡ true → Climbs p (suc v) names → Climbs p low (keep_odd v word names)
climbs_kept p low v word names le pass h =
    ⊎_elim
    (λ (odd : nat_eq (word % 2) 1 ≡ true). subst (λ b. Climbs p low (cond b (v ∷ names) names)) (sym odd) (le, pass, h))
    (λ (even : nat_eq (word % 2) 1 ≡ false). subst (λ b. Climbs p low (cond b (v ∷ names) names)) (sym even) (climbs_lower p low (suc v) names (omega arith) h))
    (cases_Bool (nat_eq (word % 2) 1))

-- what is drawn of a list that climbs does so too
pub climbs_odd : (p : ℕ → Bool) (low : ℕ) (names : List ℕ) (s : Stream) → Climbs p low names → Climbs p low (draw_odd names s).0
climbs_odd p low [] s h = tt
climbs_odd p low (v ∷ names) s h = climbs_kept p low v (next_u32 s).0 (draw_odd names (next_u32 s).1).0 h.0 h.1 (climbs_odd p (suc v) names (next_u32 s).1 h.2)

length_kept : (v word : ℕ) (names : List ℕ) → length (keep_odd v word names) ≤ length names + 1
length_kept v word names =
    ⊎_elim
    (λ (odd : nat_eq (word % 2) 1 ≡ true). subst (λ b. length (cond b (v ∷ names) names) ≤ length names + 1) (sym odd) (omega arith))
    (λ (even : nat_eq (word % 2) 1 ≡ false). subst (λ b. length (cond b (v ∷ names) names) ≤ length names + 1) (sym even) (omega arith))
    (cases_Bool (nat_eq (word % 2) 1))

-- no more are drawn than there are
pub odd_few : (names : List ℕ) (s : Stream) → length (draw_odd names s).0 ≤ length names
odd_few [] s = omega arith
odd_few (v ∷ names) s =
    let kept = length_kept v (next_u32 s).0 (draw_odd names (next_u32 s).1).0 in
    let few = odd_few names (next_u32 s).1 in
    omega arith

-- a member that one word picks is a lawful choice
pub lawful_one : (bits : List Bool) (central : Bool) (s : Stream) → 1 ≤ length (members bits) → IsLawful bits central (plain (draw_one (members bits) s).0)
lawful_one bits central s some =
    let inside : (next_u32 s).0 % length (members bits) < length (members bits) = omega arith in
    let on = climbs_at (is_in bits) 0 (members bits) ((next_u32 s).0 % length (members bits)) (climbs_members bits) inside in
    lawful_plain bits central (draw_one (members bits) s).0 (let low : 0 ≤ get_or (members bits) ((next_u32 s).0 % length (members bits)) 0 = omega arith in (low, on, tt)) (omega arith) (λ _. refl)

or_lawful : (bits : List Bool) (central : Bool) (chosen : List ℕ) (s : Stream) → 1 ≤ length (members bits) → central ≡ false → Climbs (is_in bits) 0 chosen → IsLawful bits central (plain (or_one (members bits) chosen s).0)
or_lawful bits central [] s some is climb = lawful_one bits central s some
or_lawful bits central (v ∷ chosen) s some is climb = lawful_plain bits central (v ∷ chosen) climb (omega arith) (λ on. absurd (true≢false (sym on ∙ is)))

-- what is drawn for a daemon that is not central is a lawful choice
pub lawful_some : (bits : List Bool) (central : Bool) (s : Stream) → 1 ≤ length (members bits) → central ≡ false → IsLawful bits central (plain (draw_some (members bits) s).0)
lawful_some bits central s some is = or_lawful bits central (draw_odd (members bits) s).0 (draw_odd (members bits) s).1 some is (climbs_odd (is_in bits) 0 (members bits) s (climbs_members bits))

or_few : (names chosen : List ℕ) (s : Stream) → length chosen ≤ length names → 1 ≤ length names → length (or_one names chosen s).0 ≤ length names
or_few names [] s few some = some
or_few names (v ∷ chosen) s few some = few

-- at most as many are drawn as there are, also if the daemon is not central
pub some_few : (names : List ℕ) (s : Stream) → 1 ≤ length names → length (draw_some names s).0 ≤ length names
some_few names s some = or_few names (draw_odd names s).0 (draw_odd names s).1 (odd_few names s) some
