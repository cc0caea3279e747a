-- The silent cost is compared with the table's cost, and rewriting a pointer changes nothing.
use Rattle.silence_laws.proofs.Prelude.{◌≡◌, ℕ, zero, suc, ◌+◌, ◌*◌, ◌≤◌, Bool, true, false, not, ◌&&◌, List, [], ◌∷◌, Option, None, Some, nat_eq, get_or, set, IsTrue, refl, ap, ◌∙◌, subst, ⊎_elim, arith, length, count_by, and_from, cond-true, cond-false, cases_Bool, not_from_false, length-filter, count_within, count_split, count_le, IsWithoutRepeats, IsIn, count_all, in_names, hsu_huang_cost, hsu_huang_point_cost, degree, mutual_is, linked_back, linked_present, married_from, pointer_linked, points_from, linked, names, IsStable, State, IsState, is_at, is_unanswered, pointer, married, Link, Unlink, Point, Leave, is_single_but, silent_point_cost, single_neighbours, single_neighbours_but, SilentCostIsLess, RewritingChangesNothing}
use Rattle.silence_laws.proofs.UnreachedNodes.{answer_at, none_courted}

-- neighbours that pass a test are fewer than all by those of a list that do not
pub others_few : (s : State) → IsState s → (v : ℕ) (p : ℕ → Bool) (ys : List ℕ) → IsWithoutRepeats ys → ((x : ℕ) → IsIn x ys → IsTrue (linked s.network v x) × (p x ≡ false)) → count_by (λ x. linked s.network v x && p x) (names s.network) + length ys ≤ degree s.network v
others_few s good v p ys single out =
    let others = count_within (λ x. true) (λ x. linked s.network v x && not (p x)) ys (names s.network) single (λ x there h.
    let near = (out x there).0 in
    (in_names s.network x (linked_present s.network x v good.is_network (linked_back s.network x v ∙ near)), and_from (linked s.network v x) (not (p x)) near (not_from_false (p x) (out x there).1))) in
    omega (arith, others, count_all ys, count_split (linked s.network v) p (names s.network), length-filter (linked s.network v) (names s.network))

pub partner_less : (s : State) → IsState s → (v w : ℕ) → pointer s v ≡ Some w → pointer s w ≡ Some v → single_neighbours s v + 1 ≤ degree s.network v
partner_less s good v w at back =
    others_few s good v (λ x. not (married s x)) (w ∷ []) ((λ none. none), tt) (λ x. ⊎_elim
    (λ same. subst (λ y. IsTrue (linked s.network v y) × (not (married s y) ≡ false)) same (pointer_linked s v w good at, ap not (married_from s w v good back at)))
    (λ none. absurd none))

-- fewer still if the new target does not count
but_less : (s : State) → IsState s → (v w : ℕ) (target : Option ℕ) → pointer s v ≡ Some w → pointer s w ≡ Some v → single_neighbours_but s v target + 1 ≤ degree s.network v
but_less s good v w target at back =
    let few = count_le (λ x. linked s.network v x && is_single_but s target x) (λ x. linked s.network v x && not (married s x)) (names s.network) (λ x there. one (linked s.network v x) (not (married s x)) (not (is_at target x))) in
    omega (arith, partner_less s good v w at back, few)
  where
    one : (l m a : Bool) → (l && (m && a)) ≡ true → (l && m) ≡ true
    one l m a h = grind arith

-- ---- what the table of costs says of a pointer in a stable network

-- one of a pair
pub pair_point_cost : (s : State) (v u : ℕ) (target : Option ℕ) → pointer s v ≡ Some u → pointer s u ≡ Some v → hsu_huang_cost s (Point v target) ≡ 2 * (degree s.network v + degree s.network u)
pair_point_cost s v u target at back = grind (arith, points_from)

-- a null one
pub null_point_cost : (s : State) → IsStable false s → (v : ℕ) (target : Option ℕ) → pointer s v ≡ None → hsu_huang_cost s (Point v target) ≡ 1
null_point_cost s stable v target null =
    ap (λ b. hsu_huang_point_cost s.network v (is_unanswered s v) b (pointer s v)) (none_courted false s stable v null) ∙ ap (λ o. hsu_huang_point_cost s.network v (is_unanswered s v) false o) null

point_less : (s : State) → IsState s → IsStable false s → (v : ℕ) (o target : Option ℕ) → pointer s v ≡ o → silent_point_cost s v o target ≤ hsu_huang_cost s (Point v target)
point_less s good stable v None None at = omega arith
point_less s good stable v None (Some w) at = let one = null_point_cost s stable v (Some w) at in omega (arith, one)
point_less s good stable v (Some u) None at =
    let back = answer_at false s stable v u at in
    let first = but_less s good v u None at back in
    let second = partner_less s good u v back at in
    let all = pair_point_cost s v u None at back in
    omega (arith, first, second, all)
point_less s good stable v (Some u) (Some w) at =
    let most = 2 * (single_neighbours_but s v (Some w) + single_neighbours s u) + 4 in
    let back = answer_at false s stable v u at in
    let first = but_less s good v u (Some w) at back in
    let second = partner_less s good u v back at in
    let all = pair_point_cost s v u (Some w) at back in
    ⊎_elim
    (λ same. let is = cond-true {A = ℕ} (nat_eq u w) 0 most same in omega (arith, is))
    (λ apart. let is = cond-false {A = ℕ} (nat_eq u w) 0 most apart in omega (arith, first, second, all, is))
    (cases_Bool (nat_eq u w))

pub silent_cost_is_less : SilentCostIsLess
silent_cost_is_less s good stable (Unlink a b) = grind (arith, mutual_is, partner_less, cond-true, points_from, cond-false, cases_Bool)
silent_cost_is_less s good stable (Leave a) = grind (arith, partner_less)
silent_cost_is_less s good stable (Link a b) = grind arith
silent_cost_is_less s good stable (Point a target) = point_less s good stable a (pointer s a) target refl
silent_cost_is_less s good stable event = omega arith

-- ---- a pointer that is there

set_own : {X : Type 0} (xs : List X) (v : ℕ) (d : X) → set xs v (get_or xs v d) ≡ xs
set_own [] v d = refl
set_own (x ∷ xs) zero d = refl
set_own (x ∷ xs) (suc v) d = ap (λ l. x ∷ l) (set_own xs v d)

pub rewriting_changes_nothing : RewritingChangesNothing
rewriting_changes_nothing t s spent v after answers = grind (arith, set_own)
