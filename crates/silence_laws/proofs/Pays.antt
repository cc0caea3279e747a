-- The silent costs pay for all moves, and changing the pointer of a pair costs less than the table's cost.
use Rattle.silence_laws.proofs.Prelude.{◌≡◌, ℕ, ◌+◌, ◌*◌, ◌≤◌, false, cond, not, ◌&&◌, Option, None, Some, nat_eq, refl, ap, ◌∙◌, subst, ⊎_elim, arith, ◌||◌, sym, is_some, is_none, cond-false, ne_eqb, cases_eq, same_Some, none-some, leave_has, point_parts, hsu_huang_disturbed, moves_are_paid, hsu_huang_charged, hsu_huang_stable_is_zero, hsu_huang_table, hsu_huang_cost, degree, answered_mild, IsMild, most_if, married_some, answers_keep, Answers, hsu_huang_charge, after_point, hsu_huang, IsStable, State, IsState, pointer, married, Event, Link, Unlink, Point, Leave, Accepted, silent_cost, silent_point_cost, single_neighbours, single_neighbours_but, SilentCostPays, TurnedCostsLess}
use Rattle.silence_laws.proofs.OpenedEdges.{leave_few, unlink_few}
use Rattle.silence_laws.proofs.CostComparison.{null_point_cost, pair_point_cost, partner_less, rewriting_changes_nothing}
use Rattle.silence_laws.proofs.TurnedPointers.{far_few, turned_few}
use Rattle.silence_laws.proofs.UnreachedNodes.{accepted, answer_at, unreached_from, unreached_is_silent}

-- ---- an edge comes

link_few : (s : State) → IsState s → IsStable false s → (spent : ℕ) (a b : ℕ) (after : State) → Answers hsu_huang s spent (Link a b) Accepted after → hsu_huang_charge after ≤ silent_cost s (Link a b)
link_few s good stable spent a b after answers =
    most_if (not (married s a) && not (married s b)) (hsu_huang_charge after) 2
    (λ both. omega (arith, hsu_huang_disturbed s good spent (Link a b) after answers, hsu_huang_stable_is_zero s good stable))
    (λ one. unreached_is_silent s good stable spent (Link a b) after answers (unreached_from s (Link a b) (λ v. ap (λ c. c && (nat_eq v a || nat_eq v b)) one) (λ v. refl)))

-- ---- a pointer is written

-- in a pair, and away from the partner
turned : (s : State) → IsState s → IsStable false s → (spent : ℕ) (v u : ℕ) (target : Option ℕ) (after : State) → Answers hsu_huang s spent (Point v target) Accepted after → pointer s v ≡ Some u → (target ≡ Some u → ⊥) → (hsu_huang_charge after ≤ 2 * (single_neighbours_but s v target + single_neighbours s u) + 3 * cond (is_some target) 1 0 + 1) × (hsu_huang_charge after + cond (is_none target) 3 2 ≤ hsu_huang_cost s (Point v target))
turned s good stable spent v u target after answers at away =
    let may = accepted hsu_huang s spent (Point v target) after answers in
    let back = answer_at false s stable v u at in
    let near = (point_parts hsu_huang s v target may.0).1 in
    let good' = subst IsState may.1 (answers_keep hsu_huang hsu_huang_table s good spent (Point v target) Accepted after answers) in
    let few = turned_few s v u target good stable at back away near good' in
    let far = far_few s v u target good stable at back away near good' in
    let same = ap hsu_huang_charge may.1 in
    (omega (arith, few, same), saved target few far (partner_less s good u v back at) (pair_point_cost s v u target at back) same)
  where
    saved : (o : Option ℕ) → hsu_huang_charge (after_point s v target) ≤ 2 * (single_neighbours_but s v target + single_neighbours s u) + 3 * cond (is_some o) 1 0 + 1 → single_neighbours_but s v target + 1 + cond (is_some o) 1 0 ≤ degree s.network v → single_neighbours s u + 1 ≤ degree s.network u → hsu_huang_cost s (Point v target) ≡ 2 * (degree s.network v + degree s.network u) → hsu_huang_charge after ≡ hsu_huang_charge (after_point s v target) → hsu_huang_charge after + cond (is_none o) 3 2 ≤ hsu_huang_cost s (Point v target)
    saved None few far other cost same = omega (arith, few, far, other, cost, same)
    saved (Some w) few far other cost same = omega (arith, few, far, other, cost, same)

-- as it was
same_few : (s : State) → IsState s → IsStable false s → (spent : ℕ) (v : ℕ) (target : Option ℕ) (after : State) → Answers hsu_huang s spent (Point v target) Accepted after → pointer s v ≡ target → hsu_huang_charge after ≡ 0
same_few s good stable spent v target after answers is = grind (arith, rewriting_changes_nothing, hsu_huang_stable_is_zero)

point_few : (s : State) → IsState s → IsStable false s → (spent : ℕ) (v : ℕ) (o target : Option ℕ) (after : State) → Answers hsu_huang s spent (Point v target) Accepted after → pointer s v ≡ o → hsu_huang_charge after ≤ silent_point_cost s v o target
point_few s good stable spent v None None after answers at = let zero = same_few s good stable spent v None after answers at in omega (arith, zero)
point_few s good stable spent v None (Some w) after answers at =
    omega (arith, hsu_huang_disturbed s good spent (Point v (Some w)) after answers, hsu_huang_stable_is_zero s good stable, null_point_cost s stable v (Some w) at)
point_few s good stable spent v (Some u) None after answers at = let few = (turned s good stable spent v u None after answers at (λ e. none-some u e)).0 in omega (arith, few)
point_few s good stable spent v (Some u) (Some w) after answers at =
    ⊎_elim
    (λ same. let zero = same_few s good stable spent v (Some w) after answers (at ∙ ap Some same) in omega (arith, zero))
    (λ apart.
    let few = (turned s good stable spent v u (Some w) after answers at (λ e. apart (sym (same_Some w u e)))).0 in
    let is = cond-false {A = ℕ} (nat_eq u w) 0 (2 * (single_neighbours_but s v (Some w) + single_neighbours s u) + 4) (ne_eqb u w apart) in
    omega (arith, few, is))
    (cases_eq u w)

-- ---- any of them

-- what costs nothing by either table
other_few : (s : State) → IsState s → IsStable false s → (spent : ℕ) (event : Event) (after : State) → Answers hsu_huang s spent event Accepted after → hsu_huang_cost s event ≡ 0 → hsu_huang_charge after ≤ silent_cost s event
other_few s good stable spent event after answers free = grind (arith, hsu_huang_disturbed, hsu_huang_stable_is_zero)

charge_few : (s : State) → IsState s → IsStable false s → (spent : ℕ) (event : Event) (after : State) → Answers hsu_huang s spent event Accepted after → hsu_huang_charge after ≤ silent_cost s event
charge_few s good stable spent (Link a b) after answers = link_few s good stable spent a b after answers
charge_few s good stable spent (Unlink a b) after answers =
    let does = (accepted hsu_huang s spent (Unlink a b) after answers).1 in
    let mild = subst (IsMild hsu_huang s (Unlink a b)) does (answered_mild hsu_huang s spent (Unlink a b) after good answers) in
    subst (λ (u : State). hsu_huang_charge u ≤ silent_cost s (Unlink a b)) (sym does) (unlink_few s a b good stable mild)
charge_few s good stable spent (Leave a) after answers =
    let may = accepted hsu_huang s spent (Leave a) after answers in
    let mild = subst (IsMild hsu_huang s (Leave a)) may.1 (answered_mild hsu_huang s spent (Leave a) after good answers) in
    subst (λ (u : State). hsu_huang_charge u ≤ silent_cost s (Leave a)) (sym may.1) (leave_few s a good stable (leave_has hsu_huang s a may.0) mild)
charge_few s good stable spent (Point v target) after answers = point_few s good stable spent v (pointer s v) target after answers refl
charge_few s good stable spent event after answers = other_few s good stable spent event after answers refl

pub silent_cost_pays : SilentCostPays
silent_cost_pays s good stable spent event after answers log end run calm =
    let good' = answers_keep hsu_huang hsu_huang_table s good spent event Accepted after answers in
    let paid = moves_are_paid hsu_huang 1 hsu_huang_table hsu_huang_charged (record { state = after; spent = 0 }) good' log end run calm in
    let few = charge_few s good stable spent event after answers in
    omega (arith, paid, few)

pub turned_costs_less : TurnedCostsLess
turned_costs_less s good stable spent v target after answers wed away log end run calm =
    let pair = married_some s v wed in
    let good' = answers_keep hsu_huang hsu_huang_table s good spent (Point v target) Accepted after answers in
    let less = (turned s good stable spent v pair.0 target after answers pair.1 (λ e. away (pair.1 ∙ sym e))).1 in
    let paid = moves_are_paid hsu_huang 1 hsu_huang_table hsu_huang_charged (record { state = after; spent = 0 }) good' log end run calm in
    omega (arith, less, paid)
