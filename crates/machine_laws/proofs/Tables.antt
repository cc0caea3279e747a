-- Both tables have the laws that a run needs: targets are neighbours, of rules that take one, and an enabled
-- rule that takes a target has one.
use Rattle.machine_laws.proofs.ChargePrelude.{not, nat_lt, ◌+◌, option_cases, ◌≡◌, ℕ, zero, suc, ◌<◌, Bool, false, ◌&&◌, is_some, IsSome, find, IsTrue, refl, sym, ap, ◌∙◌, ⊎_elim, arith, and_parts, and_from, true≢false, ltb-true, Act, Update, Marry, Seduce, Abandon, linked, neighbours, State, IsState, suits, has_suitor, RuleTable, is_open, least_target, hsu_huang, hsu_huang_opens, manne, may_court, takes_target, near_some, near_found, present_range, linked_present, linked_back, some_is, IsTable, IsFlagless}
use Rattle.machine_laws.proofs.PresentMovers.{hsu_huang_inside, manne_inside}

-- if a neighbour passes a test, and the test is what is allowed, there is a target
target_found : (t : RuleTable) (s : State) (v : ℕ) (act : Act) (test : ℕ → Bool) → IsState s → IsTrue (is_some (find test (neighbours s.network v))) → ((w : ℕ) → IsTrue (linked s.network v w) → IsTrue (test w) → IsTrue (t.allowed s v act w)) → IsSome (least_target t s v act)
target_found t s v act test good h allowed =
    let found = some_is (find test (neighbours s.network v)) h in
    let near = near_some s.network test v found.0 found.1 in
    ap is_some (near_found s.network (t.allowed s v act) v found.0 good.is_network near.0 (allowed found.0 near.0 near.1)).1

-- from a neighbour that v may court up to the greatest one
climb : (s : State) (v : ℕ) → IsState s → (n g : ℕ) → s.network.size < g + n → IsTrue (linked s.network v g) → IsTrue (may_court s v g) → (w : ℕ) × IsTrue (linked s.network v w) × IsTrue (manne.allowed s v Seduce w)
climb s v good zero g high near may =
    let most = (present_range s.network g (linked_present s.network g v good.is_network (linked_back s.network g v ∙ near))).1 in absurd (omega (arith, high, most))
climb s v good (suc n) g high near may =
    ⊎_elim
    (λ none. (g, near, and_from _ _ (and_from (linked s.network v g) (may_court s v g) near may) (ap (λ o. not (is_some o)) none)))
    (λ (x, found).
    let next = near_some s.network (λ x. may_court s v x && nat_lt g x) v x found in
    let parts = and_parts (may_court s v x) (nat_lt g x) next.1 in
    climb s v good n x (let up = ltb-true g x parts.1 in omega (arith, high, up)) next.0 parts.0)
    (option_cases (find (λ x. may_court s v x && nat_lt g x) (neighbours s.network v)))

-- v's greatest neighbour that it may court exists if there is any
court_found : (s : State) (v : ℕ) → IsState s → IsTrue (is_some (find (may_court s v) (neighbours s.network v))) → IsSome (least_target manne s v Seduce)
court_found s v good h =
    let found = some_is (find (may_court s v) (neighbours s.network v)) h in
    let near = near_some s.network (may_court s v) v found.0 found.1 in
    let top = climb s v good (s.network.size + 1) found.0 (omega arith) near.0 near.1 in
    ap is_some (near_found s.network (manne.allowed s v Seduce) v top.0 good.is_network top.1 top.2).1

-- only Marry and Seduce take a target
with_target : (allowed : Act → Bool) → allowed Update ≡ false → allowed Abandon ≡ false → (act : Act) → IsTrue (allowed act) → IsTrue (takes_target act)
with_target allowed none_up none_away act h = grind arith

-- so there is a target if these two find one
has_by : (t : RuleTable) (s : State) (v : ℕ) → (IsTrue (t.guard s v Marry) → IsSome (least_target t s v Marry)) → (IsTrue (t.guard s v Seduce) → IsSome (least_target t s v Seduce)) → (act : Act) → IsTrue (t.guard s v act) → IsTrue (takes_target act) → IsSome (least_target t s v act)
has_by t s v marry seduce Marry h taken = marry h
has_by t s v marry seduce Seduce h taken = seduce h
has_by t s v marry seduce act h taken = absurd (true≢false (sym taken))

pub hsu_huang_table : IsTable hsu_huang
hsu_huang_table = record {
  allowed_is_neighbour = hsu_huang_inside.near;
  allowed_takes_target = λ s v act w h. with_target (λ a. hsu_huang.allowed s v a w) refl refl act h;
  has_target = λ s v act good h taken. has_by hsu_huang s v
      (λ h. target_found hsu_huang s v Marry (suits s v) good (and_parts _ (has_suitor s v) h).1 (λ w near passes. and_from (linked s.network v w) (suits s v w) near passes))
      (λ h. target_found hsu_huang s v Seduce (is_open hsu_huang_opens s) good (and_parts _ _ h).1 (λ w near passes. and_from (linked s.network v w) (is_open hsu_huang_opens s w) near passes))
      act h taken;
}

pub manne_table : IsTable manne
manne_table = record {
  allowed_is_neighbour = manne_inside.near;
  allowed_takes_target = λ s v act w h. with_target (λ a. manne.allowed s v a w) refl refl act h;
  has_target = λ s v act good h taken. has_by manne s v
      (λ h. target_found manne s v Marry (suits s v) good (and_parts _ (has_suitor s v) h).1 (λ w near passes. and_from (linked s.network v w) (suits s v w) near passes))
      (λ h. court_found s v good (and_parts _ _ h).1)
      act h taken;
}

-- a table without flags writes none
pub hsu_huang_flagless : IsFlagless hsu_huang
hsu_huang_flagless unused s v = refl

pub manne_flagless : IsFlagless manne
manne_flagless unused s v = absurd (true≢false unused)
