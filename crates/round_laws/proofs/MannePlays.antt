-- By Manne's rules: what each rule lets a node do, and which nodes no rule lets move.
use Rattle.round_laws.proofs.Prelude.{◌≡◌, ◌≢◌, ℕ, ◌<◌, inl, ⊎_elim, Bool, true, false, cond, not, ◌&&◌, None, Some, is_some, IsTrue, find, nat_lt, refl, sym, ap, ◌∙◌, arith, and_from, and_parts, false_from_ne_true, true≢false, ltb-true, none-some, same_Some, Act, Update, Marry, Seduce, Abandon, linked, present, neighbours, State, IsState, pointer, flag, married, suits, has_suitor, rule_at, manne, manne_guard, may_court, manne_asks, manne_inside, wish_refusal, BadTarget, near_fails, points_from, suitor_some, null_unmarried, unanswered_unmarried, married_from}
use Rattle.dense_laws.proofs.HighPairs.{IsPaired, null_alone, unanswered_alone}
use Rattle.dense_laws.proofs.Plays.{IsPlayed, played_by, updated_by}
use Rattle.round_laws.proofs.ManneGuards.{wrong_enabled, marry_enabled, seduce_enabled, abandon_enabled, abandon_is, seduce_is, court_by, court_is}

-- the rules in their order
rule_is : (s : State) (v : ℕ) (update marry seduce abandon : Bool) → manne_guard s v Update ≡ update → manne_guard s v Marry ≡ marry → manne_guard s v Seduce ≡ seduce → manne_guard s v Abandon ≡ abandon → rule_at manne s v ≡ cond update (Some Update) (cond marry (Some Marry) (cond seduce (Some Seduce) (cond abandon (Some Abandon) None)))
rule_is s v update marry seduce abandon a b c d = grind arith

wished : (s : State) (v w : ℕ) (act : Act) → IsTrue (manne.allowed s v act w) → wish_refusal (manne.allowed s v act) (Some w) ≡ None
wished s v w act allowed = ap (λ b. cond b None (Some BadTarget)) allowed

-- a node with a right flag does not update
update_off : (s : State) (v : ℕ) → flag s v ≡ married s v → manne.guard s v Update ≡ false
update_off s v right = false_from_ne_true (manne.guard s v Update) (λ guard. (manne_asks.update s v guard).1 right)

marry_off : (s : State) (v : ℕ) → ((u : ℕ) → pointer s v ≡ None → pointer s u ≡ Some v → ⊥) → manne.guard s v Marry ≡ false
marry_off s v none = false_from_ne_true (manne.guard s v Marry) (λ guard. let asks = manne_asks.marry s v guard in none asks.1.0 asks.0 asks.1.1)

seduce_off : (s : State) (v w : ℕ) → pointer s v ≡ Some w → manne.guard s v Seduce ≡ false
seduce_off s v w at = false_from_ne_true (manne.guard s v Seduce) (λ guard. none-some w (sym (manne_asks.seduce s v guard).0 ∙ at))

-- an unmarried node that is not flagged has a right flag
null_right : (s : State) (v : ℕ) → pointer s v ≡ None → flag s v ≡ false → flag s v ≡ married s v
null_right s v null off = off ∙ sym (null_unmarried s v null)

unanswered_right : (s : State) (v w : ℕ) → pointer s v ≡ Some w → pointer s w ≢ Some v → flag s v ≡ false → flag s v ≡ married s v
unanswered_right s v w at apart off = off ∙ sym (unanswered_unmarried s v w at apart)

-- ---- moves

pub may_update : (s : State) → IsState s → (v : ℕ) → IsTrue (present s.network v) → flag s v ≡ not (married s v) → IsPlayed manne s v (pointer s v) (married s v)
may_update s good v has wrong =
    updated_by manne manne_inside s good v has
    (rule_is s v true (manne_guard s v Marry) (manne_guard s v Seduce) (manne_guard s v Abandon) (wrong_enabled s v wrong) refl refl refl)

pub may_take : (s : State) → IsState s → (v w : ℕ) → IsTrue (present s.network v) → IsTrue (linked s.network v w) → pointer s v ≡ None → flag s v ≡ false → pointer s w ≡ Some v → IsPlayed manne s v (Some w) (flag s v)
may_take s good v w has near null off suitor =
    played_by manne manne_inside s good v Marry (Some w) has
    (rule_is s v false true (manne_guard s v Seduce) (manne_guard s v Abandon) (update_off s v right) (marry_enabled s good v w right null suitor) refl refl)
    (wished s v w Marry allowed) (allowed, λ h. refl) refl
  where
    right : flag s v ≡ married s v
    right = null_right s v null off

    allowed : IsTrue (manne.allowed s v Marry w)
    allowed = and_from (linked s.network v w) (suits s v w) near (points_from s w v suitor)

-- w is the greatest null neighbour of v
pub may_court_top : (s : State) → IsState s → (v w : ℕ) → IsTrue (present s.network v) → IsTrue (linked s.network v w) → v < w → pointer s v ≡ None → flag s v ≡ false → pointer s w ≡ None → flag s w ≡ false → ((u : ℕ) → pointer s u ≡ Some v → ⊥) → ((x : ℕ) → w < x → IsTrue (linked s.network v x) → pointer s x ≡ None → ⊥) → IsPlayed manne s v (Some w) (flag s v)
may_court_top s good v w has near up null off free off_too unsuited greatest =
    played_by manne manne_inside s good v Seduce (Some w) has
    (rule_is s v false false true (manne_guard s v Abandon)
    (update_off s v right)
    (marry_off s v (λ u gone suits. unsuited u suits))
    (seduce_enabled s good v w right near up null (false_from_ne_true (has_suitor s v) (λ h. let some = suitor_some s v h in unsuited some.0 some.1)) free off_too)
    refl)
    (wished s v w Seduce allowed) (allowed, λ h. refl) refl
  where
    right : flag s v ≡ married s v
    right = null_right s v null off

    none_above : (x : ℕ) → IsTrue (linked s.network v x) → (may_court s v x && nat_lt w x) ≡ false
    none_above x by = false_from_ne_true (may_court s v x && nat_lt w x) (λ h.
        let both = and_parts (may_court s v x) (nat_lt w x) h in
        greatest x (ltb-true w x both.1) by (court_is (pointer s x) (flag s x) v x both.0).0)

    allowed : IsTrue (manne.allowed s v Seduce w)
    allowed =
        and_from (linked s.network v w && may_court s v w) (not (is_some (find (λ x. may_court s v x && nat_lt w x) (neighbours s.network v))))
        (and_from (linked s.network v w) (may_court s v w) near (court_by (pointer s w) (flag s w) v w free off_too up))
        (ap (λ o. not (is_some o)) (near_fails s.network (λ x. may_court s v x && nat_lt w x) v none_above))

pub may_leave : (s : State) → IsState s → (v w : ℕ) → IsTrue (present s.network v) → pointer s v ≡ Some w → pointer s w ≢ Some v → flag s v ≡ false → flag s w ≡ true → IsPlayed manne s v None (flag s v)
may_leave s good v w has at apart off on =
    played_by manne manne_inside s good v Abandon None has
    (rule_is s v false false false true
    (update_off s v right)
    (marry_off s v (λ u gone suits. none-some w (sym gone ∙ at)))
    (seduce_off s v w at)
    (abandon_enabled s v w right at apart (inl on)))
    refl refl refl
  where
    right : flag s v ≡ married s v
    right = unanswered_right s v w at apart off

-- ---- nodes that no rule lets move

-- a flagged node of a pair
pub paired_idle : (s : State) → IsState s → (v : ℕ) (act : Act) → IsPaired (pointer s) v → flag s v ≡ true → IsTrue (manne.guard s v act) → ⊥
paired_idle s good v Update pair on guard = (manne_asks.update s v guard).1 (on ∙ sym (married_from s v pair.0 good pair.1 pair.2))
paired_idle s good v Marry pair on guard = null_alone (pointer s) v (manne_asks.marry s v guard).0 pair
paired_idle s good v Seduce pair on guard = null_alone (pointer s) v (manne_asks.seduce s v guard).0 pair
paired_idle s good v Abandon pair on guard = let asks = manne_asks.abandon s v guard in unanswered_alone (pointer s) v asks.0 asks.1 asks.2 pair

-- a node that points in vain at one above it that is not flagged
pub waiting_idle : (s : State) (v w : ℕ) (act : Act) → pointer s v ≡ Some w → pointer s w ≢ Some v → flag s v ≡ false → flag s w ≡ false → v < w → IsTrue (manne.guard s v act) → ⊥
waiting_idle s v w Update at apart off off_too below guard = (manne_asks.update s v guard).1 (unanswered_right s v w at apart off)
waiting_idle s v w Marry at apart off off_too below guard = none-some w (sym (manne_asks.marry s v guard).0 ∙ at)
waiting_idle s v w Seduce at apart off off_too below guard = none-some w (sym (manne_asks.seduce s v guard).0 ∙ at)
waiting_idle s v w Abandon at apart off off_too below guard =
    let aim = abandon_is s v guard in
    let same : aim.0 ≡ w = same_Some aim.0 w (sym aim.1 ∙ at) in
    ⊎_elim (λ on. true≢false (sym on ∙ ap (flag s) same ∙ off_too)) (λ low. absurd (omega (arith, low, same, below))) aim.3

-- a null node with no suitor, and no null neighbour above it
pub top_idle : (s : State) (v : ℕ) (act : Act) → pointer s v ≡ None → flag s v ≡ false → ((u : ℕ) → pointer s u ≡ Some v → ⊥) → ((x : ℕ) → v < x → IsTrue (linked s.network v x) → pointer s x ≡ None → ⊥) → IsTrue (manne.guard s v act) → ⊥
top_idle s v Update null off unsuited greatest guard = (manne_asks.update s v guard).1 (null_right s v null off)
top_idle s v Marry null off unsuited greatest guard = let asks = manne_asks.marry s v guard in unsuited asks.1.0 asks.1.1
top_idle s v Seduce null off unsuited greatest guard = let aim = seduce_is s v guard in greatest aim.0 aim.3 aim.1 aim.2
top_idle s v Abandon null off unsuited greatest guard = let aim = abandon_is s v guard in none-some aim.0 (sym null ∙ aim.1)
