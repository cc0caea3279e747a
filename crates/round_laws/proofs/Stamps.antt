-- Rounds by stamps are rounds by pending nodes: a node waits exactly if it is pending.
use Rattle.round_laws.proofs.Prelude.{◌≡◌, ◌≢◌, ℕ, ◌+◌, ◌<◌, ◌≤◌, Bool, false, cond, not, ◌&&◌, ◌||◌, List, [], ◌∷◌, count_by, is_some, is_none, Option, nat_lt, IsTrue, refl, sym, ap, ◌∙◌, subst, inl, ⊎_elim, arith, and_from, and_parts, cases_lt, not-true, not_from_false, eq-eqb, ne_eqb, ltb-true, lt-ltb, All-head, All-tail, Act, Moved, Event, Reply, Accepted, Moves, names, State, RuleTable, rule_at, enabled_names, Entry, followed, IsUndisturbed, IsIn, names_without_repeats, is_mover_in, stays_pending, round_turn, rounds_from, rounds_in, one_count, count_exists}
use Rattle.round_laws.proofs.Counting.{left, in_kept}
use Rattle.round_laws.proofs.Compare.{kept_in, left_is}
use Rattle.round_laws.specs.Stamps.{is_waiting, stamps_after, round_after, round_from, round_reached, cut_by, cuts_in}

-- the pending nodes are those that wait, and no stamp is newer than the round
record Agrees (t : RuleTable) (s : State) (pending : List ℕ) (round : ℕ) (stamp : ℕ → ℕ) : Type 0 where
  waits : (v : ℕ) → IsIn v pending → IsTrue (is_waiting t s round stamp v) × IsIn v (names s.network)
  pends : (v : ℕ) → IsTrue (is_waiting t s round stamp v) → IsIn v (names s.network) → IsIn v pending
  old : (v : ℕ) → stamp v ≤ round

-- ---- a step

kept_stamp : (moved now : Bool) (was : Option Act) (round old : ℕ) → moved ≡ false → IsTrue (is_some was) → cond (moved || (now && is_none was)) round old ≡ old
kept_stamp moved now was round old idle some = grind arith

-- a stamp older than the round is kept, and so its node did not move, and was enabled if it is
older_stamp : (moved now : Bool) (was : Option Act) (round old : ℕ) → cond (moved || (now && is_none was)) round old < round → IsTrue now → (moved ≡ false) × IsTrue (is_some was) × (old < round)
older_stamp moved now was round old below on = grind arith

stamp_most : (new : Bool) (round old : ℕ) → old ≤ round → cond new round old ≤ round
stamp_most new round old le = grind arith

module _ (t : RuleTable) (s s' : State) (moves : List Moved) (same : names s'.network ≡ names s.network) (pending : List ℕ) (round : ℕ) (stamp : ℕ → ℕ) (it : Agrees t s pending round stamp) where
  abbrev then : ℕ → ℕ
  then = stamps_after t s moves s' round stamp

  old_then : (v : ℕ) → then v ≤ round
  old_then v = stamp_most (is_mover_in moves v || (is_some (rule_at t s' v) && is_none (rule_at t s v))) round (stamp v) (it.old v)

  left_waits : (v : ℕ) → IsIn v (left t moves s' pending) → IsTrue (is_waiting t s' round then v) × IsIn v (names s'.network)
  left_waits v there =
      let is = left_is t moves s' pending v there in
      let was = it.waits v is.2 in
      let both = and_parts (is_some (rule_at t s v)) (nat_lt (stamp v) round) was.0 in
      let kept = kept_stamp (is_mover_in moves v) (is_some (rule_at t s' v)) (rule_at t s v) round (stamp v) (not-true (is_mover_in moves v) is.0) both.0 in
      (and_from (is_some (rule_at t s' v)) (nat_lt (then v) round) is.1 (ap (λ n. nat_lt n round) kept ∙ both.1), subst (λ xs. IsIn v xs) (sym same) was.1)

  waits_left : (v : ℕ) → IsTrue (is_waiting t s' round then v) → IsIn v (names s'.network) → IsIn v (left t moves s' pending)
  waits_left v waits there =
      let both = and_parts (is_some (rule_at t s' v)) (nat_lt (then v) round) waits in
      let old = older_stamp (is_mover_in moves v) (is_some (rule_at t s' v)) (rule_at t s v) round (stamp v) (ltb-true (then v) round both.1) both.0 in
      in_kept (stays_pending t moves s') v pending
      (and_from (not (is_mover_in moves v)) (is_some (rule_at t s' v)) (not_from_false (is_mover_in moves v) old.0) both.0)
      (it.pends v (and_from (is_some (rule_at t s v)) (nat_lt (stamp v) round) old.1 (lt-ltb (stamp v) round old.2)) (subst (λ xs. IsIn v xs) same there))

-- ---- whether the round is complete

none_waits : (t : RuleTable) (s : State) (round : ℕ) (stamp : ℕ → ℕ) → ((v : ℕ) → IsTrue (is_waiting t s round stamp v) → IsIn v (names s.network) → ⊥) → round_after t s round stamp ≡ round + 1
none_waits t s round stamp none =
    ⊎_elim
    (λ (few : count_by (is_waiting t s round stamp) (names s.network) < 1).
    ap (λ b. cond b (round + 1) round) (eq-eqb (count_by (is_waiting t s round stamp) (names s.network)) 0 (omega (arith, few))))
    (λ (some : 1 ≤ count_by (is_waiting t s round stamp) (names s.network)).
    let found = count_exists (is_waiting t s round stamp) (names s.network) some in absurd (none found.0 found.2 found.1))
    (cases_lt (count_by (is_waiting t s round stamp) (names s.network)) 1)

one_waits : (t : RuleTable) (s : State) (round : ℕ) (stamp : ℕ → ℕ) (v : ℕ) → IsTrue (is_waiting t s round stamp v) → IsIn v (names s.network) → round_after t s round stamp ≡ round
one_waits t s round stamp v waits there =
    let one = one_count (is_waiting t s round stamp) (names s.network) v there waits in
    ap (λ b. cond b (round + 1) round) (ne_eqb (count_by (is_waiting t s round stamp) (names s.network)) 0 (λ none. absurd (omega (arith, one, none))))

-- ---- a log

-- so many rounds follow from a state with these pending nodes and stamps, each disturbance begun one more
abbrev IsStamped : RuleTable → State → List Entry → Type 0
IsStamped t s log = (pending : List ℕ) (round : ℕ) (stamp : ℕ → ℕ) → Agrees t s pending round stamp → round_from t s round stamp log ≡ round + rounds_from t s pending log + cuts_in log

-- if no stamp is newer than the round before, the enabled nodes wait in the round
all_wait : (t : RuleTable) (s : State) (round : ℕ) (stamp : ℕ → ℕ) → ((v : ℕ) → stamp v ≤ round) → Agrees t s (enabled_names t s) (round + 1) stamp
all_wait t s round stamp old = record {
  waits = λ v there. let kept = kept_in (λ v. is_some (rule_at t s v)) v (names s.network) there in
      (and_from (is_some (rule_at t s v)) (nat_lt (stamp v) (round + 1)) kept.0 (lt-ltb (stamp v) (round + 1) (let old = old v in omega (arith, old))), kept.1);
  pends = λ v waits there. in_kept (λ v. is_some (rule_at t s v)) v (names s.network) (and_parts (is_some (rule_at t s v)) (nat_lt (stamp v) (round + 1)) waits).0 there;
  old = λ v. let old = old v in omega (arith, old);
}

-- the rounds after a step that led to s, with these nodes left pending and these stamps
turn_stamped : (t : RuleTable) (s : State) (log : List Entry) → IsStamped t s log → (xs : List ℕ) (round : ℕ) (stamp : ℕ → ℕ) → Agrees t s xs round stamp → round_from t s (round_after t s round stamp) stamp log ≡ round + ((round_turn t s xs).0 + rounds_from t s (round_turn t s xs).1 log) + (0 + cuts_in log)
turn_stamped t s log more [] round stamp it =
    let next = none_waits t s round stamp (λ v waits there. it.pends v waits there) in
    omega (arith, ap (λ r. round_from t s r stamp log) next, more (enabled_names t s) (round + 1) stamp (all_wait t s round stamp it.old))
turn_stamped t s log more (x ∷ xs) round stamp it =
    let first = it.waits x (inl refl) in
    omega (arith, ap (λ r. round_from t s r stamp log) (one_waits t s round stamp x first.0 first.1), more (x ∷ xs) round stamp it)

entry_stamped : (t : RuleTable) (s : State) (event : Event) (reply : Reply) (log : List Entry) → IsStamped t (followed s event reply) log → IsStamped t s ((event, reply) ∷ log)
entry_stamped t s event (Moves moves) log more pending round stamp it =
    turn_stamped t (followed s event (Moves moves)) log more (left t moves (followed s event (Moves moves)) pending) round (stamps_after t s moves (followed s event (Moves moves)) round stamp) (record {
      waits = left_waits t s (followed s event (Moves moves)) moves refl pending round stamp it;
      pends = waits_left t s (followed s event (Moves moves)) moves refl pending round stamp it;
      old = old_then t s (followed s event (Moves moves)) moves refl pending round stamp it;
    })
entry_stamped t s event Accepted log more pending round stamp it =
    omega (arith, more (enabled_names t (followed s event Accepted)) (round + 1) stamp (all_wait t (followed s event Accepted) round stamp it.old))
entry_stamped t s event reply log more pending round stamp it = omega (arith, more pending round stamp it)

log_stamped : (t : RuleTable) (s : State) (log : List Entry) → IsStamped t s log
log_stamped t s [] pending round stamp it = omega arith
log_stamped t s (entry ∷ log) pending round stamp it =
    entry_stamped t s entry.0 entry.1 log (log_stamped t (followed s entry.0 entry.1) log) pending round stamp it

uncut : (log : List Entry) → IsUndisturbed log → cuts_in log ≡ 0
uncut [] calm = refl
uncut (entry ∷ log) calm =
    let first = calm_reply entry.1 (All-head (λ e. e.1 ≢ Accepted) entry log calm) in
    let rest = uncut log (All-tail (λ e. e.1 ≢ Accepted) entry log calm) in
    omega (arith, first, rest)
  where
    calm_reply : (reply : Reply) → reply ≢ Accepted → cut_by reply ≡ 0
    calm_reply Accepted calm = absurd (calm refl)
    calm_reply reply calm = refl

pub rounds_are_stamped : (t : RuleTable) (s : State) (log : List Entry) → round_reached t s log ≡ rounds_in t s log + cuts_in log + 1
rounds_are_stamped t s log = omega (arith, log_stamped t s log (enabled_names t s) 1 (λ v. 0) (all_wait t s 0 (λ v. 0) (λ v. omega arith)))

pub undisturbed_rounds_are_stamped : (t : RuleTable) (s : State) (log : List Entry) → IsUndisturbed log → round_reached t s log ≡ rounds_in t s log + 1
undisturbed_rounds_are_stamped t s log calm = omega (arith, rounds_are_stamped t s log, uncut log calm)
