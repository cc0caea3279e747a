-- A counter before an entry and after it.
use Rattle.round_counter.proofs.Prelude.{◌≡◌, ℕ, zero, suc, nat_eq, ◌+◌, ◌≤◌, Bool, true, false, cond, not, ◌&&◌, List, [], ◌∷◌, ◌++◌, append_assoc, length, min, filter, is_some, IsTrue, refl, sym, ap, ◌∙◌, subst, inl, inr, arith, and_from, and_parts, not_from_false, is_mover_in, true≢false, false_from_ne_true, nil_from_length, IsIn, in_kept, kept_in, is_in, members, AreNoted, RemovedNames, names, present, in_names, names_present, Network, State, Event, Reply, Accepted, Moves, Moved, after_moves, followed, RuleTable, rule_at, enabled_names, Entry, stays_pending, round_turn, rounds_by, rounds_from, rounds_in, RoundCount, first_count, next_count, RoundCounter, AreEnabledIn, HasCounted, CanCount, is_step, count_in, start_after, log_after, pending_names}
use Rattle.round_counter.proofs.Bits.{member_in, in_member}
use Rattle.round_counter.proofs.Serving.{LeavesPending}

both_ways : (a b : Bool) → (a ≡ true → b ≡ true) → (b ≡ true → a ≡ true) → a ≡ b
both_ways a b h k = grind arith

-- tests that agree on a list keep the same of it
kept_alike : (p q : ℕ → Bool) (xs : List ℕ) → ((v : ℕ) → IsIn v xs → p v ≡ q v) → filter p xs ≡ filter q xs
kept_alike p q [] h = refl
kept_alike p q (x ∷ xs) h = let first = h x (inl refl) in let rest = kept_alike p q xs (λ v there. h v (inr there)) in grind arith

kept_twice : (p q : ℕ → Bool) (xs : List ℕ) → filter p (filter q xs) ≡ filter (λ x. q x && p x) xs
kept_twice p q [] = refl
kept_twice p q (x ∷ xs) = let rest = kept_twice p q xs in grind arith

-- ---- the enabled nodes as a set

on_names : (t : RuleTable) (s : State) (e : List Bool) (v : ℕ) → members e ≡ enabled_names t s → is_in e v ≡ true → IsTrue (present s.network v) × IsTrue (is_some (rule_at t s v))
on_names t s e v is on =
    let kept = kept_in (λ v. is_some (rule_at t s v)) v (names s.network) (subst (λ xs. IsIn v xs) is (member_in e v on)) in
    (names_present s.network v kept.1, kept.0)

on_is : (t : RuleTable) (s : State) (e : List Bool) (v : ℕ) → members e ≡ enabled_names t s → IsTrue (present s.network v) → is_in e v ≡ is_some (rule_at t s v)
on_is t s e v is here =
    both_ways (is_in e v) (is_some (rule_at t s v))
    (λ on. (on_names t s e v is on).1)
    (λ rule. in_member e v (subst (λ xs. IsIn v xs) (sym is) (in_kept (λ v. is_some (rule_at t s v)) v (names s.network) rule (in_names s.network v here))))

-- ---- before a step

-- the set has the nodes that were pending
pub listed : (t : RuleTable) (s : State) (e : List Bool) (old new : RoundCounter) → old.is_new ≡ true → new.is_new ≡ false → new.rounds ≡ old.rounds → ((v : ℕ) → is_in new.pending v ≡ is_in e v) → members e ≡ enabled_names t s → count_in t s new ≡ count_in t s old
listed t s e old new whole ready rounds same is = λ i. record { rounds = rounds i; pending = pending i }
  where
    pending : pending_names t s new ≡ pending_names t s old
    pending =
        ap (λ b. cond b (enabled_names t s) (filter (is_in new.pending) (names s.network))) ready
        ∙ kept_alike (is_in new.pending) (λ v. is_some (rule_at t s v)) (names s.network) (λ v there. same v ∙ on_is t s e v is (names_present s.network v there))
        ∙ sym (ap (λ b. cond b (enabled_names t s) (filter (is_in old.pending) (names s.network))) whole)

pub begun : (t : RuleTable) (start : State) (log : List Entry) (s : State) (e : List Bool) (old new : RoundCounter) → old.is_new ≡ true → new.is_new ≡ false → new.rounds ≡ old.rounds → ((v : ℕ) → is_in new.pending v ≡ is_in e v) → members e ≡ enabled_names t s → HasCounted t start log s old → HasCounted t start log s new
begun t start log s e old new whole ready rounds same is it =
    let both = listed t s e old new whole ready rounds same is in record {
      rounds = rounds ∙ it.rounds;
      later = λ rest. it.later rest ∙ ap (λ (c : RoundCount). c.rounds + rounds_from t s c.pending rest) (sym both);
      enabled = λ _ v there. on_names t s e v is (sym (same v) ∙ there);
    }

-- ---- after an entry

-- a counter at its beginning
fresh : (t : RuleTable) (s : State) (c : RoundCounter) → count_in t s c ≡ first_count t s → AreEnabledIn t s c → HasCounted t s [] s c
fresh t s c is enabled = record {
  rounds = ap (λ (n : RoundCount). n.rounds) is;
  later = λ rest. add_zero (rounds_in t s rest) ∙ ap (λ (n : RoundCount). n.rounds + rounds_from t s n.pending rest) (sym is);
  enabled = enabled;
}
  where
    add_zero : (n : ℕ) → n ≡ 0 + n
    add_zero n = omega arith

-- an entry that is no disturbance, by what it does to the pending nodes
one_more : (t : RuleTable) (start : State) (log : List Entry) (s : State) (event : Event) (reply : Reply) (old new : RoundCounter) → HasCounted t start log s old → new.rounds ≡ old.rounds + (rounds_by t (pending_names t s old) reply (followed s event reply)).0 → pending_names t (followed s event reply) new ≡ (rounds_by t (pending_names t s old) reply (followed s event reply)).1 → AreEnabledIn t (followed s event reply) new → HasCounted t start (log ++ (event, reply) ∷ []) (followed s event reply) new
one_more t start log s event reply old new it rounds pending enabled = record {
  rounds = rounds ∙ end old.rounds (rounds_by t (pending_names t s old) reply (followed s event reply)).0 ∙ sym (it.later ((event, reply) ∷ []));
  later = λ rest. ap (rounds_in t start) (append_assoc log ((event, reply) ∷ []) rest) ∙ it.later ((event, reply) ∷ rest)
      ∙ join old.rounds (rounds_by t (pending_names t s old) reply (followed s event reply)).0 _
      ∙ ap (λ n. n + rounds_from t (followed s event reply) (rounds_by t (pending_names t s old) reply (followed s event reply)).1 rest) (sym rounds)
      ∙ ap (λ xs. new.rounds + rounds_from t (followed s event reply) xs rest) (sym pending);
  enabled = enabled;
}
  where
    end : (a b : ℕ) → a + b ≡ a + (b + 0)
    end a b = omega arith

    join : (a b c : ℕ) → a + (b + c) ≡ (a + b) + c
    join a b c = omega arith

add_none : (n : ℕ) → n ≡ n + 0
add_none n = omega arith

-- the count and the members of the set after an entry
abbrev pub IsNext : RuleTable → Reply → State → State → RoundCounter → RoundCounter → Type 0
IsNext t reply s next old new = (count_in t next new ≡ next_count t reply next (count_in t s old)) × AreEnabledIn t next new

-- so the counter has counted the entry too
pub counted_next : (t : RuleTable) (start : State) (log : List Entry) (s : State) (event : Event) (reply : Reply) (old new : RoundCounter) → IsNext t reply s (followed s event reply) old new → HasCounted t start log s old → HasCounted t (start_after start reply (followed s event reply)) (log_after log event reply) (followed s event reply) new
counted_next t start log s event Accepted old new (is, enabled) it = fresh t (followed s event Accepted) new is enabled
counted_next t start log s event reply old new (is, enabled) it = one_more t start log s event reply old new it (ap (λ (c : RoundCount). c.rounds) is) (ap (λ (c : RoundCount). c.pending) is) enabled

same_count : (t : RuleTable) (s : State) (c : RoundCounter) → count_in t s c ≡ record { rounds = c.rounds + 0; pending = pending_names t s c }
same_count t s c = ap (λ (n : ℕ). record { rounds = n; pending = pending_names t s c }) (add_none c.rounds)

-- a question, or a refusal
pub unchanged : (t : RuleTable) (s : State) (event : Event) (reply : Reply) (c : RoundCounter) → ((moves : List Moved) → reply ≡ Moves moves → ⊥) → (reply ≡ Accepted → ⊥) → AreEnabledIn t s c → IsNext t reply s (followed s event reply) c c
unchanged t s event (Moves moves) c quiet calm was = absurd (quiet moves refl)
unchanged t s event Accepted c quiet calm was = absurd (calm refl)
unchanged t s event reply c quiet calm was = (same_count t s c, was)

-- a disturbance
pub begins_anew : (t : RuleTable) (s : State) (event : Event) (reply : Reply) (old c : RoundCounter) → reply ≡ Accepted → c.rounds ≡ 0 → c.is_new ≡ true → IsNext t reply s (followed s event reply) old c
begins_anew t s event reply old c is none new = subst (λ r. IsNext t r s (followed s event r) old c) (sym is) (begun_anew, λ runs v there. absurd (true≢false (sym new ∙ runs)))
  where
    begun_anew : count_in t (followed s event Accepted) c ≡ first_count t (followed s event Accepted)
    begun_anew = λ i. record { rounds = none i; pending = cond (new i) (enabled_names t (followed s event Accepted)) (filter (is_in c.pending) (names (followed s event Accepted).network)) }

-- ---- a step

-- The step left these bits of the old set, and these are the enabled nodes after it.
module _ (t : RuleTable) (s : State) (moves : List Moved) (e : List Bool) (is : members e ≡ enabled_names t (after_moves s moves)) (removed : RemovedNames) (old : RoundCounter) (ready : old.is_new ≡ false) (noted : AreNoted old.pending e removed) (bits : List Bool) (step : LeavesPending e removed moves old.pending bits) where
  left_enabled : (v : ℕ) → IsTrue (is_in bits v) → IsTrue (present s.network v) × IsTrue (is_some (rule_at t (after_moves s moves) v))
  left_enabled v on = on_names t (after_moves s moves) e v is (step.off noted v on)

  -- at a node
  stays_in : (u : ℕ) → IsTrue (present s.network u) → is_in bits u ≡ (is_in old.pending u && stays_pending t moves (after_moves s moves) u)
  stays_in u here =
      both_ways (is_in bits u) (is_in old.pending u && stays_pending t moves (after_moves s moves) u)
      (λ on.
      let left = step.left u on in
      and_from (is_in old.pending u) (stays_pending t moves (after_moves s moves) u) left.0
      (and_from (not (is_mover_in moves u)) (is_some (rule_at t (after_moves s moves) u)) (not_from_false (is_mover_in moves u) left.1) (left_enabled u on).1))
      (λ both.
      let parts = and_parts (is_in old.pending u) (stays_pending t moves (after_moves s moves) u) both in
      let stays = and_parts (not (is_mover_in moves u)) (is_some (rule_at t (after_moves s moves) u)) parts.1 in
      step.stay u parts.0 (on_is t (after_moves s moves) e u is here ∙ stays.1) (not_on (is_mover_in moves u) stays.0))
    where
      not_on : (a : Bool) → not a ≡ true → a ≡ false
      not_on a h = grind arith

  -- the nodes left pending are the members
  left_are : filter (is_in bits) (names s.network) ≡ filter (stays_pending t moves (after_moves s moves)) (pending_names t s old)
  left_are =
      kept_alike (is_in bits) (λ u. is_in old.pending u && stays_pending t moves (after_moves s moves) u) (names s.network) (λ u there. stays_in u (names_present s.network u there))
      ∙ sym (kept_twice (stays_pending t moves (after_moves s moves)) (is_in old.pending) (names s.network))
      ∙ ap (λ b. filter (stays_pending t moves (after_moves s moves)) (cond b (enabled_names t s) (filter (is_in old.pending) (names s.network)))) (sym ready)

none_left : (bits : List Bool) (net : Network) → length (members bits) ≡ 0 → filter (is_in bits) (names net) ≡ []
none_left bits net none =
    let empty = nil_from_length (members bits) none in
    kept_alike (is_in bits) (λ v. false) (names net) (λ v there. false_from_ne_true (is_in bits v) (λ on. subst (λ xs. IsIn v xs) empty (member_in bits v on))) ∙ nothing (names net)
  where
    nothing : (xs : List ℕ) → filter (λ (v : ℕ). false) xs ≡ []
    nothing [] = refl
    nothing (x ∷ xs) = nothing xs

turn_some : (t : RuleTable) (s : State) (xs : List ℕ) (v : ℕ) → IsIn v xs → round_turn t s xs ≡ (0, xs)
turn_some t s [] v there = absurd there
turn_some t s (x ∷ xs) v there = refl

pub some_in : (n : ℕ) → nat_eq n 0 ≡ false → 1 ≤ n
some_in zero some = absurd (true≢false some)
some_in (suc n) some = omega arith

first_member : (xs : List ℕ) → 1 ≤ length xs → (v : ℕ) × IsIn v xs
first_member [] some = absurd (omega (arith, some))
first_member (x ∷ xs) some = (x, inl refl)

-- What the entry does to the counter, if these nodes are enabled then.
abbrev pub Follows : List Bool → RemovedNames → Reply → RoundCounter → RoundCounter → Type 0
Follows e removed reply old new = (t : RuleTable) (s : State) (event : Event) → members e ≡ enabled_names t (followed s event reply) → CanCount reply old → (IsTrue (is_step reply) → AreNoted old.pending e removed) → IsNext t reply s (followed s event reply) old new

-- a step that leaves none pending
pub follows_last : (e : List Bool) (removed : RemovedNames) (reply : Reply) (moves : List Moved) (old new : RoundCounter) → reply ≡ Moves moves → LeavesPending e removed moves old.pending new.pending → length (members new.pending) ≡ 0 → new.rounds ≡ min (old.rounds + 1) 4294967295 → new.is_new ≡ true → Follows e removed reply old new
follows_last e removed reply moves old new at step none more whole = subst (λ r. Follows e removed r old new) (sym at) last
  where
    last : Follows e removed (Moves moves) old new
    last t s event is may noted =
        let room = (may refl).1 in
        let left = sym (left_are t s moves e is removed old (may refl).0 (noted refl) new.pending step) in
        let turn = ap (round_turn t (after_moves s moves)) (left ∙ none_left new.pending s.network none) in
        let one : new.rounds ≡ old.rounds + 1 = omega (arith, more, room) in
        let rounds = one ∙ ap (λ p. old.rounds + p.0) (sym turn) in
        let pending = ap (λ b. cond b (enabled_names t (after_moves s moves)) (filter (is_in new.pending) (names s.network))) whole ∙ ap (λ p. p.1) (sym turn) in
        (λ i. record { rounds = rounds i; pending = pending i }, λ runs v there. absurd (true≢false (sym whole ∙ runs)))

-- a step that leaves one pending
pub follows_more : (e : List Bool) (removed : RemovedNames) (reply : Reply) (moves : List Moved) (old new : RoundCounter) → reply ≡ Moves moves → LeavesPending e removed moves old.pending new.pending → 1 ≤ length (members new.pending) → new.rounds ≡ old.rounds → new.is_new ≡ old.is_new → Follows e removed reply old new
follows_more e removed reply moves old new at step some same_rounds same_new = subst (λ r. Follows e removed r old new) (sym at) more
  where
    more : Follows e removed (Moves moves) old new
    more t s event is may noted =
        let ready = (may refl).0 in
        let left = left_are t s moves e is removed old ready (noted refl) new.pending step in
        let first = first_member (members new.pending) some in
        let on = in_member new.pending first.0 first.1 in
        let here = (left_enabled t s moves e is removed old ready (noted refl) new.pending step first.0 on).0 in
        let there = in_kept (is_in new.pending) first.0 (names s.network) on (in_names s.network first.0 here) in
        let turn = turn_some t (after_moves s moves) _ first.0 (subst (λ xs. IsIn first.0 xs) left there) in
        let rounds = same_rounds ∙ add_none old.rounds ∙ ap (λ p. old.rounds + p.0) (sym turn) in
        let pending = ap (λ b. cond b (enabled_names t (after_moves s moves)) (filter (is_in new.pending) (names s.network))) (same_new ∙ ready) ∙ left ∙ ap (λ p. p.1) (sym turn) in
        (λ i. record { rounds = rounds i; pending = pending i }, λ runs v at. left_enabled t s moves e is removed old ready (noted refl) new.pending step v at)
