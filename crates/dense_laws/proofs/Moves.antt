-- What a move does to the unmarried nodes by their kinds, in pointers alone: the potential falls, and in a
-- trap by more.
--
-- A node that leaves was stuck and becomes idle; the nodes that point at it were stuck and become hoping. A
-- node that courts was idle, has no suitor and becomes hoping, so no node becomes stuck. A node that takes a
-- suitor leaves the unmarried together with it. The other suitors of both become stuck, at most all that are
-- still unmarried; the squares give back four for each of these.
--
-- A trap is a set of nodes that point at each other and not back. All are stuck, and stay so while no node
-- leaves one that is pointed at. The move that opens a trap makes two fewer nodes stuck; one that takes a
-- suitor has four to spare, since two nodes are stuck already.
use Rattle.dense_laws.proofs.Prelude.{◌≡◌, ◌≢◌, ℕ, ◌+◌, ◌*◌, ◌≤◌, Bool, not, ◌&&◌, List, Option, None, Some, is_none, IsTrue, nat_eq, sym, ap, ◌∙◌, inl, inr, ⊎_elim, ◌⊎◌, arith, cases_eq, and_parts, and_from, not-true, not_from_false, false_from_ne_true, true≢false, eq-eqb, ne_eqb, none-some, same_Some, IsIn, IsWithoutRepeats, stance, is_paired, null_is, null_from, paired_from, paired_is, paired_stays, SoloTurn, takes, courts, leaves, IsSolo}
use Rattle.machine_laws.proofs.ListCounts.{count_le, one_count}
use Rattle.dense_laws.proofs.Counts.{count_more, IsGone, count_less, count_less_two, count_two}
use Rattle.dense_laws.proofs.NodeKinds.{is_single, is_idle, is_stuck, singles, idles, stucks, stuck_from, stuck_is, single_free, single_waiting, paired_not_single, kinds_are_all}
use Rattle.dense_laws.proofs.Arithmetic.{Falls, falls_beside, falls_by_two}

-- the pointers are between two of these nodes, and of each it is known whether it has a suitor
pub record IsAmong (p : ℕ → Option ℕ) (xs : List ℕ) : Type 0 where
  pub once : IsWithoutRepeats xs
  pub ends : (v w : ℕ) → p v ≡ Some w → IsIn v xs × IsIn w xs
  pub apart : (v w : ℕ) → p v ≡ Some w → v ≡ w → ⊥
  pub suitors : (y : ℕ) → ((u : ℕ) × (p u ≡ Some y)) ⊎ ((u : ℕ) → p u ≡ Some y → ⊥)

-- from p to p' the potential falls
abbrev pub Lowers : ℕ → (ℕ → Option ℕ) → (ℕ → Option ℕ) → List ℕ → List ℕ → Type 0
Lowers room p p' xs ys = Falls room (singles p xs) (stucks p xs) (idles p xs) (singles p' ys) (stucks p' ys) (idles p' ys)

-- nodes that point at each other, and not back
pub record IsTrap (p : ℕ → Option ℕ) : Type 0 where
  pub inside : ℕ → Bool
  pub first : ℕ
  pub there : IsTrue (inside first)
  pub leads : (v : ℕ) → IsTrue (inside v) → (w : ℕ) × (p v ≡ Some w) × IsTrue (inside w) × (p w ≢ Some v)

-- ---- kinds that stay

-- a node unmarried afterwards was so before
singles_were : (p p' : ℕ → Option ℕ) (x : ℕ) → IsSolo p p' x → (v : ℕ) → IsTrue (is_single p' v) → IsTrue (is_single p v)
singles_were p p' x solo v h = grind (arith, not_from_false, false_from_ne_true, true≢false, paired_stays)

-- if the mover is in no pair afterwards, no pair is new
pairs_were : (p p' : ℕ → Option ℕ) (x : ℕ) → IsSolo p p' x → ((y : ℕ) → p' x ≡ Some y → p' y ≡ Some x → ⊥) → (v : ℕ) → IsTrue (is_paired (stance p' v)) → IsTrue (is_paired (stance p v))
pairs_were p p' x solo none v h = grind (arith, paired_is, paired_from)

singles_stay : (p p' : ℕ → Option ℕ) (x : ℕ) → IsSolo p p' x → ((y : ℕ) → p' x ≡ Some y → p' y ≡ Some x → ⊥) → (v : ℕ) → IsTrue (is_single p v) → IsTrue (is_single p' v)
singles_stay p p' x solo none v h = grind (arith, not_from_false, false_from_ne_true, true≢false, pairs_were)

singles_same : (p p' : ℕ → Option ℕ) (x : ℕ) (xs : List ℕ) → IsSolo p p' x → ((y : ℕ) → p' x ≡ Some y → p' y ≡ Some x → ⊥) → singles p' xs ≡ singles p xs
singles_same p p' x xs solo none = grind (arith, count_le, singles_were, singles_stay)

-- an idle node was idle before, except for the mover
idle_was : (p p' : ℕ → Option ℕ) (x : ℕ) → IsSolo p p' x → (v : ℕ) → (v ≡ x → ⊥) → IsTrue (is_idle p' v) → IsTrue (is_idle p v)
idle_was p p' x solo v apart h = ap is_none (sym (solo.others v apart)) ∙ h

-- a stuck node was stuck before if neither it nor its target moved
stuck_was : (p p' : ℕ → Option ℕ) (x : ℕ) → IsSolo p p' x → (v w : ℕ) → (v ≡ x → ⊥) → (w ≡ x → ⊥) → p' v ≡ Some w → p' w ≢ None → p' w ≢ Some v → IsTrue (is_stuck p v)
stuck_was p p' x solo v w here there at busy apart =
    stuck_from p v w (sym (solo.others v here) ∙ at) (λ null. busy (solo.others w there ∙ null)) (λ back. apart (solo.others w there ∙ back))

-- ---- who leaves

pub record IsLeaving (p p' : ℕ → Option ℕ) (x w : ℕ) : Type 0 where
  pub solo : IsSolo p p' x
  pub at : p x ≡ Some w
  pub alone : p w ≢ Some x
  pub busy : p w ≢ None
  pub now : p' x ≡ None

leaving_stuck : (p p' : ℕ → Option ℕ) (x w : ℕ) → IsLeaving p p' x w → (v : ℕ) → IsTrue (is_stuck p' v) → IsTrue (is_stuck p v)
leaving_stuck p p' x w it v h = grind (arith, stuck_is, stuck_was, none-some)

leaving_gone : (p p' : ℕ → Option ℕ) (x w : ℕ) (xs : List ℕ) → IsAmong p xs → IsLeaving p p' x w → IsGone (is_stuck p') (is_stuck p) xs x
leaving_gone p p' x w xs among it = record {
  there = (among.ends x w it.at).0;
  was = stuck_from p x w it.at it.busy it.alone;
  gone = λ h. let aim = stuck_is p' x h in none-some aim.0 (sym it.now ∙ aim.1);
}

leaving_singles : (p p' : ℕ → Option ℕ) (x w : ℕ) (xs : List ℕ) → IsLeaving p p' x w → singles p' xs ≡ singles p xs
leaving_singles p p' x w xs it = singles_same p p' x xs it.solo (λ y at back. none-some y (sym it.now ∙ at))

leaving_idles : (p p' : ℕ → Option ℕ) (x w : ℕ) (xs : List ℕ) → IsAmong p xs → IsLeaving p p' x w → idles p' xs ≤ idles p xs + 1
leaving_idles p p' x w xs among it = count_more (is_idle p') (is_idle p) x xs among.once (among.ends x w it.at).0 (idle_was p p' x it.solo)

leaving_lowers : (p p' : ℕ → Option ℕ) (x w : ℕ) (xs : List ℕ) → IsAmong p xs → IsLeaving p p' x w → Lowers 2 p p' xs xs
leaving_lowers p p' x w xs among it =
    let idle = leaving_idles p p' x w xs among it in
    let stuck = count_less (is_stuck p') (is_stuck p) x xs among.once (leaving_stuck p p' x w it) (leaving_gone p p' x w xs among it) in
    falls_beside 2 (singles p xs) (stucks p xs) (idles p xs) (singles p' xs) (stucks p' xs) (idles p' xs) (leaving_singles p p' x w xs it) (omega (arith, idle, stuck))

-- its suitor stops being stuck
suitor_gone : (p p' : ℕ → Option ℕ) (x w u : ℕ) (xs : List ℕ) → IsAmong p xs → IsLeaving p p' x w → p u ≡ Some x → (u ≡ x → ⊥) → IsGone (is_stuck p') (is_stuck p) xs u
suitor_gone p p' x w u xs among it suits apart = record {
  there = (among.ends u x suits).0;
  was = stuck_from p u x suits (λ null. none-some w (sym null ∙ it.at)) (λ back. it.alone (ap p (same_Some w u (sym it.at ∙ back)) ∙ suits));
  gone = λ h. let aim = stuck_is p' u h in aim.2 (ap p' (same_Some aim.0 x (sym aim.1 ∙ it.solo.others u apart ∙ suits)) ∙ it.now);
}

leaving_lowers_more : (p p' : ℕ → Option ℕ) (x w u : ℕ) (xs : List ℕ) → IsAmong p xs → IsLeaving p p' x w → p u ≡ Some x → Lowers 6 p p' xs xs
leaving_lowers_more p p' x w u xs among it suits =
    let apart : u ≡ x → ⊥ = λ same. it.alone (ap p (same_Some w x (sym it.at ∙ ap p (sym same) ∙ suits)) ∙ ap p (sym same) ∙ suits) in
    let idle = leaving_idles p p' x w xs among it in
    let stuck = count_less_two (is_stuck p') (is_stuck p) x u xs among.once (leaving_stuck p p' x w it) (leaving_gone p p' x w xs among it) (suitor_gone p p' x w u xs among it suits apart) (λ same. apart (sym same)) in
    falls_beside 6 (singles p xs) (stucks p xs) (idles p xs) (singles p' xs) (stucks p' xs) (idles p' xs) (leaving_singles p p' x w xs it) (omega (arith, idle, stuck))

-- ---- who courts

pub record IsCourting (p p' : ℕ → Option ℕ) (x w : ℕ) : Type 0 where
  pub solo : IsSolo p p' x
  pub null : p x ≡ None
  pub unsuited : (u : ℕ) → p u ≡ Some x → ⊥
  pub other : p w ≡ None
  pub apart : x ≡ w → ⊥
  pub now : p' x ≡ Some w

courting_kept : (p p' : ℕ → Option ℕ) (x w : ℕ) → IsCourting p p' x w → p' w ≡ None
courting_kept p p' x w it = it.solo.others w (λ same. it.apart (sym same)) ∙ it.other

courting_singles : (p p' : ℕ → Option ℕ) (x w : ℕ) (xs : List ℕ) → IsCourting p p' x w → singles p' xs ≡ singles p xs
courting_singles p p' x w xs it =
    singles_same p p' x xs it.solo (λ y at back. none-some x (sym (courting_kept p p' x w it) ∙ ap p' (same_Some w y (sym it.now ∙ at)) ∙ back))

courting_stuck : (p p' : ℕ → Option ℕ) (x w : ℕ) → IsCourting p p' x w → (v : ℕ) → IsTrue (is_stuck p' v) → IsTrue (is_stuck p v)
courting_stuck p p' x w it v h = grind (arith, stuck_is, same_Some, courting_kept, stuck_was)

courting_lowers : (p p' : ℕ → Option ℕ) (x w : ℕ) (xs : List ℕ) → IsAmong p xs → IsIn x xs → IsCourting p p' x w → Lowers 2 p p' xs xs
courting_lowers p p' x w xs among there it =
    let idle = count_less (is_idle p') (is_idle p) x xs among.once (λ v h. idle_was p p' x it.solo v (λ same. not_idle (ap is_none (ap p' (sym same)) ∙ h)) h) (record { there = there; was = null_is (p x) it.null; gone = not_idle }) in
    let stuck = count_le (is_stuck p') (is_stuck p) xs (λ v there. courting_stuck p p' x w it v) in
    falls_beside 2 (singles p xs) (stucks p xs) (idles p xs) (singles p' xs) (stucks p' xs) (idles p' xs) (courting_singles p p' x w xs it) (omega (arith, idle, stuck))
  where
    not_idle : IsTrue (is_idle p' x) → ⊥
    not_idle h = none-some w (sym (null_from (p' x) h) ∙ it.now)

-- ---- who takes a suitor

taking_falls : (p p' : ℕ → Option ℕ) (x w : ℕ) (xs : List ℕ) → IsAmong p xs → IsSolo p p' x → p x ≡ None → p w ≡ Some x → p' x ≡ Some w → singles p' xs * singles p' xs + 4 * stucks p' xs + 2 * idles p' xs + 2 * singles p xs + 2 ≤ singles p xs * singles p xs + 2 * idles p xs + 2 * singles p' xs
taking_falls p p' x w xs among solo null suitor now =
    let pair = count_less_two (is_single p') (is_single p) x w xs among.once (singles_were p p' x solo)
    (record { there = (among.ends w x suitor).1; was = single_free p x null; gone = paired_not_single p' x w now kept })
    (record { there = (among.ends w x suitor).0; was = single_waiting p w x suitor (λ back. none-some w (sym null ∙ back)); gone = paired_not_single p' w x kept now })
    (λ same. apart (sym same)) in
    let kinds = kinds_are_all p' xs in
    let idle = one_count (is_idle p) xs x (among.ends w x suitor).1 (null_is (p x) null) in
    falls_by_two (singles p xs) (idles p xs) (singles p' xs) (stucks p' xs) (idles p' xs) pair (omega (arith, kinds)) idle
  where
    apart : w ≡ x → ⊥
    apart same = none-some x (sym null ∙ ap p (sym same) ∙ suitor)

    kept : p' w ≡ Some x
    kept = solo.others w apart ∙ suitor

-- ---- a move

pub move_lowers : (p p' : ℕ → Option ℕ) (x : ℕ) (xs : List ℕ) → IsAmong p xs → IsAmong p' xs → IsSolo p p' x → Lowers 2 p p' xs xs
move_lowers p p' x xs among among' solo = by_turn solo.turn
  where
    by_turn : SoloTurn p p' x → Lowers 2 p p' xs xs
    by_turn (takes w null suitor now) = let falls = taking_falls p p' x w xs among solo null suitor now in omega (arith, falls)
    by_turn (courts w null none other apart now) = courting_lowers p p' x w xs among (among'.ends x w now).0 (record { solo = solo; null = null; unsuited = none; other = other; apart = apart; now = now })
    by_turn (leaves w at alone busy now) = leaving_lowers p p' x w xs among (record { solo = solo; at = at; alone = alone; busy = busy; now = now })

-- ---- traps

-- two of its nodes are stuck
pub trap_stucks : (p : ℕ → Option ℕ) (xs : List ℕ) → IsAmong p xs → IsTrap p → 2 ≤ stucks p xs
trap_stucks p xs among trap =
    let to = trap.leads trap.first trap.there in
    count_two (is_stuck p) trap.first to.0 xs among.once (among.ends trap.first to.0 to.1).0 (among.ends trap.first to.0 to.1).1 (stuck trap.first trap.there) (stuck to.0 to.2)
    (λ same. to.3 (ap p (sym same) ∙ to.1 ∙ ap Some (sym same)))
  where
    stuck : (v : ℕ) → IsTrue (trap.inside v) → IsTrue (is_stuck p v)
    stuck v h = grind (arith, stuck_from, none-some)

trap_courted : (p p' : ℕ → Option ℕ) (x : ℕ) → IsSolo p p' x → p x ≡ None → IsTrap p → IsTrap p'
trap_courted p p' x solo null trap = record {
  inside = trap.inside;
  first = trap.first;
  there = trap.there;
  leads = λ v h. let to = trap.leads v h in (to.0, solo.others v (apart v h) ∙ to.1, to.2, λ back. to.3 (sym (solo.others to.0 (apart to.0 to.2)) ∙ back));
}
  where
    apart : (v : ℕ) → IsTrue (trap.inside v) → v ≡ x → ⊥
    apart v h same = let to = trap.leads v h in none-some to.0 (sym null ∙ ap p (sym same) ∙ to.1)

-- a node with no suitor leaves the others in it
trap_left : (p p' : ℕ → Option ℕ) (x : ℕ) → IsSolo p p' x → ((u : ℕ) → p u ≡ Some x → ⊥) → IsTrap p → IsTrap p'
trap_left p p' x solo none trap =
    ⊎_elim
    (λ same. let to = trap.leads trap.first trap.there in from to.0 (inner to.0 to.2 (beside trap.first trap.there)))
    (λ apart. from trap.first (inner trap.first trap.there apart))
    (cases_eq trap.first x)
  where
    inside : ℕ → Bool
    inside v = trap.inside v && not (nat_eq v x)

    inner : (v : ℕ) → IsTrue (trap.inside v) → (v ≡ x → ⊥) → IsTrue (inside v)
    inner v h apart = and_from (trap.inside v) (not (nat_eq v x)) h (not_from_false (nat_eq v x) (ne_eqb v x apart))

    beside : (v : ℕ) (h : IsTrue (trap.inside v)) → (trap.leads v h).0 ≡ x → ⊥
    beside v h same = none v ((trap.leads v h).1 ∙ ap Some same)

    from : (y : ℕ) → IsTrue (inside y) → IsTrap p'
    from y there = record {
      inside = inside;
      first = y;
      there = there;
      leads = λ v h.
          let parts = and_parts (trap.inside v) (not (nat_eq v x)) h in
          let apart : v ≡ x → ⊥ = λ same. true≢false (sym (eq-eqb v x same) ∙ not-true (nat_eq v x) parts.1) in
          let to = trap.leads v parts.0 in
          let there = beside v parts.0 in
          (to.0, solo.others v apart ∙ to.1, inner to.0 to.2 there, λ back. to.3 (sym (solo.others to.0 there) ∙ back));
    }

-- a move keeps the trap, or lowers the potential by four more
pub move_in_trap : (p p' : ℕ → Option ℕ) (x : ℕ) (xs : List ℕ) → IsAmong p xs → IsSolo p p' x → IsTrap p → IsTrap p' ⊎ Lowers 6 p p' xs xs
move_in_trap p p' x xs among solo trap = by_turn solo.turn
  where
    by_turn : SoloTurn p p' x → IsTrap p' ⊎ Lowers 6 p p' xs xs
    by_turn (takes w null suitor now) =
        let falls = taking_falls p p' x w xs among solo null suitor now in
        let stuck = trap_stucks p xs among trap in
        inr (omega (arith, falls, stuck))
    by_turn (courts w null none other apart now) = inl (trap_courted p p' x solo null trap)
    by_turn (leaves w at alone busy now) =
        ⊎_elim
        (λ some. inr (leaving_lowers_more p p' x w some.0 xs among (record { solo = solo; at = at; alone = alone; busy = busy; now = now }) some.1))
        (λ none. inl (trap_left p p' x solo none trap))
        (among.suitors x)
