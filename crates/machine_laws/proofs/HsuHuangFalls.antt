-- Hsu and Huang: a pointer has hope as long as its target is null. An edge is closed for good if an end is
-- married, or both ends are null with a suitor each: such a node moves only to take a suitor, and its suitor
-- can't move.
use Rattle.machine_laws.proofs.ChargePrelude.{◌≡◌, ◌≢◌, ℕ, ◌+◌, ◌<◌, ◌≤◌, Bool, true, false, not, ◌&&◌, ◌||◌, ◌⊎◌, List, length, count_by, subst, sym, ap, ◌∙◌, arith, State, IsState, Item, Moved, IsStep, hsu_huang, hsu_huang_charge, hsu_huang_closed, names, neighbours, edge_list, pointer, married, has_suitor, is_at, Option, None, Some, is_none, cases_eq, is_unanswered, inl, inr, refl, [], ◌∷◌, ⊎_elim, is_some, points, IsTrue, nat_eq, eqb-true, eq-eqb, or_cases, or_left, true≢false, no_suitor, linked_apart}
use Rattle.machine_laws.proofs.EdgesByNodes.{zeros}
use Rattle.machine_laws.proofs.WritesOfSteps.{is_mover_in}
use Rattle.machine_laws.proofs.Stances.{Paired, stance, is_paired, paired_is, paired_from}
use Rattle.machine_laws.proofs.NodeMoves.{Deed, idles, updates, marries, seduces, abandons, IsDone, step_done}
use Rattle.machine_laws.proofs.PresentMovers.{holds_is, hsu_huang_inside}
use Rattle.machine_laws.proofs.PaidMoves.{bit, differs, IsWrite, pair_charge, pair_pays, IsSeen, seen, turned, pointer_turns, falls}

-- ---- the step in pointers

-- the mover takes a suitor; or has none and courts a null node; or leaves one that points at a third
pub data SoloTurn (p p' : ℕ → Option ℕ) (x : ℕ) : Type 0 where
  takes : (w : ℕ) → p x ≡ None → p w ≡ Some x → p' x ≡ Some w → SoloTurn p p' x
  courts : (w : ℕ) → p x ≡ None → ((u : ℕ) → p u ≡ Some x → ⊥) → p w ≡ None → (x ≡ w → ⊥) → p' x ≡ Some w → SoloTurn p p' x
  leaves : (w : ℕ) → p x ≡ Some w → p w ≢ Some x → p w ≢ None → p' x ≡ None → SoloTurn p p' x

-- x moves alone
pub record IsSolo (p p' : ℕ → Option ℕ) (x : ℕ) : Type 0 where
  pub others : (v : ℕ) → (v ≡ x → ⊥) → p' v ≡ p v
  pub turn : SoloTurn p p' x

-- a pair stays one
solo_keeps : (p p' : ℕ → Option ℕ) (x : ℕ) → IsSolo p p' x → (v w : ℕ) → p v ≡ Some w → p w ≡ Some v → p' v ≡ Some w
solo_keeps p p' x solo v w at back = grind (arith, cases_eq)

pub paired_stays : (p p' : ℕ → Option ℕ) (x : ℕ) → IsSolo p p' x → (v : ℕ) → IsTrue (is_paired (stance p v)) → stance p' v ≡ Paired
paired_stays p p' x solo v h =
    let pair = paired_is p v h in paired_from p' v pair.0 (solo_keeps p p' x solo v pair.0 pair.1 pair.2) (solo_keeps p p' x solo pair.0 v pair.2 pair.1)

-- one move is of one node
pub one_mover : (moves : List Moved) → length moves ≡ 1 → (x : ℕ) × ((v : ℕ) → IsTrue (is_mover_in moves v) → v ≡ x) × IsTrue (is_mover_in moves x)
one_mover [] e = absurd (omega (arith, e))
one_mover (m ∷ []) e =
    (m.node, λ v h. ⊎_elim (λ same. sym (eqb-true m.node v same)) (λ none. absurd (true≢false (sym none))) (or_cases (nat_eq m.node v) false h), or_left (nat_eq m.node m.node) false (eq-eqb m.node m.node refl))
one_mover (m ∷ n ∷ moves) e = absurd (omega (arith, e))

pub solo_from : (s s' : State) (moves : List Moved) (x : ℕ) → IsState s → IsDone hsu_huang s s' moves → ((v : ℕ) → IsTrue (is_mover_in moves v) → v ≡ x) → IsTrue (is_mover_in moves x) → IsSolo (pointer s) (pointer s') x
solo_from s s' moves x good done only here = record { others = λ v apart. other v apart (done.deeds v); turn = own (done.deeds x) }
  where
    other : (v : ℕ) → (v ≡ x → ⊥) → Deed hsu_huang s s' moves v → pointer s' v ≡ pointer s v
    other v apart b2 = grind arith

    marry_is : (p : ℕ → Option ℕ) (x w : ℕ) (c l : Bool) → (is_none (p x) && c) ≡ true → (l && is_at (p w) x) ≡ true → (p x ≡ None) × (p w ≡ Some x)
    marry_is p x w c l guard allowed = grind arith

    seduce_is : (p : ℕ → Option ℕ) (x w : ℕ) (c l k : Bool) → (is_none (p x) && not c && k) ≡ true → (l && is_none (p w)) ≡ true → (p x ≡ None) × (p w ≡ None) × (c ≡ false) × (l ≡ true)
    seduce_is p x w c l k guard allowed = grind arith

    abandon_is : (p : ℕ → Option ℕ) (x w : ℕ) → (is_some (p w) && not (is_at (p w) x)) ≡ true → (p w ≢ Some x) × (p w ≢ None)
    abandon_is p x w h = ((λ at. grind arith), (λ null. grind arith))

    own : Deed hsu_huang s s' moves x → SoloTurn (pointer s) (pointer s') x
    own (idles none e f) = absurd (true≢false (sym here ∙ none))
    own (updates goes guard e f) = absurd (true≢false (sym guard))
    own (marries w goes guard allowed e f) = let is = marry_is (pointer s) x w _ _ guard allowed in takes w is.0 is.1 e
    own (seduces w goes guard allowed e f) =
        let is = seduce_is (pointer s) x w _ _ _ guard allowed in
        courts w is.0 (λ u. no_suitor s x u good is.2) is.1 (linked_apart s.network x w good.is_network is.3) e
    own (abandons goes guard e f) =
        let aim = holds_is (λ w. is_some (pointer s w) && not (points s.registers w x)) (pointer s x) guard in
        let is = abandon_is (pointer s) x aim.0 aim.2 in
        leaves aim.0 aim.1 is.0 is.1 e

-- ---- pairs

-- both are null and have a suitor
abbrev courted : (ℕ → Option ℕ) → (ℕ → Bool) → ℕ → ℕ → Bool
courted p c a b = is_none (p a) && c a && (is_none (p b) && c b)

abbrev shut : (ℕ → Option ℕ) → (ℕ → Bool) → (ℕ → Bool) → ℕ → ℕ → Bool
shut p m c a b = m a || m b || courted p c a b

shut_swap : (p : ℕ → Option ℕ) (m c : ℕ → Bool) (a b : ℕ) → shut p m c b a ≡ shut p m c a b
shut_swap p m c a b = grind arith

module _ (p p' : ℕ → Option ℕ) (m m' c c' : ℕ → Bool) (x : ℕ) (old : IsSeen p m c) (new : IsSeen p' m' c') (solo : IsSolo p p' x) where
  married_stays : (v : ℕ) → m v ≡ true → m' v ≡ true
  married_stays v h = let pair = old.wed v h in new.weds v pair.0 (solo_keeps p p' x solo v pair.0 pair.1 pair.2) (solo_keeps p p' x solo pair.0 v pair.2 pair.1)

  courted_stays : (v u : ℕ) → p v ≡ None → p u ≡ Some v → ((p' v ≡ None) × (p' u ≡ Some v)) ⊎ (m' v ≡ true)
  courted_stays v u null suitor = grind (arith, cases_eq)

  shut_stays : (a b : ℕ) → shut p m c a b ≡ true → shut p' m' c' a b ≡ true
  shut_stays a b h = grind (arith, married_stays, courted_stays)

  write : (a b : ℕ) → (a ≡ b → ⊥) → IsWrite (is_at (p a) b) (is_at (p' a) b) (is_at (p b) a) (is_at (p' b) a) (is_none (p b)) (is_none (p' b)) (shut p m c a b) (shut p' m' c' a b)
  write a b apart = record {
    writes = λ h k. grind (arith, cases_eq);
    gives_up = λ h k. grind (arith, cases_eq);
    lasts = λ h k. grind (arith, cases_eq);
  }

  pub pair : (a b : ℕ) → a < b → pair_charge (is_at (p' a) b) (is_at (p' b) a) (is_none (p' b)) (is_none (p' a)) (m' a || m' b) (courted p' c' a b) + bit (differs (is_at (p a) b) (is_at (p' a) b)) + bit (differs (is_at (p b) a) (is_at (p' b) a)) ≤ pair_charge (is_at (p a) b) (is_at (p b) a) (is_none (p b)) (is_none (p a)) (m a || m b) (courted p c a b)
  pair a b up =
      pair_pays _ _ _ _ _ _ _ _ _ _ _ _ _ _ (write a b (λ same. omega (arith, same))) (write b a (λ same. omega (arith, same))) (shut_swap p m c a b) (shut_swap p' m' c' a b)
      (λ h k. grind arith) (λ h k. grind arith) (shut_stays a b)

-- ---- the charge

-- the charge falls by the one move of a step
pub hsu_huang_falls : (s : State) (items : List Item) (moves : List Moved) (s' : State) → IsState s → IsStep hsu_huang s items moves s' → hsu_huang_charge s' + length moves ≤ hsu_huang_charge s
hsu_huang_falls s items moves s' good step =
    let done = step_done hsu_huang hsu_huang_inside s good items moves s' step in
    let one = one_mover moves (step.alone refl) in
    let solo = solo_from s s' moves one.0 good done one.1 one.2 in
    let less = falls s s' moves (hsu_huang_closed s) (hsu_huang_closed s') (λ v. 0) (λ v. 0) (λ v. 0) good done.is_state done.network done.counted
    (λ a b up. pair (pointer s) (pointer s') (married s) (married s') (has_suitor s) (has_suitor s') one.0 (seen s good) (seen s' done.is_state) solo a b up)
    (λ v. omega arith)
    (λ v goes. subst (λ x. 1 ≤ 0 + count_by (turned s s' x) (neighbours s.network x)) (sym (one.1 v goes)) (writes done solo.turn)) in
    let edges = ap (λ net. count_by (λ e. not (hsu_huang_closed s' e)) (edge_list net)) done.network in
    let nodes = ap (λ net. count_by (is_unanswered s') (names net)) done.network in
    let none = zeros (names s.network) in
    omega (arith, less, edges, nodes, none)
  where
    writes : IsDone hsu_huang s s' moves → {x : ℕ} → SoloTurn (pointer s) (pointer s') x → 1 ≤ 0 + count_by (turned s s' x) (neighbours s.network x)
    writes done {x = x} (takes w null suitor now) = let one = pointer_turns s s' good done.is_state done.network x w (inr (null, now)) in omega (arith, one)
    writes done {x = x} (courts w null none other apart now) = let one = pointer_turns s s' good done.is_state done.network x w (inr (null, now)) in omega (arith, one)
    writes done {x = x} (leaves w at alone busy now) = let one = pointer_turns s s' good done.is_state done.network x w (inl (at, now)) in omega (arith, one)
