-- What each node does in a step, by its rules, with its registers before and after.
use Rattle.machine_laws.proofs.ChargePrelude.{◌≡◌, ℕ, ◌+◌, ◌<◌, ◌≤◌, false, List, [], ◌∷◌, length, map, count_by, Any, Option, None, Some, IsSomeAnd, IsTrue, refl, sym, ◌∙◌, subst, inl, inr, arith, AllByRecursion, recursion_from_All, Act, Update, Marry, Seduce, Abandon, Item, Moved, linked, present, names, State, IsState, pointer, flag, married, RuleTable, acts, rule_at, IsTarget, IsMoveOf, IsStep, registers_after, after_moves, present_range, IsMoveIn, moves_keep, find_passes}
use Rattle.machine_laws.proofs.ListCounts.{IsIn, IsWithoutRepeats}
use Rattle.machine_laws.proofs.Members.{in_names, all_at, single_from_increasing}
use Rattle.machine_laws.proofs.WritesOfSteps.{pointer_after_act, flag_by, is_mover_in, NodeAfterMoves, still, moved, moves_leave, in_nodes, node_is_moved, moves_counted}
use Rattle.machine_laws.proofs.Runs.{is_target_allowed}

-- only a present node has an enabled rule, and the targets that the rule allows are neighbours
pub record IsInside (t : RuleTable) : Type 0 where
  pub has : (s : State) (v : ℕ) (act : Act) → IsState s → IsTrue (t.guard s v act) → IsTrue (present s.network v)
  pub near : (s : State) (v : ℕ) (act : Act) (w : ℕ) → IsTrue (t.allowed s v act w) → IsTrue (linked s.network v w)

-- v does not move, or moves by a rule that is enabled before the step, to a target that is allowed before
-- the step
pub data Deed (t : RuleTable) (s : State) (s' : State) (moves : List Moved) (v : ℕ) : Type 0 where
  idles : is_mover_in moves v ≡ false → pointer s' v ≡ pointer s v → flag s' v ≡ flag s v → Deed t s s' moves v
  updates : IsTrue (is_mover_in moves v) → IsTrue (t.guard s v Update) → pointer s' v ≡ pointer s v → flag s' v ≡ married s v → Deed t s s' moves v
  marries : (w : ℕ) → IsTrue (is_mover_in moves v) → IsTrue (t.guard s v Marry) → IsTrue (t.allowed s v Marry w) → pointer s' v ≡ Some w → flag s' v ≡ flag s v → Deed t s s' moves v
  seduces : (w : ℕ) → IsTrue (is_mover_in moves v) → IsTrue (t.guard s v Seduce) → IsTrue (t.allowed s v Seduce w) → pointer s' v ≡ Some w → flag s' v ≡ flag s v → Deed t s s' moves v
  abandons : IsTrue (is_mover_in moves v) → IsTrue (t.guard s v Abandon) → pointer s' v ≡ None → flag s' v ≡ flag s v → Deed t s s' moves v

-- a step by its deeds: a state of the same network, a deed at each node, and at most as many moves as movers
pub record IsDone (t : RuleTable) (s : State) (s' : State) (moves : List Moved) : Type 0 where
  pub is_state : IsState s'
  pub network : s'.network ≡ s.network
  pub deeds : (v : ℕ) → Deed t s s' moves v
  pub counted : length moves ≤ count_by (is_mover_in moves) (names s.network)

-- a move by the rule of its node, with a target that it may have
record IsRuled (t : RuleTable) (s : State) (m : Moved) : Type 0 where
  rule : rule_at t s m.node ≡ Some m.act
  wish : Option ℕ
  target : IsTarget t s m.node m.act wish m.target

ruled_from : (t : RuleTable) (s : State) (items : List Item) (m : Moved) → Any (λ item. IsMoveOf t s item m) items → IsRuled t s m
ruled_from t s items m (k, item, below, at, is) = grind (arith, rule_at)

some_and : (o : Option ℕ) (P : ℕ → Type 0) → IsSomeAnd o P → (w : ℕ) × (o ≡ Some w) × P w
some_and None P h = absurd h
some_and (Some w) P h = (w, refl, h)

-- what v's own move does
ruled_deed : (t : RuleTable) (s : State) (s' : State) (moves : List Moved) (v : ℕ) (act : Act) (wish target : Option ℕ) → IsTrue (is_mover_in moves v) → IsTrue (t.guard s v act) → IsTarget t s v act wish target → pointer s' v ≡ pointer_after_act act target (pointer s v) → flag s' v ≡ flag_by act (married s v) (flag s v) → Deed t s s' moves v
ruled_deed t s s' moves v Update wish target goes guard is e f = updates goes guard e f
ruled_deed t s s' moves v Marry wish target goes guard is e f = let aim = some_and target (λ w. IsTrue (t.allowed s v Marry w)) is.0 in marries aim.0 goes guard aim.2 (e ∙ aim.1) f
ruled_deed t s s' moves v Seduce wish target goes guard is e f = let aim = some_and target (λ w. IsTrue (t.allowed s v Seduce w)) is.0 in seduces aim.0 goes guard aim.2 (e ∙ aim.1) f
ruled_deed t s s' moves v Abandon wish target goes guard is e f = abandons goes guard e f

ruled_in : (t : RuleTable) → IsInside t → (s : State) → IsState s → (m : Moved) → IsRuled t s m → IsMoveIn s.network m
ruled_in t inside s good m ruled = grind (arith, find_passes, acts, is_target_allowed)

all_from_in : (P : Moved → Type 0) (moves : List Moved) → ((m : Moved) → IsIn m moves → P m) → AllByRecursion P moves
all_from_in P [] h = tt
all_from_in P (m ∷ moves) h = (h m (inl refl), all_from_in P moves (λ x there. h x (inr there)))

node_present : (s : State) (moves : List Moved) → ((m : Moved) → IsIn m moves → IsTrue (present s.network m.node)) → (v : ℕ) → IsIn v (map (λ m. m.node) moves) → IsTrue (present s.network v)
node_present s [] has v h = absurd h
node_present s (m ∷ moves) has v at = grind (arith, node_present s moves (λ x there. has x (inr there)), has m (inl refl))

done_from : (t : RuleTable) → IsInside t → (s : State) → IsState s → (moves : List Moved) → IsWithoutRepeats (map (λ m. m.node) moves) → ((m : Moved) → IsIn m moves → IsRuled t s m) → IsDone t s (after_moves s moves) moves
done_from t inside s good moves single ruled = record {
  is_state = moves_keep s moves good (all_from_in (IsMoveIn s.network) moves within);
  network = refl;
  deeds = λ v. deed v (moves_leave s s.registers moves (s.network.size + 1) v good.pointers_len good.flags_len (all_from_in (λ m. m.node < s.network.size + 1) moves below) single);
  counted = moves_counted moves (names s.network) single (λ v there. in_names s.network v (node_present s moves (λ m at. (within m at).has) v there));
}
  where
    within : (m : Moved) → IsIn m moves → IsMoveIn s.network m
    within m at = ruled_in t inside s good m (ruled m at)

    below : (m : Moved) → IsIn m moves → m.node < s.network.size + 1
    below m at = let bounds = present_range s.network m.node (within m at).has in omega (arith, bounds)

    deed : (v : ℕ) → NodeAfterMoves s s.registers (registers_after s moves) moves v → Deed t s (after_moves s moves) moves v
    deed v (still none e f) = idles none e f
    deed v (moved m there at e f) =
        let rule = ruled m there in
        ruled_deed t s (after_moves s moves) moves v m.act rule.wish m.target
        (node_is_moved moves v (subst (λ x. IsIn x (map (λ m. m.node) moves)) at (in_nodes moves m there)))
        (subst (λ x. IsTrue (t.guard s x m.act)) at (find_passes (t.guard s m.node) acts m.act rule.rule))
        (subst (λ x. IsTarget t s x m.act rule.wish m.target) at rule.target)
        e f

-- a step is done by its rules
pub step_done : (t : RuleTable) → IsInside t → (s : State) → IsState s → (items : List Item) (moves : List Moved) (s' : State) → IsStep t s items moves s' → IsDone t s s' moves
step_done t inside s good items moves s' step =
    let each = recursion_from_All (λ m. Any (λ item. IsMoveOf t s item m) items) moves step.each in
    subst (λ x. IsDone t s x moves) (sym step.after) (
    done_from t inside s good moves (single_from_increasing (map (λ m. m.node) moves) step.ascending) (λ m there. ruled_from t s items m (all_at (λ m. Any (λ item. IsMoveOf t s item m) items) moves each m there))
    )
