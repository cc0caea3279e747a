-- What an event that is not refused guarantees, and that it leads to a state.
use Rattle.machine_laws.proofs.ChargePrelude.Imports.{leb-true, ◌≡◌, ℕ, zero, suc, ◌<◌, Bool, true, false, cond, not, ◌&&◌, List, [], ◌∷◌, ◌++◌, length, Option, None, Some, IsTrue, nat_eq, nat_lt, refl, sym, ◌∙◌, get_or, arith, list_any, option_or, cond-true, cond-false, true≢false, and_parts, or_parts, list_any-append, none-some, same_Some, Act, Item, Moved, Event, Link, Unlink, Point, Flag, Step, Join, Leave, Refusal, UnknownNode, NoFlag, BadTarget, present, linked, State, IsState, RuleTable, both_present, rule_refusal, item_refusal, items_refusal, step_refusal, refusal_of, outcome_by, wish_refusal, ap, outcome_at, outcome_of, move_in, item_of, accepted_state, state_by, state_after, ◌≤◌}
use Rattle.std.proofs.Common.{eq-eqb}
use Rattle.rule_machine.specs.declared.verdict.Outcome.TheVariants as outcome
use Rattle.machine_laws.proofs.StatePreservation.{link_keeps, unlink_keeps, point_keeps, flag_keeps, join_keeps, leave_keeps}
use Rattle.machine_laws.proofs.LeastMoves.{IsTable, step_keeps}

-- ---- refusals

-- if no reason is given, the test before it did not fail
pub cond_none : {X : Type 0} (b : Bool) (x : X) (o : Option X) → cond b (Some x) o ≡ None → (b ≡ false) × (o ≡ None)
cond_none x y o e = grind (arith, none-some)

pub none_cond : {X : Type 0} (b : Bool) (x : X) → cond b None (Some x) ≡ None → b ≡ true
none_cond b x e = grind arith

option_or_none : {X : Type 0} (o p : Option X) → option_or o p ≡ None → (o ≡ None) × (p ≡ None)
option_or_none x p e = grind (arith, none-some)

pub true_from_not : (b : Bool) → not b ≡ false → b ≡ true
true_from_not b e = grind arith

-- an item that its node's rule and its wish do not refuse makes a move
wish_move : (t : RuleTable) (s : State) (v : ℕ) (act : Act) (wish : Option ℕ) → wish_refusal (t.allowed s v act) wish ≡ None → (m : Moved) × (move_in (outcome_by t s v act wish) ≡ Some m)
wish_move t s v act None e = (_, refl)
wish_move t s v act (Some w) e = let m : Moved = record { node = v; act = act; target = Some w } in (m, ap (λ b. move_in (cond b (outcome.Moves m) outcome.Wrong)) (none_cond (t.allowed s v act w) BadTarget e))

rule_move : (t : RuleTable) (s : State) (item : Item) (r : Option Act) → rule_refusal t s item r ≡ None → (m : Moved) × (move_in (outcome_at t s item r) ≡ Some m)
rule_move t s item None e = absurd cc
rule_move t s item (Some act) e = wish_move t s item.node act item.wish e

-- an item that is not refused after the earlier items: its node is present and was not chosen before, and
-- the item makes a move
pub record IsTaken (t : RuleTable) (s : State) (earlier : List Item) (item : Item) : Type 0 where
  pub has : IsTrue (present s.network item.node)
  pub fresh : list_any (λ i. nat_eq i.node item.node) earlier ≡ false
  pub move : (m : Moved) × (move_in (outcome_of t s item) ≡ Some m)

pub taken_from_none : (t : RuleTable) (s : State) (earlier : List Item) (item : Item) → item_refusal t s earlier item ≡ None → IsTaken t s earlier item
taken_from_none t s earlier item e = grind (arith, cond_none, true_from_not, rule_move)

-- Each item of a choice that is not refused is taken, and is the first of its node. By induction: the head is
-- found at once; a later item is fresh after the head too, so the head has another node, and the search
-- continues after it.
pub taken_at : (t : RuleTable) (s : State) (earlier items : List Item) → items_refusal t s earlier items ≡ None → (k : ℕ) (d : Item) → k < length items → IsTaken t s earlier (get_or items k d) × (item_of items (get_or items k d).node ≡ Some (get_or items k d))
taken_at t s earlier [] e k d below = absurd (omega arith)
taken_at t s earlier (item ∷ items) e zero d below = grind (arith, option_or_none, taken_from_none, cond-true, eq-eqb)
taken_at t s earlier (item ∷ items) e (suc k) d below =
    let none = option_or_none (item_refusal t s earlier item) (items_refusal t s (earlier ++ item ∷ []) items) e in
    let later = get_or items k d in
    let same : Item → Bool = λ i. nat_eq i.node later.node in
    let rest = taken_at t s (earlier ++ item ∷ []) items none.1 k d (omega (arith, below)) in
    let apart = or_parts (list_any same earlier) (list_any same (item ∷ [])) (sym (list_any-append same earlier (item ∷ [])) ∙ rest.0.fresh) in
    let other = or_parts (same item) false apart.1 in
    (record { has = rest.0.has; fresh = apart.0; move = rest.0.move }, cond-false (same item) (Some item) (item_of items later.node) other.0 ∙ rest.1)

-- what the choice of a step that is not refused has: at least one item, and exactly one under a central
-- daemon
pub record IsStepChoice (t : RuleTable) (s : State) (items : List Item) : Type 0 where
  pub some : nat_eq (length items) 0 ≡ false
  pub alone : (t.central && nat_lt 1 (length items)) ≡ false
  pub taken : items_refusal t s [] items ≡ None

pub choice_from_none : (t : RuleTable) (s : State) (items : List Item) → step_refusal t s items ≡ None → IsStepChoice t s items
choice_from_none t s items e = grind (arith, cond_none, nat_lt)

-- ---- the state after an event

-- what an event that is not refused has
pub link_parts : (t : RuleTable) (s : State) (a b : ℕ) → refusal_of t s (Link a b) ≡ None → IsTrue (present s.network a) × IsTrue (present s.network b) × (a ≡ b → ⊥) × (linked s.network a b ≡ false)
link_parts t s a b e = grind (arith, cond_none, both_present, nat_eq, and_parts, true_from_not, true≢false, eq-eqb)

pub point_parts : (t : RuleTable) (s : State) (v : ℕ) (target : Option ℕ) → refusal_of t s (Point v target) ≡ None → IsTrue (present s.network v) × ((x : ℕ) → target ≡ Some x → IsTrue (linked s.network v x))
point_parts t s v target e = grind (arith, none_cond, none-some, cond_none, and_parts, true_from_not, same_Some)

pub join_low : (t : RuleTable) (s : State) (v : ℕ) → refusal_of t s (Join v) ≡ None → 1 ≤ v
join_low t s v e = grind (arith, cond_none, leb-true, and_parts, true_from_not)

-- an event that is not refused leaves a state
pub accepted_keeps : (t : RuleTable) → IsTable t → (s : State) → IsState s → (event : Event) → refusal_of t s event ≡ None → IsState (accepted_state t s event)
accepted_keeps t table s good (Link a b) e = let parts = link_parts t s a b e in link_keeps s a b good parts.0 parts.1 parts.2
accepted_keeps t table s good (Unlink a b) e = unlink_keeps s a b good
accepted_keeps t table s good (Point v target) e = point_keeps s v target good (point_parts t s v target e).1
accepted_keeps t table s good (Flag v value) e = flag_keeps s v value good (none_cond (present s.network v) UnknownNode (cond_none (not t.flags) NoFlag _ e).1)
accepted_keeps t table s good (Join v) e = join_keeps s v (join_low t s v e) good
accepted_keeps t table s good (Leave v) e = leave_keeps s v good
accepted_keeps t table s good (Step items) e = step_keeps t table s good items
accepted_keeps t table s good event e = good

state_by_keeps : (t : RuleTable) → IsTable t → (s : State) → IsState s → (event : Event) (r : Option Refusal) → refusal_of t s event ≡ r → IsState (state_by t s event r)
state_by_keeps t table s good event None e = accepted_keeps t table s good event e
state_by_keeps t table s good event (Some refusal) e = good

-- every event leaves a state
pub state_after_keeps : (t : RuleTable) → IsTable t → (s : State) → IsState s → (event : Event) → IsState (state_after t s event)
state_after_keeps t table s good event = state_by_keeps t table s good event (refusal_of t s event) refl
