-- The moves with the least targets; they lead to a state.
use Rattle.machine_laws.proofs.ChargePrelude.Imports.{◌≡◌, ℕ, Bool, true, List, [], ◌∷◌, Option, Some, IsTrue, sym, subst, find, filter_map, option_and_then, AllByRecursion, cons_option, cases_Bool, cond-true, cond-false, none-some, same_Some, cond_some, option_and_then_some, Act, Item, Moved, linked, present, names, State, IsState, RuleTable, rule_at, after_moves, outcome_by, outcome_at, outcome_of, move_in, item_of, least_moves, target_by, IsMoveIn, arith}
use Rattle.rule_machine.specs.declared.verdict.Outcome.TheVariants as outcome
pub use Rattle.rule_machine.specs.Table.{IsTable}
use Rattle.machine_laws.proofs.StatePreservation.{moves_keep}

-- what `find` finds passes the test
pub find_passes : {X : Type 0} (p : X → Bool) (xs : List X) (x : X) → find p xs ≡ Some x → p x ≡ true
find_passes p [] x e = absurd (none-some x e)
find_passes p (y ∷ ys) x e = grind (arith, find_passes p ys x, same_Some, cond-true, cond-false, cases_Bool)

cons_option_all : {Y : Type 0} (P : Y → Type 0) (o : Option Y) (ys : List Y) → ((y : Y) → o ≡ Some y → P y) → AllByRecursion P ys → AllByRecursion P (cons_option o ys)
cons_option_all x y ys h all = grind arith

-- a fact about each value that h gives is true of each element of the list
pub filter_map_all : {X Y : Type 0} (h : X → Option Y) (P : Y → Type 0) → ((x : X) (y : Y) → h x ≡ Some y → P y) → (xs : List X) → AllByRecursion P (filter_map h xs)
filter_map_all h P holds [] = tt
filter_map_all h P holds (x ∷ xs) = cons_option_all P (h x) (filter_map h xs) (holds x) (filter_map_all h P holds xs)

-- m is the move that the item makes alone: its node is present, and its target is the one that the rule
-- takes for the item's wish
pub record Makes (t : RuleTable) (s : State) (item : Item) (m : Moved) : Type 0 where
  pub has : IsTrue (present s.network item.node)
  pub node : m.node ≡ item.node
  pub rule : rule_at t s item.node ≡ Some m.act
  pub target : target_by t s item.node item.wish m.act ≡ Some m.target

makes_by_wish : (t : RuleTable) (s : State) (item : Item) (act : Act) (m : Moved) (wish : Option ℕ) → item.wish ≡ wish → IsTrue (present s.network item.node) → rule_at t s item.node ≡ Some act → move_in (outcome_by t s item.node act wish) ≡ Some m → Makes t s item m
makes_by_wish t s item act m x wish has rule e = grind (arith, same_Some, cond-true, none-some)

makes_by_rule : (t : RuleTable) (s : State) (item : Item) (m : Moved) (r : Option Act) → rule_at t s item.node ≡ r → IsTrue (present s.network item.node) → move_in (outcome_at t s item r) ≡ Some m → Makes t s item m
makes_by_rule t s item m x rule has e = grind (arith, none-some, makes_by_wish)

-- an outcome that is a move is the move that its item makes
pub makes_from_outcome : (t : RuleTable) (s : State) (item : Item) (m : Moved) → move_in (outcome_of t s item) ≡ Some m → Makes t s item m
makes_from_outcome t s item m e = grind (arith, makes_by_rule, none-some)

-- a target, if there is one, is allowed
pub target_allowed : (t : RuleTable) (s : State) (v : ℕ) (wish : Option ℕ) (act : Act) (target : Option ℕ) → target_by t s v wish act ≡ Some target → (x : ℕ) → target ≡ Some x → IsTrue (t.allowed s v act x)
target_allowed t s v wish act target e x at = grind (arith, find_passes, same_Some, cond_some)

-- the move that an item makes is of a present node, to a neighbour if it has a target
pub makes_is_move_in : (t : RuleTable) → IsTable t → (s : State) (item : Item) (m : Moved) → Makes t s item m → IsMoveIn s.network m
makes_is_move_in t table s item m makes = record {
  has = subst (λ v. IsTrue (present s.network v)) (sym makes.node) makes.has;
  near = λ x at. subst (λ v. IsTrue (linked s.network v x)) (sym makes.node) (table.allowed_is_neighbour s item.node m.act x (target_allowed t s item.node item.wish m.act m.target makes.target x at));
}

-- the move of the first item that names v
abbrev pub move_at : RuleTable → State → List Item → ℕ → Option Moved
move_at t s items v = option_and_then (λ item. move_in (outcome_of t s item)) (item_of items v)

-- each of the moves of a choice is what some item makes, since `filter_map` gives nothing else
pub least_moves_in : (t : RuleTable) → IsTable t → (s : State) (items : List Item) → AllByRecursion (IsMoveIn s.network) (least_moves t s items)
least_moves_in t table s items =
    filter_map_all (move_at t s items) (IsMoveIn s.network)
    (λ v m e. option_and_then_some (λ item. move_in (outcome_of t s item)) (item_of items v) m e (λ item found move. makes_is_move_in t table s item m (makes_from_outcome t s item m move)))
    (names s.network)

-- A step leads to a state: its moves are of present nodes, and their targets are allowed ones, which are
-- neighbours.
pub step_keeps : (t : RuleTable) → IsTable t → (s : State) → IsState s → (items : List Item) → IsState (after_moves s (least_moves t s items))
step_keeps t table s good items = moves_keep s (least_moves t s items) good (least_moves_in t table s items)
