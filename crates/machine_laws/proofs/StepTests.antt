-- The tests of a step's moves are true if the definitions hold.
use Rattle.machine_laws.proofs.ChargePrelude.Imports.{◌≡◌, ◌≢◌, ℕ, Bool, true, false, cond, not, List, [], ◌∷◌, length, map, All, Any, Option, None, Some, IsSome, Decides, nat_eq, refl, arith, list_any, list_all, IsStrictlyIncreasing, false≢true, true≢false, and_parts, and_from, Decides-and, Decides-not, Decides-eqb, Decides-by_and, Any-from_list_any, list_any-from_Any, none-some, same_Some, Act, Item, Moved, State, RuleTable, IsAllowedTarget, IsTarget, IsMoveOf, IsStep, after_moves, same_act, is_rule, suits_wish, is_target, is_move_of, is_asked, is_answered, are_of_items, ◌+◌, ◌<◌, get_or, IsTrue, ◌↔◌, IsAllAdjacentAnswer, length-map, Update}
use Rattle.std.proofs.Common.{eq-eqb, eqb-true}
use Rattle.rule_machine.specs.Step.{takes_target}
use Rattle.std.specs.Prelude.{nat_lt}
use Rattle.std.proofs.lemmas.List.{get_or-map}

-- a test that fails, of what cannot be
never : {P : Type 0} → (P → ⊥) → Decides false P
never absent = (λ e. absurd (false≢true e), λ h. absurd (absent h))

one_act : (a b : Act) → same_act a b ≡ true → a ≡ b
one_act a b e = grind arith

own_act : (a : Act) → same_act a a ≡ true
own_act act = grind arith

is_rule_decides : (rule : Option Act) (act : Act) → Decides (is_rule rule act) (rule ≡ Some act)
is_rule_decides rule act = grind (arith, never, none-some, one_act, same_Some, own_act)

suits_wish_decides : (wish : Option ℕ) (w : ℕ) → Decides (suits_wish wish w) (IsSome wish → Some w ≡ wish)
suits_wish_decides wish w = grind (arith, false≢true, eqb-true, eq-eqb, same_Some)

allowed_decides : (t : RuleTable) (s : State) (v : ℕ) (act : Act) (wish target : Option ℕ) → takes_target act ≡ true → Decides (is_target t s v act wish target) (IsAllowedTarget t s v act wish target)
allowed_decides t s v act wish x takes = grind (arith, false≢true, suits_wish_decides, and_parts, and_from)

null_decides : (t : RuleTable) (s : State) (v : ℕ) (act : Act) (wish target : Option ℕ) → takes_target act ≡ false → Decides (is_target t s v act wish target) (target ≡ None)
null_decides t s v act wish target takes = grind (arith, true≢false, and_parts, none-some)

-- the test of a target
is_target_decides : (t : RuleTable) (s : State) (v : ℕ) (act : Act) (wish target : Option ℕ) → Decides (is_target t s v act wish target) (IsTarget t s v act wish target)
is_target_decides t s v act wish target = grind (arith, allowed_decides, null_decides)

-- the test of a move
pub is_move_of_decides : (t : RuleTable) (s : State) (item : Item) (m : Moved) → Decides (is_move_of t s item m) (IsMoveOf t s item m)
is_move_of_decides t s item m = grind (arith, is_rule_decides, is_target_decides)

any_decides : {X : Type 0} (p : X → Bool) (P : X → Type 0) → ((x : X) → Decides (p x) (P x)) → (xs : List X) → Decides (list_any p xs) (Any P xs)
any_decides p P each xs = (
  λ e. let at = Any-from_list_any p xs e in (at.0, at.1, at.2, at.3, (each at.1).0 at.4),
  λ at. list_any-from_Any p xs (at.0, at.1, at.2, at.3, (each at.1).1 at.4),
)

all_decides : {X : Type 0} (p : X → Bool) (P : X → Type 0) → ((x : X) → Decides (p x) (P x)) → (xs : List X) → Decides (list_all p xs) (All P xs)
all_decides p P each xs = Decides-by_and p P (list_all p) each refl (λ _ _. refl) xs

-- the test of moves against items
pub are_asked_decides : (t : RuleTable) (s : State) (items : List Item) (moves : List Moved) → Decides (list_all (λ m. is_asked t s items m) moves) (All (λ m. Any (λ item. IsMoveOf t s item m) items) moves)
are_asked_decides t s items moves =
    all_decides (λ m. is_asked t s items m) (λ m. Any (λ item. IsMoveOf t s item m) items)
    (λ m. any_decides (λ item. is_move_of t s item m) (λ item. IsMoveOf t s item m) (λ item. is_move_of_decides t s item m) items) moves

-- the test of items against moves
pub are_answered_decides : (t : RuleTable) (s : State) (items : List Item) (moves : List Moved) → Decides (list_all (λ item. is_answered t s moves item) items) (All (λ item. Any (λ m. IsMoveOf t s item m) moves) items)
are_answered_decides t s items moves =
    all_decides (λ item. is_answered t s moves item) (λ item. Any (λ m. IsMoveOf t s item m) moves)
    (λ item. any_decides (λ m. is_move_of t s item m) (λ m. IsMoveOf t s item m) (λ m. is_move_of_decides t s item m) moves) items

fits_decides : (central : Bool) (moves : List Moved) → Decides (cond central (nat_eq (length moves) 1) (not (nat_eq (length moves) 0))) ((moves ≢ []) × (central ≡ true → length moves ≡ 1))
fits_decides true [] = never (λ h. h.0 refl)
fits_decides true (m ∷ moves) = grind (arith, eqb-true, eq-eqb)
fits_decides false [] = never (λ h. h.0 refl)
fits_decides false (m ∷ moves) = grind (arith, false≢true, Decides-not, Decides-eqb)

are_of_items_decides : (t : RuleTable) (s : State) (items : List Item) (moves : List Moved) → Decides (are_of_items t s items moves) (((moves ≢ []) × (t.central ≡ true → length moves ≡ 1)) × (All (λ m. Any (λ item. IsMoveOf t s item m) items) moves × All (λ item. Any (λ m. IsMoveOf t s item m) moves) items))
are_of_items_decides t s items moves =
    Decides-and _ _ (fits_decides t.central moves) (Decides-and _ _ (are_asked_decides t s items moves) (are_answered_decides t s items moves))

-- ascending moves that are those of the items are a step
pub step_from_tests : (t : RuleTable) (s : State) (items : List Item) (moves : List Moved) → IsStrictlyIncreasing (map (λ m. m.node) moves) → are_of_items t s items moves ≡ true → IsStep t s items moves (after_moves s moves)
step_from_tests t s items moves up e = grind (arith, are_of_items_decides)

-- the moves of a step are those of its items
pub tests_from_step : (t : RuleTable) (s : State) (items : List Item) (moves : List Moved) (after : State) → IsStep t s items moves after → are_of_items t s items moves ≡ true
tests_from_step t s items moves after step = grind (arith, are_of_items_decides)

-- ---- moves ascend by node if each two moves in a row do

nobody : Moved
nobody = record { node = 0; act = Update; target = None }

-- whether the node of the first move is below the node of the second
abbrev pub is_before : Moved → Moved → Bool
is_before a b = nat_lt a.node b.node

node_at : (moves : List Moved) (k : ℕ) (m : Moved) → k < length moves → get_or (map (λ x. x.node) moves) k 0 ≡ (get_or moves k m).node
node_at moves k m below = let node : Moved → ℕ = λ x. x.node in get_or-map node moves k m 0 below

pub ascending_by : (moves : List Moved) (r : Bool) → IsAllAdjacentAnswer (λ a b t. t ≡ is_before a b) moves r → IsTrue r ↔ IsStrictlyIncreasing (map (λ m. m.node) moves)
ascending_by moves true told = (λ done k within. grind (arith, told k nobody, node_at moves k nobody, node_at moves (k + 1) nobody, length-map), λ up. refl)
ascending_by moves false (k, below, told) = (λ h. absurd (false≢true h), λ up. grind (arith, told nobody, up k, node_at moves k nobody, node_at moves (k + 1) nobody, length-map))
