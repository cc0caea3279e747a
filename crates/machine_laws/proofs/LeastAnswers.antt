-- The answer with the least targets is one that the machine may give.
use Rattle.machine_laws.proofs.ChargePrelude.Imports.{◌≡◌, ◌≢◌, ℕ, ◌<◌, Bool, true, false, cond, List, [], ◌∷◌, length, map, filter, All, Any, Contains, Option, None, Some, IsSome, IsSomeAnd, IsTrue, is_some, nat_eq, refl, sym, ap, ◌∙◌, subst, find, filter_map, option_and_then, get_or, arith, lt-ltb, cons_option, range_with_len, IsStrictlyIncreasing, cases_Bool, cond-true, cond-false, true≢false, and_from, length-map, All-from_recursion, All-weaker, All-map, length-range_with_len, get_or-range_with_len, IsStrictlyIncreasing-filter, none-some, same_Some, cond_some, option_and_then_some, Act, Item, Moved, Event, Refusal, Network, names, present, State, IsState, RuleTable, rule_at, IsAllowedTarget, IsTarget, IsMoveOf, IsStep, after_moves, refusal_of, Does, AnswersBy, Answers, outcome_of, move_in, least_moves, accepted_reply, accepted_state, reply_by, state_by, reply_of, state_after, target_by, takes_target}
use Rattle.std.proofs.Common.{eqb-true}
pub use Rattle.machine_laws.proofs.Pairs.{filter_map_contains, names_contains}
use Rattle.machine_laws.proofs.Pairs.{contains_first, contains_rest}
use Rattle.machine_laws.proofs.LeastMoves.{IsTable, Makes, find_passes, filter_map_all, makes_from_outcome, target_allowed, move_at}
use Rattle.machine_laws.proofs.AcceptedEvents.{IsStepChoice, choice_from_none, taken_at}

-- ---- the target of a move

null_target : (t : RuleTable) → IsTable t → (s : State) (v : ℕ) (act : Act) (wish target : Option ℕ) → target_by t s v wish act ≡ Some target → takes_target act ≡ false → target ≡ None
null_target t table s v act wish None e takes = refl
null_target t table s v act wish (Some x) e takes = absurd (true≢false (sym (table.allowed_takes_target s v act x (target_allowed t s v wish act (Some x) e x refl)) ∙ takes))

some_target : (t : RuleTable) → IsTable t → (s : State) → IsState s → (v : ℕ) (act : Act) (wish target : Option ℕ) → rule_at t s v ≡ Some act → target_by t s v wish act ≡ Some target → takes_target act ≡ true → IsSome target
some_target t table s good v act x target rule e takes = grind (arith, same_Some, find_passes, cond_some)

some_and : (o : Option ℕ) (P : ℕ → Type 0) → IsSome o → ((x : ℕ) → o ≡ Some x → P x) → IsSomeAnd o P
some_and x y is h = grind (arith, true≢false)

wished : (t : RuleTable) (s : State) (v : ℕ) (act : Act) (wish target : Option ℕ) → target_by t s v wish act ≡ Some target → IsSome wish → target ≡ wish
wished t s v act wish target e is = grind arith

allowed_target : (t : RuleTable) → IsTable t → (s : State) → IsState s → (v : ℕ) (act : Act) (wish target : Option ℕ) → rule_at t s v ≡ Some act → target_by t s v wish act ≡ Some target → takes_target act ≡ true → IsAllowedTarget t s v act wish target
allowed_target t table s good v act wish target rule e takes =
    (some_and target (λ w. IsTrue (t.allowed s v act w)) (some_target t table s good v act wish target rule e takes) (target_allowed t s v wish act target e), wished t s v act wish target e)

is_target : (t : RuleTable) → IsTable t → (s : State) → IsState s → (v : ℕ) (act : Act) (wish target : Option ℕ) → rule_at t s v ≡ Some act → target_by t s v wish act ≡ Some target → IsTarget t s v act wish target
is_target t table s good v act wish target rule e = grind (arith, allowed_target, null_target)

-- The item asks for the move that it makes: by the table's laws a target that the rule takes exists and is
-- allowed, and a rule that takes no target allows none.
pub makes_move_of : (t : RuleTable) → IsTable t → (s : State) → IsState s → (item : Item) (m : Moved) → Makes t s item m → IsMoveOf t s item m
makes_move_of t table s good item m makes = record {
  node = makes.node;
  rule = makes.rule;
  target = is_target t table s good item.node m.act item.wish m.target makes.rule makes.target;
}

-- ---- lists

-- what `find` finds is an element
pub find_contains : {X : Type 0} (p : X → Bool) (xs : List X) (x : X) → find p xs ≡ Some x → Contains xs x
find_contains p [] x e = absurd (none-some x e)
find_contains p (y ∷ ys) x e = grind (arith, find_contains p ys x, same_Some, cond-true, contains_first, contains_rest, cond-false, cases_Bool)

cons_option_nodes : (o : Option Moved) (v : ℕ) (ms : List Moved) (vs : List ℕ) → ((m : Moved) → o ≡ Some m → m.node ≡ v) → map (λ m. m.node) ms ≡ vs → map (λ m. m.node) (cons_option o ms) ≡ cond (is_some o) (v ∷ vs) vs
cons_option_nodes o v ms vs same e = grind arith

-- moves at their own nodes have exactly the nodes that have one
pub filter_map_nodes : (h : ℕ → Option Moved) → ((v : ℕ) (m : Moved) → h v ≡ Some m → m.node ≡ v) → (vs : List ℕ) → map (λ m. m.node) (filter_map h vs) ≡ filter (λ v. is_some (h v)) vs
filter_map_nodes h same [] = refl
filter_map_nodes h same (v ∷ vs) = cons_option_nodes (h v) v (filter_map h vs) (filter (λ v. is_some (h v)) vs) (same v) (filter_map_nodes h same vs)

-- the names rise
pub range_increasing : (a n : ℕ) → IsStrictlyIncreasing (range_with_len a n)
range_increasing a n k below = grind (arith, length-range_with_len, get_or-range_with_len)

pub names_increasing : (net : Network) → IsStrictlyIncreasing (names net)
names_increasing net = IsStrictlyIncreasing-filter (present net) (range_with_len 1 net.size) (range_increasing 1 net.size)

any_of_one : {X : Type 0} (P : X → Type 0) (x : X) → Any P (x ∷ []) → P x
any_of_one x y z = grind arith

-- numbers that rise and are all one are at most one
increasing_same : (vs : List ℕ) (v : ℕ) → IsStrictlyIncreasing vs → All (λ w. w ≡ v) vs → length vs < 2
increasing_same vs v up same = grind arith

-- ---- a step

-- a move at a name is of that node
move_at_node : (t : RuleTable) (s : State) (items : List Item) (v : ℕ) (m : Moved) → move_at t s items v ≡ Some m → m.node ≡ v
move_at_node t s items v m e = grind (arith, option_and_then_some, eqb-true, find_passes)

-- a move at a name is what an item asks for
move_at_asked : (t : RuleTable) → IsTable t → (s : State) → IsState s → (items : List Item) (v : ℕ) (m : Moved) → move_at t s items v ≡ Some m → Any (λ item. IsMoveOf t s item m) items
move_at_asked t table s good items v m e = grind (arith, option_and_then_some, find_contains, makes_move_of, makes_from_outcome)

least_ascending : (t : RuleTable) (s : State) (items : List Item) → IsStrictlyIncreasing (map (λ m. m.node) (least_moves t s items))
least_ascending t s items =
    subst IsStrictlyIncreasing (sym (filter_map_nodes (move_at t s items) (move_at_node t s items) (names s.network)))
    (IsStrictlyIncreasing-filter (λ v. is_some (move_at t s items v)) (names s.network) (names_increasing s.network))

least_each : (t : RuleTable) → IsTable t → (s : State) → IsState s → (items : List Item) → All (λ m. Any (λ item. IsMoveOf t s item m) items) (least_moves t s items)
least_each t table s good items =
    All-from_recursion (λ m. Any (λ item. IsMoveOf t s item m) items) (least_moves t s items)
    (filter_map_all (move_at t s items) (λ m. Any (λ item. IsMoveOf t s item m) items) (move_at_asked t table s good items) (names s.network))

least_all : (t : RuleTable) → IsTable t → (s : State) → IsState s → (items : List Item) → IsStepChoice t s items → All (λ item. Any (λ m. IsMoveOf t s item m) (least_moves t s items)) items
least_all t table s good items choice k d below =
    let item = get_or items k d in
    let taken = taken_at t s [] items choice.taken k d below in
    let m = taken.0.move.0 in
    let move : move_at t s items item.node ≡ Some m = ap (option_and_then (λ i. move_in (outcome_of t s i))) taken.1 ∙ taken.0.move.1 in
    let at = filter_map_contains (move_at t s items) (names s.network) item.node m (names_contains s.network item.node taken.0.has) move in
    (at.0, m, at.1, at.2, makes_move_of t table s good item m (makes_from_outcome t s item m taken.0.move.1))

some_of_all : {X : Type 0} (P : Item → X → Type 0) (items : List Item) (ms : List X) → nat_eq (length items) 0 ≡ false → All (λ item. Any (P item) ms) items → ms ≢ []
some_of_all P [] ms some all none = true≢false some
some_of_all P (item ∷ items) ms some all none =
    let there = all 0 item (omega arith) in
    let empty : length ms ≡ 0 = ap length none in
    omega (arith, empty, there.2)

-- Under a central daemon the choice is one item, each move is of its node, so ascending names have at most
-- one.
least_alone : (t : RuleTable) (s : State) (items : List Item) (ms : List Moved) → IsStepChoice t s items → ms ≢ [] → IsStrictlyIncreasing (map (λ m. m.node) ms) → All (λ m. Any (λ item. IsMoveOf t s item m) items) ms → IsTrue t.central → length ms ≡ 1
least_alone t s [] ms choice some up each central = absurd (true≢false choice.some)
least_alone t s (item ∷ []) [] choice some up each central = absurd (some refl)
least_alone t s (item ∷ []) (m ∷ ms) choice some up each central =
    let node : Moved → ℕ = λ x. x.node in
    let same = All-map (λ v. v ≡ item.node) node (m ∷ ms) (All-weaker (λ x. Any (λ i. IsMoveOf t s i x) (item ∷ [])) (λ x. x.node ≡ item.node) (λ x any. (any_of_one (λ i. IsMoveOf t s i x) item any).node) (m ∷ ms) each) in
    let few = increasing_same (map node (m ∷ ms)) item.node up same in
    let l = length-map (m ∷ ms) node in
    omega (arith, few, l)
least_alone t s (a ∷ b ∷ items) ms choice some up each central = grind (arith, true≢false, and_from, lt-ltb)

-- The moves with the least targets are a step of a choice that is not refused. They are at the ascending
-- names, each made by the first item of its node. Each item is present and the first of its node, so its move
-- is there.
pub least_step : (t : RuleTable) → IsTable t → (s : State) → IsState s → (items : List Item) → IsStepChoice t s items → IsStep t s items (least_moves t s items) (after_moves s (least_moves t s items))
least_step t table s good items choice =
    let all = least_all t table s good items choice in
    let some = some_of_all (λ item m. IsMoveOf t s item m) items (least_moves t s items) choice.some all in
    let each = least_each t table s good items in
    let up = least_ascending t s items in
    record {
      some = some;
      alone = least_alone t s items (least_moves t s items) choice some up each;
      ascending = up;
      each = each;
      all = all;
      after = refl;
    }

-- ---- the answer

least_does : (t : RuleTable) → IsTable t → (s : State) → IsState s → (n : ℕ) (event : Event) → refusal_of t s event ≡ None → Does t s n event (accepted_reply t s n event) (accepted_state t s event)
least_does t table s good n event e = grind (arith, least_step, choice_from_none)

least_answers_by : (t : RuleTable) → IsTable t → (s : State) → IsState s → (n : ℕ) (event : Event) (r : Option Refusal) → refusal_of t s event ≡ r → AnswersBy t s n event r (reply_by t s n event r) (state_by t s event r)
least_answers_by t table s good n event x e = grind (arith, least_does)

-- the machine may give the answer with the least targets
pub least_answers : (t : RuleTable) → IsTable t → (s : State) → IsState s → (n : ℕ) (event : Event) → Answers t s n event (reply_of t s n event) (state_after t s event)
least_answers t table s good n event = least_answers_by t table s good n event (refusal_of t s event) refl
