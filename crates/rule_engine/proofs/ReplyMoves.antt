-- The moves in a reply are of present nodes, to neighbours.
use Rattle.rule_engine.proofs.Prelude.{◌≡◌, ℕ, List, [], Option, None, Some, All, ap, Event, Step, Moved, Refusal, Reply, Moves, State, RuleTable, refusal_of, accepted_reply, reply_by, reply_of, least_moves, IsMoveIn, IsTable, subst, sym, All-from_recursion, Item, least_moves_in}

-- each of the least moves of a choice is of a node that is present, to a neighbour if it has a target
moves_in : (t : RuleTable) → IsTable t → (s : State) (items : List Item) (moves : List Moved) → moves ≡ least_moves t s items → All (IsMoveIn s.network) moves
moves_in t table s items moves is =
    subst (All (IsMoveIn s.network)) (sym is) (All-from_recursion (IsMoveIn s.network) (least_moves t s items) (least_moves_in t table s items))

moves_told : Reply → List Moved
moves_told (Moves moves) = moves
moves_told other = []

moves_accepted : (t : RuleTable) → IsTable t → (s : State) (spent : ℕ) (event : Event) (moves : List Moved) → Moves moves ≡ accepted_reply t s spent event → All (IsMoveIn s.network) moves
unfolding moves_told
moves_accepted t table s spent (Step items) moves told =
    let is : moves ≡ least_moves t s items = ap moves_told told in moves_in t table s items moves is
moves_accepted t table s spent event moves told = absurd cc

moves_by : (t : RuleTable) → IsTable t → (s : State) (spent : ℕ) (event : Event) (moves : List Moved) (refusal : Option Refusal) → Moves moves ≡ reply_by t s spent event refusal → All (IsMoveIn s.network) moves
moves_by t table s spent event moves (Some refusal) told = absurd cc
moves_by t table s spent event moves None told = moves_accepted t table s spent event moves told

pub told_moves_in : (t : RuleTable) → IsTable t → (s : State) (spent : ℕ) (event : Event) (moves : List Moved) → Moves moves ≡ reply_of t s spent event → All (IsMoveIn s.network) moves
told_moves_in t table s spent event moves told = moves_by t table s spent event moves (refusal_of t s event) told
