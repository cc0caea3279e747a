-- How many rounds can still come, from what a run has and from the moves that can still come.
use Rattle.rule_engine.proofs.Prelude.{◌≡◌, ◌≢◌, ℕ, ◌+◌, ◌-◌, ◌≤◌, min, List, [], ◌∷◌, ◌++◌, filter, Option, None, Some, IfSome, refl, sym, ◌∙◌, ap, subst, arith, All-append, sum_by-cons, none-some, same_Some, run_lowers, IsCharged, IsUndisturbed, moves_in, moves_of, IsTable, BoundsMoves, moves_left, answer_followed, RoundCount, rounds_of, rounds_by, rounds_from, round_turn, stays_pending, Answers, spent_after, Network, node_count, RuleTable, enabled_names, Entry, Moment, Run, State, Event, Reply, Accepted, Moves, HasRounds}
use Rattle.move_bounds.specs.RoundsLeft.{BoundsRoundsByNodes}
use Rattle.rule_engine.proofs.CountedRounds.{some_moves}
use Rattle.rule_engine.specs.RoundsLeft.{LeavesIfCounted, LeavesRounds, rounds_left}

-- one run after another
run_then : (t : RuleTable) (start middle end : Moment) (some rest : List Entry) → Run t start some middle → Run t middle rest end → Run t start (some ++ rest) end
run_then t start middle end [] rest run more = subst (λ (m : Moment). Run t m rest end) run more
run_then t start middle end (entry ∷ some) rest (next, answers, run) more =
    (next, answers, run_then t (record { state = next; spent = spent_after start.spent entry.1 }) middle end some rest run more)

-- a step completes one round or none, and another entry none
turn_few : (t : RuleTable) (s : State) (xs : List ℕ) → (round_turn t s xs).0 ≤ 1
turn_few t s [] = omega arith
turn_few t s (x ∷ xs) = omega arith

entry_few : (t : RuleTable) (s : State) (n : ℕ) (event : Event) (reply : Reply) (s' : State) → Answers t s n event reply s' → (pending : List ℕ) → (rounds_by t pending reply s').0 ≤ moves_of reply
entry_few t s n event (Moves moves) s' answers pending =
    let few = turn_few t s' (filter (stays_pending t moves s') pending) in let some = some_moves t s n event moves s' answers in omega (arith, few, some)
entry_few t s n event reply s' answers pending = omega arith

-- a run has at most as many rounds as moves
rounds_few : (t : RuleTable) (start : Moment) (log : List Entry) (end : Moment) → Run t start log end → (pending : List ℕ) → rounds_from t start.state pending log ≤ moves_in log
rounds_few t start [] end run pending = omega arith
rounds_few t start (entry ∷ log) end (next, answers, run) pending =
    let whole = sum_by-cons (λ (e : Entry). moves_of e.1) entry log in
    let first = entry_few t start.state start.spent entry.0 entry.1 next answers pending in
    let rest = rounds_few t (record { state = next; spent = spent_after start.spent entry.1 }) log end run (rounds_by t pending entry.1 next).1 in
    subst (λ (u : State). (rounds_by t pending entry.1 u).0 + rounds_from t u (rounds_by t pending entry.1 u).1 log ≤ moves_in (entry ∷ log))
    (sym (answer_followed t start.state start.spent entry.0 entry.1 next answers)) (omega (arith, whole, first, rest))

pub leaves : (t : RuleTable) (weight : ℕ) → IsTable t → IsCharged t weight → (bound : ℕ → ℕ) → BoundsRoundsByNodes t bound → (m : Moment) (count : RoundCount) (rounds most moves left : ℕ) → count.rounds ≡ rounds → HasRounds t m count → most ≡ bound (node_count m.state.network) → BoundsMoves t m.state m.spent moves → (enabled_names t m.state ≡ [] → moves ≡ 0) → left ≡ min (most - rounds) moves → LeavesRounds t m count left
leaves t weight table charged bound law m count rounds most moves left told has allows pays quiet is = record {
  has = has;
  most = few;
  silent = λ silent. let none = quiet silent in omega (arith, is, none);
}
  where
    few : (rest : List Entry) (end : Moment) → Run t m rest end → IsUndisturbed rest → rounds_from t m.state count.pending rest ≤ left
    few rest end run calm =
        let net = ap (λ (n : Network). bound (node_count n)) (run_lowers t weight table charged has.start has.is_state has.log m has.run has.calm).1 in
        let whole = law has.start has.is_state (has.log ++ rest) end (run_then t has.start m end has.log rest has.run run) (All-append (λ (entry : Entry). entry.1 ≢ Accepted) has.log rest has.calm calm) in
        let sum = has.later rest in
        let by_moves = rounds_few t m rest end run count.pending in
        let paid = pays rest end run calm in
        omega (arith, told, allows, net, whole, sum, by_moves, paid, is)

-- the same, by what a run tells of its rounds
pub leaves_if : (t : RuleTable) (weight : ℕ) → IsTable t → IsCharged t weight → (bound : ℕ → ℕ) → BoundsRoundsByNodes t bound → (m : Moment) (counting : Option RoundCount) (told : Option ℕ) (rounds most moves left : ℕ) → told ≡ rounds_of counting → told ≡ Some rounds → IfSome counting (λ count. HasRounds t m count) → most ≡ bound (node_count m.state.network) → BoundsMoves t m.state m.spent moves → (enabled_names t m.state ≡ [] → moves ≡ 0) → left ≡ min (most - rounds) moves → LeavesIfCounted t m counting (Some left)
leaves_if t weight table charged bound law m None told rounds most moves left is some has allows pays quiet least = absurd (none-some rounds (sym is ∙ some))
leaves_if t weight table charged bound law m (Some count) told rounds most moves left is some has allows pays quiet least =
    leaves t weight table charged bound law m count rounds most moves left (same_Some count.rounds rounds (sym is ∙ some)) has allows pays quiet least

-- without a count nothing is told
pub none_left : (t : RuleTable) (m : Moment) (counting : Option RoundCount) (told : Option ℕ) → told ≡ rounds_of counting → told ≡ None → LeavesIfCounted t m counting None
none_left t m None told is none = refl
none_left t m (Some count) told is none = absurd (none-some count.rounds (sym none ∙ is))

-- the number
pub left_is : (t : RuleTable) (by_nodes : ℕ → Option ℕ) (bound : ℕ → ℕ) (s : State) (counting : Option RoundCount) (told : Option ℕ) (rounds most moves left : ℕ) → told ≡ rounds_of counting → told ≡ Some rounds → most ≡ bound (node_count s.network) → moves ≡ moves_left t by_nodes s → left ≡ min (most - rounds) moves → Some left ≡ rounds_left t by_nodes bound s counting
left_is t by_nodes bound s None told rounds most moves left is some allows paid least = absurd (none-some rounds (sym is ∙ some))
left_is t by_nodes bound s (Some count) told rounds most moves left is some allows paid least =
    ap (λ (n : ℕ). Some n) (least ∙ (λ i. min (allows i - same_Some rounds count.rounds (sym some ∙ is) i) (paid i)))

pub none_is : (t : RuleTable) (by_nodes : ℕ → Option ℕ) (bound : ℕ → ℕ) (s : State) (counting : Option RoundCount) (told : Option ℕ) → told ≡ rounds_of counting → told ≡ None → ◌≡◌ {A = Option ℕ} None (rounds_left t by_nodes bound s counting)
none_is t by_nodes bound s None told is none = refl
none_is t by_nodes bound s (Some count) told is none = absurd (none-some count.rounds (sym none ∙ is))
