-- What the machine answers is of the event's kind.
use Rattle.step_log.proofs.Prelude.{◌≡◌, ◌≢◌, ℕ, ◌+◌, ◌≤◌, true, cond, ◌&&◌, List, [], ◌∷◌, length, filter_map, Any, Option, None, Some, is_some, is_none, get_or, nat_le, option_and_then, refl, sym, ap, ◌∙◌, arith, le-leb, list_all, cons_option, range_with_len, option_map, length-range_with_len, list_all-from_AllPass, length-filter, count_by-le-length, none-some, Act, Update, Marry, Seduce, Abandon, Item, Moved, Event, Step, Enabled, Matching, Status, Refusal, Refused, Network, names, node_count, present, State, IsState, partner, RuleTable, enabled, rule_at, IsTarget, IsMoveOf, IsStep, mutual_pairs, pair_above, refusal_of, Does, AnswersBy, outcome_of, move_in, item_of, least_moves, accepted_reply, reply_by, reply_of, state_after, IsTable, least_answers, takes_target, is_move, are_moves, fits}

-- ---- the moves of a step

cons_few : {Y : Type 0} (o : Option Y) (ys : List Y) → length (cons_option o ys) ≤ length ys + 1
cons_few None ys = omega arith
cons_few (Some y) ys = omega arith

filter_map_few : {X Y : Type 0} (h : X → Option Y) (xs : List X) → length (filter_map h xs) ≤ length xs
filter_map_few h [] = omega arith
filter_map_few h (x ∷ xs) = omega (arith, cons_few (h x) (filter_map h xs), filter_map_few h xs)

-- there are no more nodes than names
pub nodes_few : (net : Network) → node_count net ≤ net.size
nodes_few net =
    omega (arith, length-filter (present net) (range_with_len 1 net.size), count_by-le-length (present net) (range_with_len 1 net.size), length-range_with_len 1 net.size)

-- what is picked from the names of a network is no more than there are
names_few : {Y : Type 0} (s : State) (h : ℕ → Option Y) → length (filter_map h (names s.network)) ≤ node_count s.network
names_few s h = filter_map_few h (names s.network)

target_fits : (t : RuleTable) (s : State) (v : ℕ) (act : Act) (wish target : Option ℕ) → IsTarget t s v act wish target → cond (takes_target act) (is_some target) (is_none target) ≡ true
target_fits t s v Update wish (Some w) is = absurd (none-some w (sym is))
target_fits t s v Marry wish None is = absurd is.0
target_fits t s v Seduce wish None is = absurd is.0
target_fits t s v Abandon wish (Some w) is = absurd (none-some w (sym is))
target_fits t s v act wish target is = refl

asked_fits : (t : RuleTable) (s : State) (items : List Item) (m : Moved) → Any (λ item. IsMoveOf t s item m) items → is_move m ≡ true
asked_fits t s items m (k, item, below, at, is) = target_fits t s item.node m.act item.wish m.target is.target

some_len : (moves : List Moved) → moves ≢ [] → 1 ≤ length moves
some_len [] some = absurd (some refl)
some_len (m ∷ moves) some = omega arith

step_fits : (t : RuleTable) (s : State) (items : List Item) (moves : List Moved) (s' : State) → length moves ≤ 65535 → IsStep t s items moves s' → are_moves moves ≡ true
step_fits t s items moves s' few step =
    let all : list_all is_move moves ≡ true = list_all-from_AllPass is_move moves (λ k d below. asked_fits t s items (get_or moves k d) (step.each k d below)) in
    ap (λ b. b && nat_le (length moves) 65535 && list_all is_move moves) (le-leb 1 (length moves) (some_len moves step.some))
    ∙ ap (λ b. b && list_all is_move moves) (le-leb (length moves) 65535 few) ∙ all

-- ---- all replies

accepted_fits : (t : RuleTable) (s : State) (n : ℕ) (event : Event) (s' : State) → node_count s.network ≤ 65535 → Does t s n event (accepted_reply t s n event) s' → fits event (accepted_reply t s n event) ≡ true
accepted_fits t s n (Step items) s' few does =
    step_fits t s items (least_moves t s items) s' (omega (arith, few, names_few s (λ v. option_and_then (λ item. move_in (outcome_of t s item)) (item_of items v)))) does
accepted_fits t s n Enabled s' few does =
    le-leb (length (enabled t s)) 65535 (omega (arith, few, names_few {Y = ℕ × Act} s (λ v. option_map (λ act. (v, act)) (rule_at t s v))))
accepted_fits t s n Matching s' few does =
    le-leb (length (mutual_pairs s)) 65535 (omega (arith, few, names_few s (λ v. pair_above v (partner s v))))
accepted_fits t s n other s' few does = refl

refused_fits : (t : RuleTable) (s : State) (event : Event) (refusal : Refusal) → refusal_of t s event ≡ Some refusal → fits event (Refused refusal) ≡ true
refused_fits t s Enabled refusal e = absurd (none-some refusal e)
refused_fits t s Matching refusal e = absurd (none-some refusal e)
refused_fits t s Status refusal e = absurd (none-some refusal e)
refused_fits t s other refusal e = refl

fits_by : (t : RuleTable) (s : State) (n : ℕ) (event : Event) (r : Option Refusal) (s' : State) → refusal_of t s event ≡ r → node_count s.network ≤ 65535 → AnswersBy t s n event r (reply_by t s n event r) s' → fits event (reply_by t s n event r) ≡ true
fits_by t s n event (Some refusal) s' e few answers = refused_fits t s event refusal e
fits_by t s n event None s' e few answers = accepted_fits t s n event s' few answers

-- the reply with the least targets is of the event's kind
pub reply_fits : (t : RuleTable) → IsTable t → (s : State) → IsState s → (n : ℕ) (event : Event) → node_count s.network ≤ 65535 → fits event (reply_of t s n event) ≡ true
reply_fits t table s good n event few =
    fits_by t s n event (refusal_of t s event) (state_after t s event) refl few (least_answers t table s good n event)
