-- The moves of a run with disturbances are at most the charge at its start plus the costs of the
-- disturbances.
use Rattle.machine_laws.proofs.ChargePrelude.{◌≡◌, ℕ, ◌+◌, ◌*◌, ◌≤◌, true, false, List, [], ◌∷◌, length, map, None, IsTrue, ap, ap₂, ◌∙◌, arith, sum_by-cons, Event, Link, Unlink, Point, Flag, Join, Leave, UnknownNode, Reply, Accepted, node_count, present, linked, State, IsState, pointer, partner, is_unanswered, RuleTable, hsu_huang, manne, refusal_of, IsStable, mutual_pairs, Does, Answers, spent_after, Entry, Moment, Run, cond_none, none_cond, IsTable, answers_keep, runs_end_in_states, pointer_linked, partner_some, after_leave, IsCharged, IsUndisturbed, moves_of, moves_in, IsPath, hsu_huang_cost, manne_leave_cost, manne_cost, answer_cost, path_cost, end_of_path, path_entries, refl, Option, Some}
pub use Rattle.machine_laws.proofs.AcceptedEvents.{link_parts, point_parts, join_low}
use Rattle.machine_laws.proofs.ChargesOfRuns.{answer_lowers}
use Rattle.machine_laws.proofs.Tables.{hsu_huang_table, manne_table}
use Rattle.machine_laws.proofs.Laws.{hsu_huang_charged, manne_charged, moves_are_paid}
use Rattle.machine_laws.proofs.StableCharge.{hsu_huang_stable_is_zero}
use Rattle.machine_laws.proofs.HsuHuangCosts.{link_costs, join_costs, point_costs, unlink_costs, leave_costs}
use Rattle.machine_laws.proofs.ManneCosts as of_manne
use Rattle.machine_laws.proofs.ManneStableCharge.{unmarried_charge, married_are_pairs, manne_stable_charge}
use Rattle.machine_laws.proofs.Disturbed.{degree_without_node}
use Rattle.machine_laws.proofs.Stances.{is_waiting, unanswered_is, paired_from}

-- each accepted disturbance adds at most its cost to the charge
abbrev pub IsCosted : RuleTable → (State → Event → ℕ) → Type 0
IsCosted t cost =
    (s : State) → IsState s → (n : ℕ) (event : Event) (s' : State) → refusal_of t s event ≡ None → Does t s n event Accepted s' → t.charge s' ≤ t.charge s + cost s event

-- a name that joins was not there
join_absent : (t : RuleTable) (s : State) (v : ℕ) → refusal_of t s (Join v) ≡ None → present s.network v ≡ false
join_absent t s v e = grind (arith, cond_none)

pub unlink_has : (t : RuleTable) (s : State) (a b : ℕ) → refusal_of t s (Unlink a b) ≡ None → IsTrue (linked s.network a b)
unlink_has t s a b e = grind (arith, cond_none, none_cond)

pub leave_has : (t : RuleTable) (s : State) (v : ℕ) → refusal_of t s (Leave v) ≡ None → IsTrue (present s.network v)
leave_has t s v e = none_cond (present s.network v) UnknownNode e

-- ---- one answer

-- the moves of an answer plus the charge left are at most the charge before plus the disturbance's cost
pub answer_costs : (t : RuleTable) (weight : ℕ) (cost : State → Event → ℕ) → IsCharged t weight → IsCosted t cost → (s : State) → IsState s → (n : ℕ) (event : Event) (reply : Reply) (s' : State) → Answers t s n event reply s' → moves_of reply + t.charge s' ≤ t.charge s + answer_cost (cost s event) reply
answer_costs t weight cost charged costed s good n event Accepted s' answers = grind arith
answer_costs t weight cost charged costed s good n event reply s' answers = let less = (answer_lowers t weight charged s good n event reply s' answers (λ e. cc)).0 in omega (arith, less)

-- ---- a run

-- From any state: a run's moves plus the charge left are at most its first charge plus the disturbances'
-- costs.
pub path_costs : (t : RuleTable) (weight : ℕ) (cost : State → Event → ℕ) → IsTable t → IsCharged t weight → IsCosted t cost → (start : Moment) → IsState start.state → (path : List (Entry × State)) → IsPath t start path → moves_in (path_entries path) + t.charge (end_of_path start.state path) ≤ t.charge start.state + path_cost cost start.state path
path_costs t weight cost table charged costed start good [] is = omega arith
path_costs t weight cost table charged costed start good (((event, reply), s) ∷ path) (answers, is) =
    let first = answer_costs t weight cost charged costed start.state good start.spent event reply s answers in
    let rest = path_costs t weight cost table charged costed (record { state = s; spent = spent_after start.spent reply }) (answers_keep t table start.state good start.spent event reply s answers) path is in
    let whole = sum_by-cons (λ (e : Entry). moves_of e.1) (event, reply) (map (λ step. step.0) path) in
    omega (arith, first, rest, whole)

-- ---- Hsu and Huang

pub hsu_huang_costed : IsCosted hsu_huang hsu_huang_cost
hsu_huang_costed s good n (Link a b) s' e does = let parts = link_parts hsu_huang s a b e in rw does (link_costs s a b good parts.0 parts.1 parts.2)
hsu_huang_costed s good n (Unlink a b) s' e does = rw does (unlink_costs s a b good (unlink_has hsu_huang s a b e))
hsu_huang_costed s good n (Point v target) s' e does = let parts = point_parts hsu_huang s v target e in rw does (point_costs s v target good parts.0 parts.1)
hsu_huang_costed s good n (Flag v value) s' e does = absurd cc
hsu_huang_costed s good n (Join v) s' e does = let less = join_costs s v good (join_low hsu_huang s v e) (join_absent hsu_huang s v e) in rw does (omega (arith, less))
hsu_huang_costed s good n (Leave v) s' e does = rw does (leave_costs s v good (leave_has hsu_huang s v e))
hsu_huang_costed s good n event s' e does = absurd does

pub hsu_huang_path_costs : (start : Moment) → IsState start.state → (path : List (Entry × State)) → IsPath hsu_huang start path → moves_in (path_entries path) + hsu_huang.charge (end_of_path start.state path) ≤ hsu_huang.charge start.state + path_cost hsu_huang_cost start.state path
hsu_huang_path_costs start good path is = path_costs hsu_huang 1 hsu_huang_cost hsu_huang_table hsu_huang_charged hsu_huang_costed start good path is

-- From a stable state the disturbances pay for all moves.
pub hsu_huang_stable_costs : (start : Moment) → IsState start.state → IsStable false start.state → (path : List (Entry × State)) → IsPath hsu_huang start path → moves_in (path_entries path) ≤ path_cost hsu_huang_cost start.state path
hsu_huang_stable_costs start good stable path is = grind (arith, hsu_huang_path_costs, hsu_huang_stable_is_zero)

-- ---- Manne and others

-- the edges that a node which leaves may open at its partner, by its pointer
parted_within : (s : State) (v : ℕ) → IsState s → IsTrue (present s.network v) → of_manne.parted_cost (after_leave s v).network (partner s v) ≤ manne_leave_cost s.network (is_unanswered s v) (pointer s v)
parted_within s v good has = by (partner s v) refl
  where
    by : (o : Option ℕ) → partner s v ≡ o → of_manne.parted_cost (after_leave s v).network o ≤ manne_leave_cost s.network (is_unanswered s v) (pointer s v)
    by None single = omega arith
    by (Some u) pair =
        let both = partner_some s v u pair in
        let answered = unanswered_is s v ∙ ap is_waiting (paired_from (pointer s) v u both.0 both.1) in
        let cost = ap₂ (manne_leave_cost s.network) answered both.0 in
        omega (arith, cost, degree_without_node s v u good has (pointer_linked s v u good both.0))

pub manne_costed : IsCosted manne manne_cost
manne_costed s good n (Link a b) s' e does = let parts = link_parts manne s a b e in rw does (of_manne.link_costs s a b good parts.0 parts.1 parts.2)
manne_costed s good n (Unlink a b) s' e does = rw does (of_manne.unlink_costs s a b good (unlink_has manne s a b e))
manne_costed s good n (Point v target) s' e does = let parts = point_parts manne s v target e in rw does (of_manne.point_costs s v target good parts.0 parts.1)
manne_costed s good n (Flag v value) s' e does = rw does (of_manne.flag_costs s v value good (none_cond (present s.network v) UnknownNode e))
manne_costed s good n (Join v) s' e does = rw does (of_manne.join_costs s v good (join_low manne s v e) (join_absent manne s v e))
manne_costed s good n (Leave v) s' e does =
    let has = leave_has manne s v e in
    let more = of_manne.leave_costs s v good has in
    let cost = parted_within s v good has in
    rw does (omega (arith, more, cost))
manne_costed s good n event s' e does = absurd does

pub manne_path_costs : (start : Moment) → IsState start.state → (path : List (Entry × State)) → IsPath manne start path → moves_in (path_entries path) + manne.charge (end_of_path start.state path) ≤ manne.charge start.state + path_cost manne_cost start.state path
manne_path_costs start good path is = path_costs manne 3 manne_cost manne_table manne_charged manne_costed start good path is

-- ---- pairs that are gained

-- a run from a valid state ends in a valid state
pub path_keeps : (t : RuleTable) → IsTable t → (start : Moment) → IsState start.state → (path : List (Entry × State)) → IsPath t start path → IsState (end_of_path start.state path)
path_keeps t table start good [] is = good
path_keeps t table start good (((event, reply), s) ∷ path) (answers, is) =
    path_keeps t table (record { state = s; spent = spent_after start.spent reply }) (answers_keep t table start.state good start.spent event reply s answers) path is

-- From a stable state disturbances, pairs gained and nodes lost pay for all moves.
pub manne_stable_costs : (start : Moment) → IsState start.state → IsStable true start.state → (path : List (Entry × State)) → IsPath manne start path → moves_in (path_entries path) + 2 * length (mutual_pairs start.state) + node_count (end_of_path start.state path).network ≤ path_cost manne_cost start.state path + 2 * length (mutual_pairs (end_of_path start.state path)) + node_count start.state.network
manne_stable_costs start good stable path is = grind (arith, manne_path_costs, manne_stable_charge, unmarried_charge, married_are_pairs, path_keeps, manne_table)

-- ---- one disturbance

pub hsu_huang_disturbed : (s : State) → IsState s → (spent : ℕ) (event : Event) (after : State) → Answers hsu_huang s spent event Accepted after → hsu_huang.charge after ≤ hsu_huang.charge s + hsu_huang_cost s event
hsu_huang_disturbed s good spent event after answers =
    let more = answer_costs hsu_huang 1 hsu_huang_cost hsu_huang_charged hsu_huang_costed s good spent event Accepted after answers in omega (arith, more)

pub manne_disturbed : (s : State) → IsState s → (spent : ℕ) (event : Event) (after : State) → Answers manne s spent event Accepted after → manne.charge after ≤ manne.charge s + manne_cost s event
manne_disturbed s good spent event after answers =
    let more = answer_costs manne 3 manne_cost manne_charged manne_costed s good spent event Accepted after answers in omega (arith, more)

-- one disturbance of a stable state pays for all moves up to the next
pub hsu_huang_one : (s : State) → IsState s → IsStable false s → (spent : ℕ) (event : Event) (after : State) → Answers hsu_huang s spent event Accepted after → (log : List Entry) (end : Moment) → Run hsu_huang (record { state = after; spent = 0 }) log end → IsUndisturbed log → moves_in log ≤ hsu_huang_cost s event
hsu_huang_one s good stable spent event after answers log end run calm =
    let good' = answers_keep hsu_huang hsu_huang_table s good spent event Accepted after answers in
    let paid = moves_are_paid hsu_huang 1 hsu_huang_table hsu_huang_charged (record { state = after; spent = 0 }) good' log end run calm in
    let more = hsu_huang_disturbed s good spent event after answers in
    let zero = hsu_huang_stable_is_zero s good stable in
    omega (arith, paid, more, zero)

pub manne_one : (s : State) → IsState s → IsStable true s → (spent : ℕ) (event : Event) (after : State) → Answers manne s spent event Accepted after → (log : List Entry) (end : Moment) → Run manne (record { state = after; spent = 0 }) log end → IsUndisturbed log → moves_in log + 2 * length (mutual_pairs s) + node_count end.state.network ≤ manne_cost s event + 2 * length (mutual_pairs end.state) + node_count s.network
manne_one s good stable spent event after answers log end run calm =
    let good' = answers_keep manne manne_table s good spent event Accepted after answers in
    let paid = moves_are_paid manne 3 manne_table manne_charged (record { state = after; spent = 0 }) good' log end run calm in
    let more = manne_disturbed s good spent event after answers in
    let before = manne_stable_charge s good stable in
    let left = unmarried_charge end.state in
    let pairs = married_are_pairs end.state (runs_end_in_states manne manne_table (record { state = after; spent = 0 }) good' log end run) in
    omega (arith, paid, more, before, left, pairs)
