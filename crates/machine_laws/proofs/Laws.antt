-- The charge pays for moves, under both tables of rules. Each move lowers the charge by at least one. The
-- charge is at most twice the edges plus a weight for each node. If the charge is zero the network is
-- stable. So between two disturbances there are at most as many moves as the charge was at first, whatever
-- the daemon chooses and whatever allowed targets are taken. After as many moves the network is stable.
-- Pairs shows why a step's moves are paid; Epochs has the bound for each epoch of a run.
use Rattle.machine_laws.proofs.ChargePrelude.{◌≡◌, ℕ, ◌+◌, ◌≤◌, List, arith, IsState, opening_with, RuleTable, hsu_huang, manne, IsStable, Entry, Moment, Run, beginning_with, opening_is_state, IsTable, IsCharged, moves_in, IsUndisturbed, IsWithinBound, Bool, true, false, cond, count_by, sum_by, None, Some, Option, is_none, is_at, ◌&&◌, ◌||◌, has_suitor, not-false, true≢false, edge, linked, names, edge_list, State, pointer, flag, married, is_unanswered, hsu_huang_closed, hsu_huang_charge, manne_node_charge, manne_charge, null_unmarried, points_true, if_some_from, ◌*◌, not, points, manne_closed, count_by-le-length, sum_by-le, node_count, edge_count}
use Rattle.machine_laws.proofs.HsuHuangFalls.{hsu_huang_falls}
use Rattle.machine_laws.proofs.ManneFalls.{manne_falls}
use Rattle.machine_laws.proofs.ChargesOfRuns.{run_lowers}
use Rattle.machine_laws.proofs.ListCounts.{count_none, sum_zero, sum_add, sum_agree}
use Rattle.machine_laws.proofs.Members.{in_names, in_edges, edge_either, names_len, edges_len}
use Rattle.machine_laws.proofs.PresentMovers.{pointer_present}
use Rattle.machine_laws.proofs.PaidMoves.{IsSeen, seen}

-- ---- the bound: each part of the charge counts an edge or a node

pub hsu_huang_bounded : (s : State) → hsu_huang_charge s ≤ 2 * edge_count s.network + 1 * node_count s.network
hsu_huang_bounded s = grind (arith, count_by-le-length, names_len, edges_len)

node_charge_le : (married flag : Bool) → ◌≤◌ (cond married (cond flag 0 1) (cond flag 2 1)) 2
node_charge_le married flag = grind arith

pub manne_bounded : (s : State) → manne_charge s ≤ 2 * edge_count s.network + 3 * node_count s.network
manne_bounded s =
    let open_edges = count_by-le-length (λ e. not (manne_closed s e)) (edge_list s.network) in
    let unanswered = count_by-le-length (is_unanswered s) (names s.network) in
    let nodes = sum_by-le (manne_node_charge s) 2 (names s.network) (λ k d below. node_charge_le (married s _) (flag s _)) in
    omega (arith, open_edges, unanswered, nodes, names_len s.network, edges_len s.network)

-- ---- if the charge is zero the network is stable

-- with no unanswered pointer among the names there is none
pub all_answered : (s : State) → IsState s → count_by (is_unanswered s) (names s.network) ≡ 0 → (v w : ℕ) → pointer s v ≡ Some w → pointer s w ≡ Some v
all_answered s good none v w e = grind (arith, count_none, in_names, pointer_present, points_true)

-- a closed edge with two null ends has a suitor at each, whose pointer is not answered
null_ends_open : (s : State) → IsState s → ((v w : ℕ) → pointer s v ≡ Some w → pointer s w ≡ Some v) → (a b : ℕ) → pointer s a ≡ None → pointer s b ≡ None → hsu_huang_closed s (a, b) ≡ true → ⊥
null_ends_open s good answered a b = opens (pointer s) (married s) (has_suitor s) (seen s good) answered
  where
    opens : (p : ℕ → Option ℕ) (m c : ℕ → Bool) → IsSeen p m c → ((v w : ℕ) → p v ≡ Some w → p w ≡ Some v) → p a ≡ None → p b ≡ None → (m a || m b || (is_at (p a) b && is_none (p b)) || (is_at (p b) a && is_none (p a)) || (is_none (p a) && c a && (is_none (p b) && c b))) ≡ true → ⊥
    opens p m c old answered null other h = grind (arith, old.wed a, old.wed b, old.suited a)

pub hsu_huang_zero_is_stable : (s : State) → IsState s → hsu_huang_charge s ≡ 0 → IsStable false s
hsu_huang_zero_is_stable s good e = grind (arith, if_some_from, true≢false, all_answered, hsu_huang_closed, edge_list, linked, edge_either, null_ends_open, not-false, edge, count_none, in_edges)

-- ---- Manne and others: each unmarried node adds one

node_parts : (m f : Bool) → ◌≡◌ {A = ℕ} (cond m (cond f 0 1) (cond f 2 1)) (cond (not m) 1 0 + cond m (cond f 0 1) (cond f 1 0))
node_parts m f = grind arith

right_flag : (m f : Bool) → ◌≡◌ {A = ℕ} (cond m (cond f 0 1) (cond f 1 0)) 0 → f ≡ m
right_flag m f e = grind arith

-- 1 for a wrong flag
abbrev wrong_flag : State → ℕ → ℕ
wrong_flag s v = cond (married s v) (cond (flag s v) 0 1) (cond (flag s v) 1 0)

charge_parts : (s : State) → manne_charge s ≡ 2 * count_by (λ e. not (manne_closed s e)) (edge_list s.network) + count_by (is_unanswered s) (names s.network) + sum_by (wrong_flag s) (names s.network) + count_by (λ v. not (married s v)) (names s.network)
charge_parts s =
    let same = sum_agree (manne_node_charge s) (λ v. cond (not (married s v)) 1 0 + wrong_flag s v) (λ v. node_parts (married s v) (flag s v)) (names s.network) in
    let sum = sum_add (λ v. cond (not (married s v)) 1 0) (wrong_flag s) (names s.network) in
    omega (arith, same, sum)

pub manne_least_is_stable : (s : State) → IsState s → manne_charge s ≤ count_by (λ v. not (married s v)) (names s.network) → IsStable true s
manne_least_is_stable s good least = grind (arith, if_some_from, pointer, all_answered, edge_either, not-false, edge, count_none, in_edges, right_flag, flag, sum_zero, in_names, charge_parts, points, null_unmarried, is_at)

pub manne_zero_is_stable : (s : State) → IsState s → manne_charge s ≡ 0 → IsStable true s
manne_zero_is_stable s good e = manne_least_is_stable s good (omega (arith, e))

-- ---- both tables

-- Hsu and Huang: one node moves at a time, and each node adds 1 to the bound
pub hsu_huang_charged : IsCharged hsu_huang 1
hsu_huang_charged = record {
  falls = hsu_huang_falls;
  bounded = λ s good. hsu_huang_bounded s;
  zero_is_stable = hsu_huang_zero_is_stable;
}

-- Manne and others: any nodes move at once, and each node adds 3 to the bound
pub manne_charged : IsCharged manne 3
manne_charged = record {
  falls = manne_falls;
  bounded = λ s good. manne_bounded s;
  zero_is_stable = manne_zero_is_stable;
}

-- ---- runs

-- From any state: the moves of a run without an accepted disturbance are paid by the charge at its start.
pub moves_are_paid : (t : RuleTable) (weight : ℕ) → IsTable t → IsCharged t weight → (start : Moment) → IsState start.state → (log : List Entry) (end : Moment) → Run t start log end → IsUndisturbed log → moves_in log + t.charge end.state ≤ t.charge start.state
moves_are_paid t weight table charged start good log end run calm = (run_lowers t weight table charged start good log end run calm).0

-- at the start of a journal no moves are spent, and the charge is within the bound
pub beginning_is_within : (t : RuleTable) (weight : ℕ) → IsCharged t weight → (size count : ℕ) → IsWithinBound t weight (beginning_with size count)
beginning_is_within t weight charged size count = let most = charged.bounded (opening_with size count) (opening_is_state size count) in omega (arith, most)
