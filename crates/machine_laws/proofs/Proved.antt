-- The laws, for any table whose charge pays for its moves and whose costs pay for disturbances; and what more
-- the charge tells by Manne's rules.
use Rattle.machine_laws.proofs.ChargePrelude.{ℕ, ◌≤◌, arith, RuleTable, hsu_huang, manne, Event, State, IsTable, IsFlagless, runs_end_in_states, IsCharged, hsu_huang_cost, manne_cost, ◌+◌, ◌*◌, true, List, length, ap, node_count, IsState, manne_charge, IsStable, mutual_pairs, Entry, Moment, Run, moves_in, IsUndisturbed}
use Rattle.machine_laws.specs.Laws as law
use Rattle.machine_laws.proofs.HalfMatchings.{stable_is_half}
use Rattle.machine_laws.proofs.PresentMovers.{hsu_huang_inside, manne_inside}
use Rattle.machine_laws.proofs.NodeMoves.{IsInside}
use Rattle.machine_laws.proofs.Tables.{hsu_huang_table, manne_table, hsu_huang_flagless, manne_flagless}
use Rattle.machine_laws.proofs.Laws as of_runs
use Rattle.machine_laws.proofs.ChargesOfRuns.{steps_are_moves}
use Rattle.machine_laws.proofs.Epochs.{opening_epochs_are_bounded}
use Rattle.machine_laws.proofs.RunsFromBases as begun
use Rattle.machine_laws.proofs.CostsOfRuns.{IsCosted, path_costs, hsu_huang_costed, manne_costed}
use Rattle.machine_laws.proofs.SilentRuns.{charge_budget, driven_is_quiet, quiet_stays}
use Rattle.machine_laws.proofs.Laws.{manne_charged, hsu_huang_charged}
use Rattle.machine_laws.proofs.ManneStableCharge.{married_are_pairs, unmarried_charge}
use Rattle.machine_laws.proofs.ChargesOfRuns.{run_lowers}
use Rattle.machine_laws.proofs.Laws.{manne_least_is_stable}

-- the laws of a table of rules, with the weight of a node and the costs of disturbances
pub record AreLaws (t : RuleTable) (weight : ℕ) (cost : State → Event → ℕ) : Type 0 where
  pub moves_are_paid : law.MovesArePaid t weight
  pub moves_are_bounded : law.MovesAreBounded t weight
  pub enough_moves_settle : law.EnoughMovesSettle t
  pub enough_steps_settle : law.EnoughStepsSettle t
  pub enough_moves_give_half : law.EnoughMovesGiveHalf t
  pub epochs_are_bounded : law.EpochsAreBounded t weight
  pub runs_may_begin : law.RunsMayBegin t weight
  pub spending_is_bounded : law.SpendingIsBounded t weight
  pub runs_may_go_on : law.RunsMayGoOn t weight
  pub disturbed_moves_are_paid : law.DisturbedMovesArePaid t cost
  pub silence_lasts : law.SilenceLasts t
  pub long_runs_end_silent : law.LongRunsEndSilent t

laws_from : (t : RuleTable) (weight : ℕ) (cost : State → Event → ℕ) → IsTable t → IsInside t → IsFlagless t → IsCharged t weight → IsCosted t cost → AreLaws t weight cost
laws_from t weight cost table inside flagless charged costed = record {
  moves_are_paid = paid;
  moves_are_bounded = λ start good log end run calm. let most = paid start good log end run calm in omega (arith, most.0, most.1);
  enough_moves_settle = settle;
  enough_steps_settle = λ start good log end run calm enough.
      let moves = steps_are_moves t start log end run in settle start good log end run calm (omega (arith, moves, enough));
  enough_moves_give_half = λ start good log end run calm enough.
      stable_is_half t.flags end.state (runs_end_in_states t table start good log end run) (settle start good log end run calm enough);
  epochs_are_bounded = λ size count. opening_epochs_are_bounded t weight table charged size count 1;
  runs_may_begin = may_begin;
  spending_is_bounded = λ size count log end run. (may_begin size count 0 log end run).within;
  runs_may_go_on = begun.runs_may_go_on t weight table charged flagless;
  disturbed_moves_are_paid = path_costs t weight cost table charged costed;
  silence_lasts = quiet_stays t table inside;
  long_runs_end_silent = driven_is_quiet t (λ s n. t.charge s ≤ n) table inside (charge_budget t weight charged);
}
  where
    paid : law.MovesArePaid t weight
    paid start good log end run calm =
        (of_runs.moves_are_paid t weight table charged start good log end run calm, charged.bounded start.state good)

    settle : law.EnoughMovesSettle t
    settle start good log end run calm enough =
        charged.zero_is_stable end.state (runs_end_in_states t table start good log end run) (let falls = (paid start good log end run calm).0 in omega (arith, falls, enough))

    may_begin : law.RunsMayBegin t weight
    may_begin = begun.runs_may_begin t weight table charged flagless

pub hsu_huang_laws : AreLaws hsu_huang 1 hsu_huang_cost
hsu_huang_laws = laws_from hsu_huang 1 hsu_huang_cost hsu_huang_table hsu_huang_inside hsu_huang_flagless hsu_huang_charged hsu_huang_costed

pub manne_laws : AreLaws manne 3 manne_cost
manne_laws = laws_from manne 3 manne_cost manne_table manne_inside manne_flagless manne_charged manne_costed

-- ---- by Manne's rules: the charge is at least the number of unmarried nodes; if it is equal, the network is stable

-- a state is stable if its charge plus its paired nodes are at most the number of nodes
pub least_charge_is_stable : (s : State) → IsState s → manne_charge s + 2 * length (mutual_pairs s) ≤ node_count s.network → IsStable true s
least_charge_is_stable s good least =
    let pairs = married_are_pairs s good in manne_least_is_stable s good (omega (arith, pairs, least))

-- a run ends stable if its moves reach the charge at its start minus the nodes that are unmarried at its
-- end
pub manne_enough_moves : (start : Moment) → IsState start.state → (log : List Entry) (end : Moment) → Run manne start log end → IsUndisturbed log → manne_charge start.state + 2 * length (mutual_pairs end.state) ≤ moves_in log + node_count start.state.network → IsStable true end.state
manne_enough_moves start good log end run calm enough =
    let lowers = run_lowers manne 3 manne_table manne_charged start good log end run calm in
    let paid = lowers.0 in
    let nodes = ap node_count lowers.1 in
    least_charge_is_stable end.state (runs_end_in_states manne manne_table start good log end run) (omega (arith, paid, nodes, enough))

-- in any state the charge plus the paired nodes are at least the number of nodes
pub charge_is_more : (s : State) → IsState s → node_count s.network ≤ manne_charge s + 2 * length (mutual_pairs s)
charge_is_more s good = let pairs = married_are_pairs s good in let each = unmarried_charge s in omega (arith, pairs, each)
