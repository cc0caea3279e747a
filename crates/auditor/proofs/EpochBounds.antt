-- Bounds of epochs: an epoch's nodes bound its rounds, and the costs and the first charge all moves.
use Rattle.auditor.proofs.Prelude.{◌≡◌, ◌≢◌, ℕ, ◌+◌, ◌≤◌, List, [], ◌∷◌, ◌++◌, refl, sym, ap, ◌∙◌, arith, All, AllByRecursion, RuleSet, Hh, Manne, Reply, Accepted, node_count, State, IsState, Answers, spent_after, table_of, Entry, Epoch, Moment, epochs_by, epochs_from, epoch_at, IsPath, CostedEpoch, AreCostedEpochs, epochs_in, first_epoch, rounds_in_rows, rounds_along, rounds_bound, HasFewRounds, sum_by, None, sum_by-append, sum_by-cons, Event, moves_in, moves_of, answer_cost, path_cost, path_entries, hsu_huang_path_costs, manne_path_costs, cost_by, ArePaid, costs_along, costs_by, paid_by}
use Rattle.std.proofs.lemmas.List.Elements.{All-push, All-from_recursion}
use Rattle.rule_machine.specs.Run.{Run}
use Rattle.machine_laws.specs.ChargeWords.{IsUndisturbed}
use Rattle.round_laws.specs.Rounds.{rounds_in}
use Rattle.auditor.proofs.EpochRounds.{Stage}
use Rattle.auditor.proofs.Spent.{is_table, opens_in_state}
use Rattle.machine_laws.proofs.Runs.{answers_keep, run_add}
use Rattle.round_laws.proofs.HsuHuang as hsu_huang_law
use Rattle.round_laws.proofs.Manne as manne_law

-- an undisturbed run has few rounds
few_in_run : (rules : RuleSet) (start : Moment) → IsState start.state → (log : List Entry) (end : Moment) → Run (table_of rules) start log end → IsUndisturbed log → rounds_in (table_of rules) start.state log ≤ rounds_bound rules (node_count start.state.network)
few_in_run Hh start good log end run calm = hsu_huang_law.rounds_are_few start good log end run calm
few_in_run Manne start good log end run calm = manne_law.rounds_are_few start good log end run calm

-- the epoch that has begun: where it began, its entries, and where they led
record Begun (rules : RuleSet) (epoch : Epoch) : Type 0 where
  pub start : Moment
  pub good : IsState start.state
  pub log : List Entry
  pub now : Moment
  pub good_now : IsState now.state
  pub run : Run (table_of rules) start log now
  pub calm : IsUndisturbed log
  pub nodes : epoch.nodes ≡ node_count start.state.network

-- an epoch that begins
abbrev begun_at : (rules : RuleSet) (epoch : Epoch) (start : Moment) → IsState start.state → epoch.nodes ≡ node_count start.state.network → Begun rules epoch
begun_at rules epoch start good nodes = record { start = start; good = good; log = []; now = start; good_now = good; run = refl; calm = λ k d below. absurd (omega (arith, below)); nodes = nodes }

-- an epoch that is over has few rounds
few_in_row : (rules : RuleSet) (epoch : Epoch) (b : Begun rules epoch) (row : CostedEpoch) → row.epoch ≡ epoch → row.rounds ≡ rounds_in (table_of rules) b.start.state b.log → HasFewRounds rules row
few_in_row rules epoch b row e r = rw (r, e, b.nodes) (few_in_run rules b.start b.good b.log b.now b.run b.calm)

abbrev FewFrom : RuleSet → ℕ → List Stage → Type 0
FewFrom rules number path =
    (epoch : Epoch) (b : Begun rules epoch) → IsPath (table_of rules) b.now path → (rows : List CostedEpoch) → epochs_in rows ≡ epochs_from number epoch path → rounds_in_rows rows ≡ rounds_along (table_of rules) b.start.state b.log path
    → AllByRecursion (HasFewRounds rules) rows

-- an entry that is no disturbance
abbrev goes_on : (rules : RuleSet) (epoch next : Epoch) (b : Begun rules epoch) (entry : Entry) (s : State) → next.nodes ≡ epoch.nodes → Answers (table_of rules) b.now.state b.now.spent entry.0 entry.1 s → entry.1 ≢ Accepted → Begun rules next
goes_on rules epoch next b entry s same answers calm = record {
  start = b.start;
  good = b.good;
  log = b.log ++ entry ∷ [];
  now = record { state = s; spent = spent_after b.now.spent entry.1 };
  good_now = answers_keep (table_of rules) (is_table rules) b.now.state b.good_now b.now.spent entry.0 entry.1 s answers;
  run = run_add (table_of rules) b.start b.now b.log entry s b.run answers;
  calm = All-push (λ (e : Entry). e.1 ≢ Accepted) b.log entry b.calm calm;
  nodes = same ∙ b.nodes;
}

abbrev kind : Reply → ℕ
kind Accepted = 1
kind reply = 0

other : (reply : Reply) → kind reply ≡ 0 → reply ≢ Accepted
other reply none same = let one : 1 ≡ 0 = sym (ap kind same) ∙ none in absurd (omega (arith, one))

few_from : (rules : RuleSet) (number : ℕ) (path : List Stage) → FewFrom rules number path
few_from rules number [] epoch b is [] e r = absurd cc
few_from rules number [] epoch b is (row ∷ []) e r = (few_in_row rules epoch b row (cc) (cc), tt)
few_from rules number [] epoch b is (row ∷ x ∷ rows) e r = absurd cc
few_from rules number (((event, Accepted), s) ∷ path) epoch b is [] e r = absurd cc
few_from rules number (((event, Accepted), s) ∷ path) epoch b (answers, is) (row ∷ rows) e r =
    let good = answers_keep (table_of rules) (is_table rules) b.now.state b.good_now b.now.spent event Accepted s answers in
    let start : Moment = record { state = s; spent = spent_after b.now.spent Accepted } in
    (few_in_row rules epoch b row (cc) (cc), few_from rules (number + 1) path (epoch_at number s) (begun_at rules _ start good refl) is rows (cc) (cc))
few_from rules number (((event, reply), s) ∷ path) epoch b (answers, is) rows e r =
    few_from rules (number + 1) path (epochs_by reply number s epoch).1 (goes_on rules epoch _ b (event, reply) s refl answers (other reply refl)) is rows e r

-- each row's rounds are within their bound
pub rows_few : (bytes : List ℕ) (rules : RuleSet) (rows : List CostedEpoch) → AreCostedEpochs bytes rules rows → All (HasFewRounds rules) rows
rows_few bytes rules rows are =
    let is = are.run.transcript in
    All-from_recursion (HasFewRounds rules) rows
    (few_from rules (is.start.count + 1) are.path (first_epoch are.opening is.start) (begun_at rules _ is.start.moment (opens_in_state rules are.opening is.start is.opens) refl) are.run.is_path rows are.epochs are.rounds)

-- ---- the moves

abbrev moves_at : Epoch → ℕ
moves_at epoch = epoch.moves

moves_turn : (reply : Reply) (number : ℕ) (s : State) (epoch : Epoch) → sum_by moves_at (epochs_by reply number s epoch).0 + (epochs_by reply number s epoch).1.moves ≡ epoch.moves + moves_of reply
moves_turn Accepted number s epoch = omega arith
moves_turn reply number s epoch = omega arith

moves_from : (number : ℕ) (epoch : Epoch) (path : List (Entry × State)) → sum_by moves_at (epochs_from number epoch path) ≡ epoch.moves + moves_in (path_entries path)
moves_from number epoch [] = omega arith
moves_from number epoch (step ∷ path) =
    let turn = epochs_by step.0.1 number step.1 epoch in
    omega (
      arith,
      sum_by-append moves_at turn.0 (epochs_from (number + 1) turn.1 path),
      moves_from (number + 1) turn.1 path,
      moves_turn step.0.1 number step.1 epoch,
      sum_by-cons (λ (entry : Entry). moves_of entry.1) step.0 (path_entries path),
    )

-- ---- the costs

cost_turn : (reply : Reply) (cost : ℕ) → sum_by paid_by (costs_by reply cost) ≡ answer_cost cost reply
cost_turn Accepted cost = omega arith
cost_turn reply cost = refl

costs_sum : (cost : State → Event → ℕ) (s : State) (path : List (Entry × State)) → sum_by paid_by (costs_along cost s path) ≡ path_cost cost s path
costs_sum cost s [] = refl
costs_sum cost s (step ∷ path) =
    omega (arith, sum_by-append paid_by (costs_by step.0.1 (cost s step.0.0)) (costs_along cost step.1 path), cost_turn step.0.1 (cost s step.0.0), costs_sum cost step.1 path)

-- ---- both

path_paid : (rules : RuleSet) (start : Moment) → IsState start.state → (path : List (Entry × State)) → IsPath (table_of rules) start path → moves_in (path_entries path) ≤ (table_of rules).charge start.state + path_cost (cost_by rules) start.state path
path_paid Hh start good path is = omega (arith, hsu_huang_path_costs start good path is)
path_paid Manne start good path is = omega (arith, manne_path_costs start good path is)

pub rows_paid : (bytes : List ℕ) (rules : RuleSet) (rows : List CostedEpoch) (are : AreCostedEpochs bytes rules rows) → ArePaid rules are.run.transcript.start.moment rows
rows_paid bytes rules rows are =
    let is = are.run.transcript in
    let start = is.start.moment in
    let paid = path_paid rules start (opens_in_state rules are.opening is.start is.opens) are.path are.run.is_path in
    let moves = ap (sum_by moves_at) are.epochs ∙ moves_from (is.start.count + 1) (first_epoch are.opening is.start) are.path in
    let costs = ap (sum_by paid_by) are.costs ∙ sum_by-cons paid_by None (costs_along (cost_by rules) start.state are.path) in
    omega (arith, paid, moves, costs, costs_sum (cost_by rules) start.state are.path)
