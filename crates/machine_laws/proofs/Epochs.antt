-- The epochs of a run: the moves of each epoch are at most twice its edges plus a weight for each of its
-- nodes.
use Rattle.machine_laws.proofs.ChargePrelude.{◌≡◌, ◌≢◌, ℕ, ◌+◌, ◌*◌, ◌≤◌, List, [], ◌∷◌, length, All, refl, sym, ap, ◌∙◌, arith, All-nil, All-cons, All-append, Reply, Accepted, Moves, node_count, edge_count, State, IsState, opening_with, RuleTable, spent_after, Entry, Moment, beginning_with, Epoch, epoch_at, epochs_by, epochs_from, opening_is_state, IsTable, answers_keep, IsCharged, IsWithinBound, IsPath, IsBoundedEpoch}
use Rattle.machine_laws.proofs.ChargesOfRuns.{answer_lowers, answer_within}
use Rattle.machine_laws.proofs.Laws.{beginning_is_within}

-- the epoch that contains this moment
pub record IsEpochAt (m : Moment) (epoch : Epoch) : Type 0 where
  pub moves : epoch.moves ≡ m.spent
  pub edges : epoch.edges ≡ edge_count m.state.network
  pub nodes : epoch.nodes ≡ node_count m.state.network

bounded_at : (t : RuleTable) (weight : ℕ) (m : Moment) (epoch : Epoch) → IsEpochAt m epoch → IsWithinBound t weight m → IsBoundedEpoch weight epoch
bounded_at t weight m epoch at within =
    let weights = ap (λ n. weight * n) at.nodes in omega (arith, at.moves, at.edges, weights, within)

-- the epoch continues if the network is the same
goes_on : (m : Moment) (epoch : Epoch) (s : State) (moved : ℕ) → IsEpochAt m epoch → s.network ≡ m.state.network → IsEpochAt (record { state = s; spent = m.spent + moved }) (record epoch { moves = epoch.moves + moved })
goes_on m epoch s moved at same = grind (arith, edge_count, node_count)

keeps_on : (m : Moment) (epoch : Epoch) (s : State) → IsEpochAt m epoch → s.network ≡ m.state.network → IsEpochAt (record { state = s; spent = m.spent }) epoch
keeps_on m epoch s at same = record { moves = at.moves; edges = at.edges ∙ sym (ap edge_count same); nodes = at.nodes ∙ sym (ap node_count same) }

-- An answer ends a bounded epoch and begins one, or continues it.
epoch_turns : (t : RuleTable) (weight : ℕ) (m : Moment) (epoch : Epoch) (number : ℕ) (reply : Reply) (s : State) → IsEpochAt m epoch → IsWithinBound t weight m → (reply ≢ Accepted → s.network ≡ m.state.network) → All (IsBoundedEpoch weight) (epochs_by reply number s epoch).0 × IsEpochAt (record { state = s; spent = spent_after m.spent reply }) (epochs_by reply number s epoch).1
epoch_turns t weight m epoch number Accepted s at within same =
    (All-cons (IsBoundedEpoch weight) epoch [] (bounded_at t weight m epoch at within) (All-nil (IsBoundedEpoch weight)), record { moves = refl; edges = refl; nodes = refl })
epoch_turns t weight m epoch number (Moves moves) s at within same = (All-nil (IsBoundedEpoch weight), goes_on m epoch s (length moves) at (same (λ e. cc)))
epoch_turns t weight m epoch number reply s at within same = (All-nil (IsBoundedEpoch weight), keeps_on m epoch s at (same (λ e. cc)))

-- From a moment within the bound, each epoch is bounded.
pub epochs_are_bounded : (t : RuleTable) (weight : ℕ) → IsTable t → IsCharged t weight → (start : Moment) → IsState start.state → IsWithinBound t weight start → (number : ℕ) (epoch : Epoch) → IsEpochAt start epoch → (path : List (Entry × State)) → IsPath t start path → All (IsBoundedEpoch weight) (epochs_from number epoch path)
epochs_are_bounded t weight table charged start good within number epoch at [] path =
    All-cons (IsBoundedEpoch weight) epoch [] (bounded_at t weight start epoch at within) (All-nil (IsBoundedEpoch weight))
epochs_are_bounded t weight table charged start good within number epoch at (((event, reply), s) ∷ steps) (answers, path) =
    let turn = epoch_turns t weight start epoch number reply s at within (λ calm. (answer_lowers t weight charged start.state good start.spent event reply s answers calm).1) in
    All-append (IsBoundedEpoch weight) (epochs_by reply number s epoch).0 (epochs_from (number + 1) (epochs_by reply number s epoch).1 steps) turn.0
    (epochs_are_bounded t weight table charged (record { state = s; spent = spent_after start.spent reply })
    (answers_keep t table start.state good start.spent event reply s answers)
    (answer_within t weight table charged start good within event reply s answers)
    (number + 1) (epochs_by reply number s epoch).1 turn.1 steps path)

-- In a run from the opening state each epoch is bounded, the first and the last included.
pub opening_epochs_are_bounded : (t : RuleTable) (weight : ℕ) → IsTable t → IsCharged t weight → (size count number : ℕ) (path : List (Entry × State)) → IsPath t (beginning_with size count) path → All (λ epoch. epoch.moves ≤ 2 * epoch.edges + weight * epoch.nodes) (epochs_from number (epoch_at 0 (opening_with size count)) path)
opening_epochs_are_bounded t weight table charged size count number path steps =
    epochs_are_bounded t weight table charged (beginning_with size count) (opening_is_state size count) (beginning_is_within t weight charged size count) number (epoch_at 0 (opening_with size count)) (record { moves = refl; edges = refl; nodes = refl }) path steps
