-- The epochs that a journal keeps after one more entry are those of every path.
use Rattle.step_log.proofs.Prelude.{◌≡◌, ◌≢◌, ℕ, ◌+◌, ◌*◌, ◌≤◌, List, [], ◌∷◌, ◌++◌, length, map, All, append_assoc, refl, sym, ap, ap₂, ◌∙◌, subst, arith, append-nil, get_or-map, map-append, length-map, EpochStart, Event, Reply, Accepted, Moves, node_count, edge_count, State, RuleTable, Answers, spent_after, Entry, Moment, epochs_by, epochs_from, open_at, IsTable, begins_in_state, begins_once, begins_within, charge_bound, IsCharged, Effect, rests, steps, disturbs, effect, step_network, IsPath, epochs_are_bounded, Epoch, begun_at, dropped, AreEpochs, IsEpochWithinBound, IsEpochPath, begun_by, ended_by, epochs_along, of_run, open_in, over_in, path_end, IsJournal, RetainedLog, Begins, moment_in}
use Rattle.rule_machine.specs.Run.{Epoch as EpochOf}
use Rattle.step_log.proofs.Once.{path_once}

-- ---- one step more on a path

over_add : (n m : ℕ) (e : EpochOf) (path : List (Entry × State)) (step : Entry × State) → m ≡ n + length path → over_in n e (path ++ step ∷ []) ≡ over_in n e path ++ (epochs_by step.0.1 m step.1 (open_in n e path)).0
over_add n m e [] step at =
    let here : n ≡ m = omega arith in
    append-nil (epochs_by step.0.1 n step.1 e).0 ∙ ap (λ k. (epochs_by step.0.1 k step.1 e).0) here
over_add n m e (first ∷ path) step at =
    let turn = epochs_by first.0.1 n first.1 e in
    ap (λ l. turn.0 ++ l) (over_add (n + 1) m turn.1 path step (omega arith))
    ∙ sym (append_assoc turn.0 (over_in (n + 1) turn.1 path) (epochs_by step.0.1 m step.1 (open_in (n + 1) turn.1 path)).0)

open_add : (n m : ℕ) (e : EpochOf) (path : List (Entry × State)) (step : Entry × State) → m ≡ n + length path → open_in n e (path ++ step ∷ []) ≡ (epochs_by step.0.1 m step.1 (open_in n e path)).1
open_add n m e [] step at =
    let here : n ≡ m = omega arith in ap (λ k. (epochs_by step.0.1 k step.1 e).1) here
open_add n m e (first ∷ path) step at = open_add (n + 1) m (epochs_by first.0.1 n first.1 e).1 path step (omega arith)

-- the epochs of a path are those that are over, and the one that goes on
all_epochs : (n : ℕ) (e : EpochOf) (path : List (Entry × State)) → epochs_from n e path ≡ over_in n e path ++ open_in n e path ∷ []
all_epochs n e [] = refl
all_epochs n e (first ∷ path) =
    let turn = epochs_by first.0.1 n first.1 e in
    ap (λ l. turn.0 ++ l) (all_epochs (n + 1) turn.1 path)
    ∙ sym (append_assoc turn.0 (over_in (n + 1) turn.1 path) (open_in (n + 1) turn.1 path ∷ []))

end_add : (start : Moment) (path : List (Entry × State)) (step : Entry × State) → path_end start (path ++ step ∷ []) ≡ record { state = step.1; spent = spent_after (path_end start path).spent step.0.1 }
end_add start [] step = refl
end_add start (first ∷ path) step = end_add (record { state = first.1; spent = spent_after start.spent first.0.1 }) path step

path_add : (t : RuleTable) (start : Moment) (path : List (Entry × State)) (step : Entry × State) → IsPath t start path → Answers t (path_end start path).state (path_end start path).spent step.0.0 step.0.1 step.1 → IsPath t start (path ++ step ∷ [])
path_add t start [] step is answers = (answers, tt)
path_add t start (first ∷ path) step is answers =
    (is.0, path_add t (record { state = first.1; spent = spent_after start.spent first.0.1 }) path step is.1 answers)

-- ---- the epochs after one entry

-- the network stays if no disturbance is accepted
stays : (t : RuleTable) (s : State) (n : ℕ) (event : Event) (reply : Reply) (s' : State) → Answers t s n event reply s' → reply ≢ Accepted → s'.network ≡ s.network
stays t s n event reply s' answers calm = by_effect (effect t s n event reply s' answers)
  where
    by_effect : Effect t s reply s' → s'.network ≡ s.network
    by_effect (rests same none keeps) = ap (λ u. u.network) same
    by_effect (steps items moves is step) = step_network t s items moves s' step
    by_effect (disturbs is) = absurd (calm is)

ends : (reply : Reply) (number : ℕ) (s : State) (e : EpochOf) → (epochs_by reply number s e).0 ≡ ended_by reply e
ends Accepted number s e = refl
ends other number s e = refl

same_size : (start : EpochStart) (spent : ℕ) (s s' : State) → s'.network ≡ s.network → record { start = start; moves = spent; edges = edge_count s.network; nodes = node_count s.network } ≡ open_at start (record { state = s'; spent = spent })
same_size start spent s s' same =
    ap₂ (λ (m n : ℕ). record { start = start; moves = spent; edges = m; nodes = n }) (sym (ap edge_count same)) (sym (ap node_count same))

continues : (reply : Reply) (number : ℕ) (begun : EpochStart) (m : Moment) (s' : State) → (reply ≢ Accepted → s'.network ≡ m.state.network) → (epochs_by reply number s' (open_at begun m)).1 ≡ open_at (begun_by reply number begun) (record { state = s'; spent = spent_after m.spent reply })
continues Accepted number begun m s' calm = refl
continues (Moves moves) number begun m s' calm = same_size begun (m.spent + length moves) m.state s' (calm (λ e. cc))
continues other number begun m s' calm = same_size begun m.spent m.state s' (calm (λ e. cc))

-- one entry more
pub told_add : (t : RuleTable) (n : ℕ) (began : EpochStart) (start m : Moment) (log : List Entry) (over : List EpochOf) (begun : EpochStart) → IsEpochPath t n began start log m over begun → (entry : Entry) (s : State) → Answers t m.state m.spent entry.0 entry.1 s → IsEpochPath t n began start (log ++ entry ∷ []) (record { state = s; spent = spent_after m.spent entry.1 }) (over ++ ended_by entry.1 (open_at begun m)) (begun_by entry.1 (n + length log) begun)
told_add t n began start m log over begun told entry s answers =
    let first = open_at began start in
    let step : Entry × State = (entry, s) in
    let number = n + length log in
    let at : number ≡ n + length told.path = omega (arith, ap length told.entries, length-map told.path (λ (q : Entry × State). q.0)) in
    let before : open_in n first told.path ≡ open_at begun m = told.goes_on in
    record {
      path = told.path ++ step ∷ [];
      entries = map-append (λ (q : Entry × State). q.0) told.path (step ∷ []) ∙ ap (λ l. l ++ entry ∷ []) told.entries;
      is_path = path_add t start told.path step told.is_path (subst (λ (o : Moment). Answers t o.state o.spent entry.0 entry.1 s) (sym told.ends) answers);
      ends = end_add start told.path step ∙ ap (λ (o : Moment). record { state = s; spent = spent_after o.spent entry.1 }) told.ends;
      ended = ap₂ (λ (a b : List EpochOf). a ++ b) told.ended (ap (ended_by entry.1) (sym before) ∙ sym (ends entry.1 number s (open_in n first told.path)))
          ∙ sym (over_add n number first told.path step at);
      goes_on = open_add n number first told.path step at
          ∙ ap (λ (e : EpochOf). (epochs_by entry.1 number s e).1) before
          ∙ continues entry.1 number begun m s (stays t m.state m.spent entry.0 entry.1 s answers);
    }

-- ---- all of them

All-unmap : {X Y : Type 0} (P : Y → Type 0) (f : X → Y) (xs : List X) → All P (map f xs) → All (λ x. P (f x)) xs
All-unmap P f xs all k d within = subst P (get_or-map f xs k d (f d) within) (all k (f d) (omega (arith, length-map xs f)))

told_along : (t : RuleTable) (weight : ℕ) (kept : RetainedLog) (over : List Epoch) (begun : EpochStart) (is : IsJournal t weight kept over begun) → map of_run over ++ open_at begun (moment_in kept) ∷ [] ≡ epochs_along kept is.is_kept.start is.told.path
told_along t weight kept over begun is =
    ap₂ (λ (a : List EpochOf) (e : EpochOf). a ++ e ∷ []) is.told.ended (sym is.told.goes_on) ∙ sym (all_epochs (dropped kept.base + 1) (open_at (begun_at kept.base) is.is_kept.start) is.told.path)

pub told_epochs : (t : RuleTable) (weight : ℕ) (kept : RetainedLog) (over : List Epoch) (begun : EpochStart) → IsJournal t weight kept over begun → (epochs : List Epoch) → map of_run epochs ≡ map of_run over ++ open_at begun (moment_in kept) ∷ [] → AreEpochs t weight kept epochs
told_epochs t weight kept over begun is epochs are = record {
  exact = λ start path begins same along.
      let one : is.is_kept.start ≡ start = begins_once t (charge_bound weight) kept.state.network.size kept.present kept.base is.is_kept.start start is.is_kept.begins begins in
      let along' : IsPath t is.is_kept.start path = subst (λ (m : Moment). IsPath t m path) (sym one) along in
      are ∙ told_along t weight kept over begun is
      ∙ ap₂ (λ (m : Moment) (p : List (Entry × State)). epochs_along kept m p) one (path_once t is.is_kept.start is.told.path path (is.told.entries ∙ sym same) is.told.is_path along');
  start = is.is_kept.start;
  begins = is.is_kept.begins;
  path = is.told.path;
  entries = is.told.entries;
  is_path = is.told.is_path;
}

-- along each path from the beginning of what is kept, they are within their bounds
pub bounded_along : (t : RuleTable) (weight : ℕ) → IsTable t → IsCharged t weight → (kept : RetainedLog) (start : Moment) (path : List (Entry × State)) → Begins t weight kept start → IsPath t start path → All (λ (e : EpochOf). e.moves ≤ 2 * e.edges + weight * e.nodes) (epochs_along kept start path)
bounded_along t weight table charged kept start path begins along =
    epochs_are_bounded t weight table charged start
    (begins_in_state t (charge_bound weight) kept.state.network.size kept.present kept.base start begins)
    (begins_within t weight charged kept.state.network.size kept.present kept.base start begins)
    (dropped kept.base + 1) (open_at (begun_at kept.base) start) (record { moves = refl; edges = refl; nodes = refl }) path along

pub told_bounded : (t : RuleTable) (weight : ℕ) → IsTable t → IsCharged t weight → (kept : RetainedLog) (over : List Epoch) (begun : EpochStart) → IsJournal t weight kept over begun → (epochs : List Epoch) → map of_run epochs ≡ map of_run over ++ open_at begun (moment_in kept) ∷ [] → All (IsEpochWithinBound weight) epochs
told_bounded t weight table charged kept over begun is epochs are =
    All-unmap (λ (e : EpochOf). e.moves ≤ 2 * e.edges + weight * e.nodes) of_run epochs
    (subst (λ (es : List EpochOf). All (λ (e : EpochOf). e.moves ≤ 2 * e.edges + weight * e.nodes) es) (sym (are ∙ told_along t weight kept over begun is)) (bounded_along t weight table charged kept is.is_kept.start is.told.path is.is_kept.begins is.told.is_path))
