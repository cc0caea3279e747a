-- The laws of containment, for a table of rules: the contracts of the functions of src/law.rt.
use Rattle.std.specs.Prelude.{◌≡◌, ℕ, ◌+◌, ◌≤◌, false, List, length, count_by, None, Contains, Any, IsTrue, ◌⊎◌}
use Rattle.rule_machine.specs.declared.choice.Item.{Item}
use Rattle.rule_machine.specs.declared.act.Moved.{Moved}
use Rattle.rule_machine.specs.declared.event.Event.{Event}
use Rattle.rule_machine.specs.declared.reply.Reply.TheVariants.{Accepted, Moves}
use Rattle.rule_machine.specs.Network.{Network, names, linked, present}
use Rattle.rule_machine.specs.State.{State, IsState}
use Rattle.rule_machine.specs.RuleTable.{RuleTable, rule_at}
use Rattle.rule_machine.specs.Step.{IsStep}
use Rattle.rule_machine.specs.Stable.{IsStable, mutual_pairs}
use Rattle.rule_machine.specs.Answer.{Answers}
use Rattle.rule_machine.specs.Run.{Entry, Moment, Run}
use Rattle.machine_laws.specs.ChargeWords.{IsUndisturbed}
use Rattle.machine_laws.specs.Costs.{end_of_path, path_entries}
use Rattle.machine_laws.specs.Epochs.{IsPath}
use Rattle.containment_laws.specs.Rest.{is_surrounded, is_at_rest}
use Rattle.containment_laws.specs.Reach.{is_parted, is_in_reach, reach_size, lost_pairs, partings_in, named_by}
use Rattle.containment_laws.specs.Movers.{moves_at, has_moved, is_ever_reached, KeepsRegisters}

-- ---- steps

-- No rule is enabled at a node at rest.
abbrev pub RestIsIdle : RuleTable → Type 0
RestIsIdle t = (s : State) → IsState s → (v : ℕ) → IsTrue (is_at_rest t.flags s v) → rule_at t s v ≡ None

-- In a step a node at rest does not move, keeps its registers and stays at rest, whatever other nodes move.
abbrev pub StepsLeaveRest : RuleTable → Type 0
StepsLeaveRest t =
    (s : State) → IsState s → (items : List Item) (moves : List Moved) (s' : State) → IsStep t s items moves s'
    → (v : ℕ) → IsTrue (is_at_rest t.flags s v) → (moves_at v (Moves moves) ≡ false) × KeepsRegisters s s' v × IsTrue (is_at_rest t.flags s' v)

-- A step breaks no pair.
abbrev pub StepsKeepPairs : RuleTable → Type 0
StepsKeepPairs t =
    (s : State) → IsState s → (items : List Item) (moves : List Moved) (s' : State) → IsStep t s items moves s'
    → (e : ℕ × ℕ) → Contains (mutual_pairs s) e → Contains (mutual_pairs s') e

-- ---- runs without a disturbance

-- In a run without a disturbance a node at rest never moves, keeps its registers and ends at rest, from any
-- state, whatever the daemon chooses.
abbrev pub RunsLeaveRest : RuleTable → Type 0
RunsLeaveRest t =
    (start : Moment) → IsState start.state → (log : List Entry) (end : Moment) → Run t start log end → IsUndisturbed log
    → (v : ℕ) → IsTrue (is_at_rest t.flags start.state v) → (has_moved log v ≡ false) × KeepsRegisters start.state end.state v × IsTrue (is_at_rest t.flags end.state v)

-- Each node that moves in a run without a disturbance was not at rest at the start.
abbrev pub MoversWereRestless : RuleTable → Type 0
MoversWereRestless t =
    (start : Moment) → IsState start.state → (log : List Entry) (end : Moment) → Run t start log end → IsUndisturbed log
    → (v : ℕ) → IsTrue (has_moved log v) → is_at_rest t.flags start.state v ≡ false

-- No schedule breaks a pair.
abbrev pub RunsKeepPairs : RuleTable → Type 0
RunsKeepPairs t =
    (start : Moment) → IsState start.state → (log : List Entry) (end : Moment) → Run t start log end → IsUndisturbed log
    → (e : ℕ × ℕ) → Contains (mutual_pairs start.state) e → Contains (mutual_pairs end.state) e

-- ---- one disturbance

-- A node at rest that is not in the disturbance's reach is at rest after the disturbance, with the same
-- registers if the node is still present.
abbrev pub DisturbancesReach : RuleTable → Type 0
DisturbancesReach t =
    (s : State) → IsState s → (spent : ℕ) (event : Event) (after : State) → Answers t s spent event Accepted after
    → (v : ℕ) → IsTrue (is_at_rest t.flags s v) → is_in_reach s event v ≡ false
    → IsTrue (is_at_rest t.flags after v) × (IsTrue (present after.network v) → KeepsRegisters s after v)

-- At most `reach_size` nodes are in the reach of an event, whatever the size of the network.
abbrev pub ReachIsSmall : Type 0
ReachIsSmall =
    (s : State) → IsState s → (event : Event) → count_by (is_in_reach s event) (names s.network) ≤ reach_size s event

-- In a stable network the reach is exact: after the disturbance no node in the reach is at rest. One
-- exception, if flags are not used: a parted node whose neighbours were all married may be at rest.
abbrev pub ReachIsExact : RuleTable → Type 0
ReachIsExact t =
    (s : State) → IsState s → IsStable t.flags s → (spent : ℕ) (event : Event) (after : State) → Answers t s spent event Accepted after
    → (v : ℕ) → IsTrue (is_in_reach s event v) → IsTrue t.flags ⊎ (is_parted s event v ≡ false) ⊎ (is_surrounded s v ≡ false)
    → is_at_rest t.flags after v ≡ false

-- A disturbance breaks at most one pair: any two pairs that it breaks are the same.
abbrev pub DisturbancesBreakOne : RuleTable → Type 0
DisturbancesBreakOne t =
    (s : State) → IsState s → (spent : ℕ) (event : Event) (after : State) → Answers t s spent event Accepted after
    → (e f : ℕ × ℕ) → Contains (mutual_pairs s) e → Contains (mutual_pairs s) f
    → (Contains (mutual_pairs after) e → ⊥) → (Contains (mutual_pairs after) f → ⊥) → e ≡ f

-- v is at most two links away from a
abbrev pub IsWithinTwo : Network → ℕ → ℕ → Type 0
IsWithinTwo net a v =
    (v ≡ a) ⊎ IsTrue (linked net a v) ⊎ ((w : ℕ) × IsTrue (linked net a w) × IsTrue (linked net w v))

-- Each node in the reach of an event is within two links of a node that the event names: the containment
-- radius is 2.
abbrev pub ReachIsNear : Type 0
ReachIsNear =
    (s : State) → IsState s → (event : Event) (v : ℕ) → IsTrue (is_in_reach s event v) → Any (λ a. IsWithinTwo s.network a v) (named_by event)

-- ---- containment

-- After one disturbance of a stable network only nodes in the disturbance's reach ever move, whatever the
-- daemon chooses. Each other node that is still present keeps its registers, and is at rest.
abbrev pub OneIsContained : RuleTable → Type 0
OneIsContained t =
    (s : State) → IsState s → IsStable t.flags s → (spent : ℕ) (event : Event) (after : State) → Answers t s spent event Accepted after
    → (log : List Entry) (end : Moment) → Run t (record { state = after; spent = 0 }) log end → IsUndisturbed log
    → (v : ℕ) → is_in_reach s event v ≡ false
    → (has_moved log v ≡ false) × (IsTrue (present end.state.network v) → KeepsRegisters s end.state v) × IsTrue (is_at_rest t.flags end.state v)

-- So each node that moves after one disturbance of a stable network is in the disturbance's reach.
abbrev pub MoversWereReached : RuleTable → Type 0
MoversWereReached t =
    (s : State) → IsState s → IsStable t.flags s → (spent : ℕ) (event : Event) (after : State) → Answers t s spent event Accepted after
    → (log : List Entry) (end : Moment) → Run t (record { state = after; spent = 0 }) log end → IsUndisturbed log
    → (v : ℕ) → IsTrue (has_moved log v) → IsTrue (is_in_reach s event v)

-- After one disturbance of any state at most one pair is lost at the end.
abbrev pub OnePairIsLost : RuleTable → Type 0
OnePairIsLost t =
    (s : State) → IsState s → (spent : ℕ) (event : Event) (after : State) → Answers t s spent event Accepted after
    → (log : List Entry) (end : Moment) → Run t (record { state = after; spent = 0 }) log end → IsUndisturbed log
    → (e f : ℕ × ℕ) → Contains (mutual_pairs s) e → Contains (mutual_pairs s) f
    → (Contains (mutual_pairs end.state) e → ⊥) → (Contains (mutual_pairs end.state) f → ⊥) → e ≡ f

-- A node at rest at the start and in the reach of no disturbance never moves, and is at rest at the end.
-- Holds for any disturbances, from any state, whatever the daemon chooses between them.
abbrev pub AllAreContained : RuleTable → Type 0
AllAreContained t =
    (start : Moment) → IsState start.state → (path : List (Entry × State)) → IsPath t start path
    → (v : ℕ) → IsTrue (is_at_rest t.flags start.state v) → is_ever_reached start.state path v ≡ false
    → (has_moved (path_entries path) v ≡ false) × IsTrue (is_at_rest t.flags (end_of_path start.state path) v)

-- Each node that moves was not at rest at the start, or is in the reach of a disturbance.
abbrev pub MoversAreAccountedFor : RuleTable → Type 0
MoversAreAccountedFor t =
    (start : Moment) → IsState start.state → (path : List (Entry × State)) → IsPath t start path
    → (v : ℕ) → IsTrue (has_moved (path_entries path) v) → (is_at_rest t.flags start.state v ≡ false) ⊎ IsTrue (is_ever_reached start.state path v)

-- A run loses at most one pair of its start for each disturbance that parts a pair.
abbrev pub PairsAreAccountedFor : RuleTable → Type 0
PairsAreAccountedFor t =
    (start : Moment) → IsState start.state → (path : List (Entry × State)) → IsPath t start path
    → lost_pairs start.state (end_of_path start.state path) ≤ partings_in start.state path

-- So the number of pairs falls by at most the number of disturbances that part a pair.
abbrev pub PairsAreLeft : RuleTable → Type 0
PairsAreLeft t =
    (start : Moment) → IsState start.state → (path : List (Entry × State)) → IsPath t start path
    → length (mutual_pairs start.state) ≤ length (mutual_pairs (end_of_path start.state path)) + partings_in start.state path

-- ---- all of them

-- The table contains faults: all these laws hold of it.
pub record ContainsFaults (t : RuleTable) : Type 0 where
  pub rest_is_idle : RestIsIdle t
  pub steps_leave_rest : StepsLeaveRest t
  pub steps_keep_pairs : StepsKeepPairs t
  pub runs_leave_rest : RunsLeaveRest t
  pub movers_were_restless : MoversWereRestless t
  pub runs_keep_pairs : RunsKeepPairs t
  pub disturbances_reach : DisturbancesReach t
  pub disturbances_break_one : DisturbancesBreakOne t
  pub one_is_contained : OneIsContained t
  pub movers_were_reached : MoversWereReached t
  pub one_pair_is_lost : OnePairIsLost t
  pub all_are_contained : AllAreContained t
  pub movers_are_accounted_for : MoversAreAccountedFor t
  pub pairs_are_accounted_for : PairsAreAccountedFor t
  pub pairs_are_left : PairsAreLeft t
  pub reach_is_exact : ReachIsExact t
