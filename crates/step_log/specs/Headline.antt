-- The headline: what the log and its callers' receipts say together, for any edits, faults, queries and daemon
-- choices of the callers' threads; and what holds of every log.
use Rattle.std.specs.Prelude.{◌≡◌, ℕ, ◌+◌, ◌*◌, ◌≤◌, ◌↔◌, [], ◌++◌, List, Option, map, All}
use Rattle.rule_machine.specs.Network.{node_count, edge_count}
use Rattle.rule_machine.specs.State.{State}
use Rattle.rule_machine.specs.RuleTable.{RuleTable, enabled_names}
use Rattle.rule_machine.specs.Stable.{IsStable, IsMaximalMatching, mutual_pairs}
use Rattle.rule_machine.specs.Run.{Entry, Moment, Run}
use Rattle.machine_laws.specs.ChargeWords.{IsUndisturbed, moves_in}
use Rattle.machine_laws.specs.Epochs.{IsPath, IsBoundedEpoch}
use Rattle.rule_engine.specs.EngineStates.{IsAnswered}
use Rattle.step_log.specs.Epochs.{epochs_along}
use Rattle.step_log.specs.Receipts.{ReceiptsView}
use Rattle.step_log.specs.RetainedLogs.{RetainedLog, Begins, moment_in}
use Rattle.step_log.specs.Settlements.{Settlement}

-- No rule is enabled exactly if the network is stable; the mutual pairs of a stable network are a maximal
-- matching. If every pointer is null or answered and the flags are right, the mutual pairs are a maximal
-- matching only if the network is stable.
pub record IsQuietWhereStable (t : RuleTable) (s : State) : Type 0 where
  pub exact : (enabled_names t s ≡ []) ↔ IsStable t.flags s
  pub matching : IsStable t.flags s → IsMaximalMatching s.network (mutual_pairs s)
  pub only : IsAnswered t.flags s → IsMaximalMatching s.network (mutual_pairs s) → IsStable t.flags s

-- From their beginning, the opening state or a base, these entries are a run of the rule machine to this
-- moment. `beginnings_lead_somewhere` proves that each prefix of a log leads to exactly one.
abbrev pub LeadsTo : RuleTable → ℕ → RetainedLog → List Entry → Moment → Type 0
LeadsTo t weight kept entries m = (start : Moment) × Begins t weight kept start × Run t start entries m

-- * run: what is kept of the log is a run of the rule machine to the network's state; moves of one step read
--   the old registers;
-- * quiet: after each prefix of the run, no rule is enabled exactly if the network is stable;
-- * budget: the moves up to the next disturbance plus the remaining charge are at most the charge at the
--   prefix's end, and this charge is at most twice the edges plus the weight for each node;
-- * epochs: so no epoch has more moves, for any states that the entries may lead through; moves before a base
--   count.
-- `budgets_by_name` and `epochs_by_name` state the two bounds for each rule set.
pub record Upholds (t : RuleTable) (weight : ℕ) (kept : RetainedLog) : Type 0 where
  pub run : LeadsTo t weight kept kept.entries (moment_in kept)
  pub quiet : (before after : List Entry) (m : Moment) → before ++ after ≡ kept.entries → LeadsTo t weight kept before m → IsQuietWhereStable t m.state
  pub budget : (before calm after : List Entry) (m n : Moment) → before ++ (calm ++ after) ≡ kept.entries → LeadsTo t weight kept before m → LeadsTo t weight kept (before ++ calm) n → IsUndisturbed calm
      → (moves_in calm + t.charge n.state ≤ t.charge m.state) × (t.charge m.state ≤ 2 * edge_count m.state.network + weight * node_count m.state.network)
  pub epochs : (start : Moment) (path : List (Entry × State)) → Begins t weight kept start → map (λ step. step.0) path ≡ kept.entries → IsPath t start path
      → All (IsBoundedEpoch weight) (epochs_along kept start path)

-- * upheld: the log is a run of the rule machine, silent exactly if stable, and the log's moves are within
--   their bounds;
-- * told: each reply to a caller is that of the run, and each entry belongs to one caller.
-- Both are true of the entries above the journal's base; below it only the receipts' numbers count. `begun` is
-- the number of the base at which the network began; none for the opening state.
pub record Headline (begun : Option ℕ) (t : RuleTable) (weight : ℕ) (kept : RetainedLog) (clerks : List ReceiptsView) : Type 0 where
  pub upheld : Upholds t weight kept
  pub told : Settlement begun kept clerks
