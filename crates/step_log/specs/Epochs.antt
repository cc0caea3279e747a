-- The epochs of a log, and those that a journal keeps of them.
use Rattle.std.specs.Prelude.{◌≡◌, ℕ, ◌+◌, ◌*◌, ◌≤◌, List, [], ◌∷◌, ◌++◌, map}
use Rattle.rule_machine.specs.declared.base.EpochStart.{EpochStart}
use Rattle.rule_machine.specs.declared.base.EpochStart.TheVariants.{At}
use Rattle.rule_machine.specs.declared.reply.Reply.{Reply}
use Rattle.rule_machine.specs.declared.reply.Reply.TheVariants.{Accepted}
use Rattle.rule_machine.specs.Network.{node_count, edge_count}
use Rattle.rule_machine.specs.State.{State}
use Rattle.rule_machine.specs.RuleTable.{RuleTable}
use Rattle.rule_machine.specs.Answer.{spent_after}
use Rattle.rule_machine.specs.Run.{Entry, Moment, epochs_by, epochs_from, open_at, Epoch as EpochOf}
use Rattle.rule_machine.specs.Base.{begun_at, dropped}
use Rattle.machine_laws.specs.Epochs.{IsPath}
use Rattle.round_laws.specs.RoundCounts.{rounds_of}
use Rattle.rule_engine.specs.PreparedEvents.{NetView}
use Rattle.step_log.specs.declared.epoch.Epoch.{Epoch}
use Rattle.step_log.specs.RetainedLogs.{RetainedLog, Begins}

-- an epoch as the definitions of runs have it
abbrev pub of_run : Epoch → EpochOf
of_run e = record { start = e.start; moves = e.moves; edges = e.edges; nodes = e.nodes }

-- the epoch that an entry with this reply ends, if any
abbrev pub ended_by : Reply → EpochOf → List EpochOf
ended_by Accepted e = e ∷ []
ended_by other e = []

-- the epoch with this start, as it is now in this network
abbrev pub epoch_now : EpochStart → NetView → Epoch
epoch_now start net =
    record { start = start; moves = net.spent; edges = edge_count net.state.network; nodes = node_count net.state.network; rounds = rounds_of net.counting }

-- the epochs that are over after an entry with this reply, if `e` was current and `over` were over before it
abbrev pub over_after : Reply → Epoch → List Epoch → List Epoch
over_after Accepted e over = over ++ e ∷ []
over_after other e over = over

-- the start of the epoch that is current after the entry with this number
abbrev pub begun_by : Reply → ℕ → EpochStart → EpochStart
begun_by Accepted number begun = At number
begun_by other number begun = begun

-- the epochs that are over along a path, and the epoch that is current at the path's end
abbrev pub over_in : ℕ → EpochOf → List (Entry × State) → List EpochOf
over_in number e [] = []
over_in number e (step ∷ path) =
    (epochs_by step.0.1 number step.1 e).0 ++ over_in (number + 1) (epochs_by step.0.1 number step.1 e).1 path

abbrev pub open_in : ℕ → EpochOf → List (Entry × State) → EpochOf
open_in number e [] = e
open_in number e (step ∷ path) = open_in (number + 1) (epochs_by step.0.1 number step.1 e).1 path

-- the moment at the end of a path
abbrev pub path_end : Moment → List (Entry × State) → Moment
path_end start [] = start
path_end start (step ∷ path) = path_end (record { state = step.1; spent = spent_after start.spent step.0.1 }) path

-- The entries, numbered from `number`, lead from `start` to `end` by a path. If the first epoch began at
-- `began`, then `over` are the epochs that are over along the path, and the current epoch began at `begun`.
pub record IsEpochPath (t : RuleTable) (number : ℕ) (began : EpochStart) (start : Moment) (log : List Entry) (end : Moment) (over : List EpochOf) (begun : EpochStart) : Type 0 where
  pub path : List (Entry × State)
  pub entries : map (λ step. step.0) path ≡ log
  pub is_path : IsPath t start path
  pub ends : path_end start path ≡ end
  pub ended : over ≡ over_in number (open_at began start) path
  pub goes_on : open_in number (open_at began start) path ≡ open_at begun end

-- the epoch's moves are at most twice its edges plus a weight for each of its nodes
abbrev pub IsEpochWithinBound : ℕ → Epoch → Type 0
IsEpochWithinBound weight e = e.moves ≤ 2 * e.edges + weight * e.nodes

-- the epochs along a path of what is kept, from the path's start
abbrev pub epochs_along : RetainedLog → Moment → List (Entry × State) → List EpochOf
epochs_along kept start path = epochs_from (dropped kept.base + 1) (open_at (begun_at kept.base) start) path

-- The epochs of the kept part of a log are those of the definitions, for any states that the machine may
-- have had after the entries; and such states exist. With a base, the first epoch began before the base and
-- includes the moves spent there.
pub record AreEpochs (t : RuleTable) (weight : ℕ) (kept : RetainedLog) (epochs : List Epoch) : Type 0 where
  pub exact : (start : Moment) (path : List (Entry × State)) → Begins t weight kept start → map (λ step. step.0) path ≡ kept.entries → IsPath t start path → map of_run epochs ≡ epochs_along kept start path
  pub start : Moment
  pub begins : Begins t weight kept start
  pub path : List (Entry × State)
  pub entries : map (λ step. step.0) path ≡ kept.entries
  pub is_path : IsPath t start path
