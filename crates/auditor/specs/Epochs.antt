-- The epochs of a transcript's run.
use Rattle.std.specs.Prelude.{◌≡◌, ℕ, ◌+◌, ◌*◌, ◌/◌, ◌≤◌, Bool, true, false, List, [], ◌∷◌, ◌++◌, map, sum_by, Option, None, Some}
use Rattle.rule_machine.specs.declared.event.Event.{Event}
use Rattle.rule_machine.specs.declared.reply.Reply.{Reply}
use Rattle.rule_machine.specs.declared.reply.Reply.TheVariants.{Accepted, Moves}
use Rattle.rule_machine.specs.declared.rule_set.RuleSet.{RuleSet}
use Rattle.rule_machine.specs.declared.rule_set.RuleSet.TheVariants.{Hh, Manne}
use Rattle.rule_machine.specs.State.{State}
use Rattle.rule_machine.specs.Base.{LogPart, EntryPart, BasePart, NumberedMoment, begun_at, entries_in}
use Rattle.rule_machine.specs.Run.{Entry, Epoch, Moment, epoch_at, epochs_by, epochs_from, open_at}
use Rattle.rule_machine.specs.RuleTable.{RuleTable}
use Rattle.rule_machine.specs.Tables.{table_of, weight_of}
use Rattle.machine_laws.specs.Epochs.{IsPath}
use Rattle.round_laws.specs.Rounds.{rounds_in}
use Rattle.round_counter.specs.Counting.{start_after, log_after}
use Rattle.reply_checker.specs.ReplyVerdicts.{cost_by}
use Rattle.auditor.specs.declared.epoch.CostedEpoch.{CostedEpoch}
use Rattle.auditor.specs.Damage.{EntryComes}
use Rattle.auditor.specs.Parts.{Opening, base_in}
use Rattle.auditor.specs.Transcript.{IsTranscript}

-- the bound on the moves of an epoch with these edges and nodes
abbrev pub bound_of : RuleSet → Epoch → ℕ
bound_of rules epoch = 2 * epoch.edges + weight_of rules * epoch.nodes

abbrev pub IsWithinItsBound : RuleSet → Epoch → Type 0
IsWithinItsBound rules epoch = epoch.moves ≤ bound_of rules epoch

-- the first epoch, as the opening determines it
abbrev pub first_epoch : Opening → NumberedMoment → Epoch
first_epoch opening start = open_at (begun_at (base_in opening)) start.moment

-- The bytes are the transcript of a run under these rules with this opening. `path` has the run's entries,
-- each with the state after it.
pub record GoesThrough (bytes : List ℕ) (rules : RuleSet) (opening : Opening) (path : List (Entry × State)) : Type 0 where
  pub log : List LogPart
  pub end : NumberedMoment
  pub transcript : IsTranscript bytes rules opening log end
  pub entries : entries_in log ≡ map (λ step. step.0) path
  pub is_path : IsPath (table_of rules) transcript.start.moment path

-- ---- costs

-- the cost of an entry's event, if the entry is an accepted disturbance
abbrev pub costs_by : Reply → ℕ → List (Option ℕ)
costs_by Accepted cost = Some cost ∷ []
costs_by reply cost = []

-- The costs of the accepted disturbances along a path, in order. Each cost is that in the state before.
abbrev pub costs_along : (State → Event → ℕ) → State → List (Entry × State) → List (Option ℕ)
costs_along cost s [] = []
costs_along cost s (step ∷ path) = costs_by step.0.1 (cost s step.0.0) ++ costs_along cost step.1 path

abbrev pub epochs_in : List CostedEpoch → List Epoch
epochs_in rows = map (λ row. row.epoch) rows

abbrev pub costs_in : List CostedEpoch → List (Option ℕ)
costs_in rows = map (λ row. row.cost) rows

-- ---- rounds

abbrev pub rounds_in_rows : List CostedEpoch → List ℕ
rounds_in_rows rows = map (λ row. row.rounds) rows

-- if the entry is an accepted disturbance, the epoch before it is over, with these rounds
abbrev pub rounds_ended_by : Reply → ℕ → List ℕ
rounds_ended_by Accepted rounds = rounds ∷ []
rounds_ended_by reply rounds = []

-- The complete rounds of the epochs along a path, in order. The present epoch began in state s, and `log` has
-- its entries before the path.
abbrev pub rounds_along : RuleTable → State → List Entry → List (Entry × State) → List ℕ
rounds_along t s log [] = rounds_in t s log ∷ []
rounds_along t s log (step ∷ path) =
    rounds_ended_by step.0.1 (rounds_in t s log) ++ rounds_along t (start_after s step.0.1 step.1) (log_after log step.0.0 step.0.1) path

-- the bound on the rounds of an epoch with this many nodes
abbrev pub rounds_bound : RuleSet → ℕ → ℕ
rounds_bound Hh nodes = nodes
rounds_bound Manne nodes = nodes + 2 * (nodes / 2)

abbrev pub HasFewRounds : RuleSet → CostedEpoch → Type 0
HasFewRounds rules row = row.rounds ≤ rounds_bound rules row.epoch.nodes

-- ---- the rows

-- The epochs are those of the run whose transcript the bytes are. Each epoch but the first has the cost of
-- the disturbance that began it. The rounds of an epoch are those that its entries complete from its beginning.
pub record AreCostedEpochs (bytes : List ℕ) (rules : RuleSet) (rows : List CostedEpoch) : Type 0 where
  pub opening : Opening
  pub path : List (Entry × State)
  pub run : GoesThrough bytes rules opening path
  pub epochs : epochs_in rows ≡ epochs_from (run.transcript.start.count + 1) (first_epoch opening run.transcript.start) path
  pub costs : costs_in rows ≡ None ∷ costs_along (cost_by rules) run.transcript.start.moment.state path
  pub rounds : rounds_in_rows rows ≡ rounds_along (table_of rules) run.transcript.start.moment.state [] path

-- a cost, or 0 if there is none
abbrev pub paid_by : Option ℕ → ℕ
paid_by None = 0
paid_by (Some cost) = cost

-- All moves together are at most the moves spent and the charge at the run's beginning, plus all costs.
abbrev pub ArePaid : RuleSet → Moment → List CostedEpoch → Type 0
ArePaid rules start rows =
    sum_by (λ epoch. epoch.moves) (epochs_in rows) ≤ start.spent + (table_of rules).charge start.state + sum_by paid_by (costs_in rows)

-- ---- part by part

-- if the next line is an accepted disturbance, the cost is that of this disturbance
abbrev pub IsNextCost : RuleSet → State → List ℕ → Option ℕ → Type 0
IsNextCost rules s rest cost =
    (number : ℕ) (entry : Entry) → EntryComes rest number entry → entry.1 ≡ Accepted → cost ≡ Some (cost_by rules s entry.0)

-- whether a reply is that of an accepted disturbance or step
abbrev pub changes : Reply → Bool
changes Accepted = true
changes (Moves moves) = true
changes reply = false

-- the entry of the next line, if there is one; at least if it changes the state
abbrev pub IsEntryAhead : List ℕ → Option Entry → Type 0
IsEntryAhead rest None = (number : ℕ) (entry : Entry) → EntryComes rest number entry → changes entry.1 ≡ false
IsEntryAhead rest (Some entry) = (number : ℕ) × EntryComes rest number entry

-- how a part counts: the beginning of the present epoch, the epoch's entries, and its rounds
abbrev pub start_at_part : State → LogPart → State → State
start_at_part start (EntryPart entry) s = start_after start entry.1 s
start_at_part start (BasePart base) s = start

abbrev pub log_at : List Entry → LogPart → List Entry
log_at log (EntryPart entry) = log_after log entry.0 entry.1
log_at log (BasePart base) = log

-- what an entry makes of the current epoch, given the state and the rounds after it; a new epoch has this cost
abbrev pub rows_by : Reply → ℕ → State → Option ℕ → ℕ → CostedEpoch → List CostedEpoch × CostedEpoch
rows_by Accepted number s cost rounds row = (row ∷ [], record { epoch = epoch_at number s; cost = cost; rounds = rounds })
rows_by reply number s cost rounds row = ([], record row { epoch = (epochs_by reply number s row.epoch).1; rounds = rounds })

-- what a part makes of the current epoch; a base changes nothing
abbrev pub rows_at : LogPart → ℕ → State → Option ℕ → ℕ → CostedEpoch → List CostedEpoch × CostedEpoch
rows_at (EntryPart entry) number s cost rounds row = rows_by entry.1 number s cost rounds row
rows_at (BasePart base) number s cost rounds row = ([], record row { rounds = rounds })
