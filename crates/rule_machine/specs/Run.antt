-- Runs: logs of events in which the machine may give every reply.
use Rattle.std.specs.Prelude.{◌≡◌, ℕ, ◌+◌, List, [], ◌∷◌, ◌++◌, length}
use Rattle.rule_machine.specs.declared.base.EpochStart.{EpochStart}
use Rattle.rule_machine.specs.declared.base.EpochStart.TheVariants.{At}
use Rattle.rule_machine.specs.declared.event.Event.{Event}
use Rattle.rule_machine.specs.declared.reply.Reply.{Reply}
use Rattle.rule_machine.specs.declared.reply.Reply.TheVariants.{Accepted, Refused, Moves, Shown, EnabledAre, Pairs, Counts}
use Rattle.rule_machine.specs.Network.{node_count, edge_count}
use Rattle.rule_machine.specs.State.{State, opening_with}
use Rattle.rule_machine.specs.RuleTable.{RuleTable}
use Rattle.rule_machine.specs.Answer.{Answers, spent_after}
use Rattle.rule_machine.specs.Least.{state_after, spent_by}

-- an event, and the reply to it
abbrev pub Entry : Type 0
Entry = Event × Reply

-- a state, and the moves spent since the last accepted disturbance or the start
pub record Moment : Type 0 where
  pub state : State
  pub spent : ℕ

-- the moment after the event, if each node without a wish takes the least allowed target
abbrev pub moment_after : RuleTable → Moment → Event → Moment
moment_after t m event = record { state = state_after t m.state event; spent = spent_by t m.state m.spent event }

-- The log leads from one moment to the other: in order, the machine may answer each event of the log
-- by the event's reply.
abbrev pub Run : RuleTable → Moment → List Entry → Moment → Type 0
Run t start [] end = end ≡ start
Run t start (entry ∷ log) end =
    (next : State) × Answers t start.state start.spent entry.0 entry.1 next × Run t (record { state = next; spent = spent_after start.spent entry.1 }) log end

-- the beginning of a journal's run: `size` names, the first `count` of them present
abbrev pub beginning_with : ℕ → ℕ → Moment
beginning_with size count = record { state = opening_with size count; spent = 0 }

-- the beginning of a journal's run with all names present
abbrev pub beginning : ℕ → Moment
beginning size = beginning_with size size

-- An epoch is the entries between two accepted disturbances: where the epoch begins, how many moves it
-- has, and the numbers of edges and nodes.
pub record Epoch : Type 0 where
  pub start : EpochStart
  pub moves : ℕ
  pub edges : ℕ
  pub nodes : ℕ

-- the epoch that the entry with this number begins; 0 for the start
abbrev pub epoch_at : ℕ → State → Epoch
epoch_at start s = record { start = At start; moves = 0; edges = edge_count s.network; nodes = node_count s.network }

-- the epoch with this start, as it is at a later moment
abbrev pub open_at : EpochStart → Moment → Epoch
open_at start m =
    record { start = start; moves = m.spent; edges = edge_count m.state.network; nodes = node_count m.state.network }

-- The epochs that this reply ends, and the epoch afterwards. An accepted disturbance ends the epoch
-- and begins the next; a step adds its moves.
abbrev pub epochs_by : Reply → ℕ → State → Epoch → List Epoch × Epoch
epochs_by Accepted number s epoch = (epoch ∷ [], epoch_at number s)
epochs_by (Moves moves) number s epoch = ([], record epoch { moves = epoch.moves + length moves })
epochs_by (Refused refusal) number s epoch = ([], epoch)
epochs_by (Shown target) number s epoch = ([], epoch)
epochs_by (EnabledAre nodes) number s epoch = ([], epoch)
epochs_by (Pairs pairs) number s epoch = ([], epoch)
epochs_by (Counts counts) number s epoch = ([], epoch)

-- The epochs of a log, in order. `number` is the number of the log's first entry, `epoch` the epoch
-- before that entry. Each entry is paired with the state after the entry.
abbrev pub epochs_from : ℕ → Epoch → List (Entry × State) → List Epoch
epochs_from number epoch [] = epoch ∷ []
epochs_from number epoch (entry ∷ log) =
    let turn = epochs_by entry.0.1 number entry.1 epoch in turn.0 ++ epochs_from (number + 1) turn.1 log
