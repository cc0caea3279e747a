-- Bases: what remains of a run after its older entries are dropped. Also logs that have bases among
-- their entries.
use Rattle.std.specs.Prelude.{◌≡◌, ℕ, ◌+◌, ◌≤◌, false, List, [], ◌∷◌, map, Option, None, Some}
use Rattle.rule_machine.specs.declared.base.EpochStart.{EpochStart}
use Rattle.rule_machine.specs.declared.base.EpochStart.TheVariants.{At, Forgotten}
use Rattle.rule_machine.specs.declared.base.NodeRecord.{NodeRecord}
use Rattle.rule_machine.specs.declared.base.Base.{Base}
use Rattle.rule_machine.specs.Network.{Network, names, edge_list}
use Rattle.rule_machine.specs.State.{State, IsState, pointer, flag}
use Rattle.rule_machine.specs.RuleTable.{RuleTable}
use Rattle.rule_machine.specs.Answer.{Answers, spent_after}
use Rattle.rule_machine.specs.Run.{Entry, Moment, beginning_with}

-- a node of a state with its registers
abbrev pub node_record_at : State → ℕ → NodeRecord
node_record_at s v = record { node = v; target = pointer s v; flagged = flag s v }

-- the nodes of a state, ascending
abbrev pub node_records : State → List NodeRecord
node_records s = map (node_record_at s) (names s.network)

-- the base at a moment after `number` entries
abbrev pub base_of : ℕ → Moment → Base
base_of number m = record { number = number; spent = m.spent; nodes = node_records m.state; edges = edge_list m.state.network }

-- A run with names up to `size` may begin at this base: `start` is a state with the base's moves,
-- nodes and edges, and its spent moves plus its charge are within the bound of its network.
pub record IsBaseMoment (t : RuleTable) (bound : Network → ℕ) (size : ℕ) (base : Base) (start : Moment) : Type 0 where
  pub is_state : IsState start.state
  pub size_is : start.state.network.size ≡ size
  pub lines : base ≡ base_of base.number start
  pub unflagged : t.flags ≡ false → (v : ℕ) → flag start.state v ≡ false
  pub within : start.spent + t.charge start.state ≤ bound start.state.network

-- The moment before the retained entries. Without a base: the beginning of a run with `size` names,
-- the first `first` of them present. With a base: the moment of that base.
abbrev pub BeginsAt : RuleTable → (Network → ℕ) → ℕ → ℕ → Option Base → Moment → Type 0
BeginsAt t bound size first None start = start ≡ beginning_with size first
BeginsAt t bound size first (Some base) start = IsBaseMoment t bound size base start

-- the number of the last dropped entry; 0 if no entry was dropped
abbrev pub dropped : Option Base → ℕ
dropped None = 0
dropped (Some base) = base.number

-- where the first epoch of the retained entries began
abbrev pub begun_at : Option Base → EpochStart
begun_at None = At 0
begun_at (Some base) = Forgotten

-- a part of a transcript: an entry, or a base
pub data LogPart : Type 0 where
  EntryPart : Entry → LogPart
  BasePart : Base → LogPart

-- a moment, and how many entries led to it
pub record NumberedMoment : Type 0 where
  pub moment : Moment
  pub count : ℕ

-- The log leads from one numbered moment to the other: each reply is an answer of the machine, and
-- each base is the base of the moment reached there.
abbrev pub Passes : RuleTable → NumberedMoment → List LogPart → NumberedMoment → Type 0
Passes t at [] end = end ≡ at
Passes t at (EntryPart entry ∷ log) end =
    (next : State) × Answers t at.moment.state at.moment.spent entry.0 entry.1 next × Passes t (record { moment = record { state = next; spent = spent_after at.moment.spent entry.1 }; count = at.count + 1 }) log end
Passes t at (BasePart base ∷ log) end = (base ≡ base_of at.count at.moment) × Passes t at log end

abbrev pub entries_in : List LogPart → List Entry
entries_in [] = []
entries_in (EntryPart entry ∷ log) = entry ∷ entries_in log
entries_in (BasePart base ∷ log) = entries_in log
