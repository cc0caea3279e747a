-- What a journal keeps of a log: after a checkpoint, a base and the entries after it.
use Rattle.std.specs.Prelude.{ℕ, ◌+◌, ◌≤◌, List, [], ◌∷◌, ◌++◌, length, Option, None, Some}
use Rattle.rule_machine.specs.declared.base.Base.{Base}
use Rattle.rule_machine.specs.declared.event.Event.{Event}
use Rattle.rule_machine.specs.State.{State}
use Rattle.rule_machine.specs.RuleTable.{RuleTable}
use Rattle.rule_machine.specs.Least.{reply_of, state_after, spent_by}
use Rattle.rule_machine.specs.Run.{Entry, Moment, Run}
use Rattle.rule_machine.specs.Base.{BeginsAt, base_of, dropped}
use Rattle.machine_laws.specs.ChargeWords.{charge_bound}
use Rattle.step_log.specs.declared.receipt.Receipt.{Receipt}
use Rattle.step_log.specs.Log.{Log, max_entries}

-- a network's state, the moves since the last disturbance, the base if any, the entries after the base, the
-- limit of entry numbers, and the number of nodes at the start, named from 1
pub record RetainedLog : Type 0 where
  pub state : State
  pub spent : ℕ
  pub base : Option Base
  pub entries : List Entry
  pub limit : ℕ
  pub present : ℕ

-- the moment of the kept network
abbrev pub moment_in : RetainedLog → Moment
moment_in kept = record { state = kept.state; spent = kept.spent }

-- the number of the last entry, kept or dropped
abbrev pub last_number : RetainedLog → ℕ
last_number kept = dropped kept.base + length kept.entries

-- the moment before the kept entries
abbrev pub Begins : RuleTable → ℕ → RetainedLog → Moment → Type 0
Begins t weight kept start = BeginsAt t (charge_bound weight) kept.state.network.size kept.present kept.base start

-- a base within the sizes of a graph
abbrev pub IsBaseOfGraph : Option Base → Type 0
IsBaseOfGraph None = Unit {0}
IsBaseOfGraph (Some base) = (length base.nodes ≤ 65535) × (length base.edges ≤ 1048576)

-- the entries are a run of the machine from their beginning to the state and the spent moves; numbers are
-- within the limit
pub record IsRetainedRun (t : RuleTable) (weight : ℕ) (kept : RetainedLog) : Type 0 where
  pub start : Moment
  pub begins : Begins t weight kept start
  pub run : Run t start kept.entries (moment_in kept)
  pub size : kept.state.network.size ≤ 65535
  pub room : last_number kept ≤ kept.limit
  pub limit : kept.limit ≤ max_entries
  pub short : IsBaseOfGraph kept.base

-- what is kept of a log if nothing was dropped
abbrev pub whole : Log → RetainedLog
whole log =
    record { state = log.state; spent = log.spent; base = None; entries = log.entries; limit = log.limit; present = log.present }

-- the event with its reply
abbrev pub next_entry : RuleTable → RetainedLog → Event → Entry
next_entry t kept event = (event, reply_of t kept.state kept.spent event)

-- what is kept, with the event's entry at the end, and with the state and the spent moves after that entry
abbrev pub kept_with : RuleTable → RetainedLog → Event → RetainedLog
kept_with t kept event =
    record kept {
      state = state_after t kept.state event;
      spent = spent_by t kept.state kept.spent event;
      entries = kept.entries ++ next_entry t kept event ∷ [];
    }

-- the caller's receipt of the event
abbrev pub next_receipt : RuleTable → RetainedLog → Event → Receipt
next_receipt t kept event =
    record { seq = last_number kept + 1; event = event; reply = reply_of t kept.state kept.spent event }

-- what is kept after a checkpoint: the network's moment is the base, and there are no entries
abbrev pub checkpointed : RetainedLog → RetainedLog
checkpointed kept = record kept { base = Some (base_of (last_number kept) (moment_in kept)); entries = [] }
