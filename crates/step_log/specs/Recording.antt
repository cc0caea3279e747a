-- The progress of a recording, and recording an event.
use Rattle.std.specs.Prelude.{ℕ, ◌+◌, ◌≤◌, List, Option, Some, max, min}
use Rattle.rule_machine.specs.declared.event.Event.{Event}
use Rattle.rule_machine.specs.State.{State, IsState}
use Rattle.rule_machine.specs.Network.{node_count}
use Rattle.rule_machine.specs.RuleTable.{RuleTable}
use Rattle.rule_machine.specs.Run.{Moment}
use Rattle.rule_machine.specs.Least.{reply_of, state_after, spent_by}
use Rattle.round_laws.specs.RoundCounts.{RoundCount, first_count, next_counting}
use Rattle.line_text.specs.EntryText.{entry_line}
pub use Rattle.log_entry.specs.Kinds.{max_entries}

-- a network's state, the moves since the last disturbance, how many entries led to the state, the limit of
-- entries, the number of nodes at the start, named from 1, and the count of rounds, if they are counted
pub record Recording : Type 0 where
  pub state : State
  pub spent : ℕ
  pub len : ℕ
  pub limit : ℕ
  pub present : ℕ
  pub counting : Option RoundCount

-- the moment of a recording
abbrev pub recorded_moment : Recording → Moment
recorded_moment r = record { state = r.state; spent = r.spent }

-- the state is valid, and the entries are within the limit
pub record IsRecording (r : Recording) : Type 0 where
  pub is_state : IsState r.state
  pub room : r.len ≤ r.limit
  pub limit : r.limit ≤ max_entries

-- the recording that goes on at a moment, with this count of rounds, after this many entries, which the limit
-- includes
abbrev pub resumed_recording : Moment → Option RoundCount → ℕ → ℕ → Recording
resumed_recording m counting number limit =
    record { state = m.state; spent = m.spent; len = number; limit = max number (min limit max_entries); present = node_count m.state.network; counting = counting }

-- the recording after the event's entry, which is counted if rounds are
abbrev pub entered : RuleTable → Recording → Event → Recording
entered t r event =
    let reply = reply_of t r.state r.spent event in
    let next = state_after t r.state event in
    record { state = next; spent = spent_by t r.state r.spent event; len = r.len + 1; limit = r.limit; present = r.present; counting = next_counting t reply next r.counting }

-- the recording whose rounds are counted from here on
abbrev pub counting_from : RuleTable → Recording → Recording
counting_from t r = record r { counting = Some (first_count t r.state) }

-- the line of the event's entry, with an LF
abbrev pub entered_line : RuleTable → Recording → Event → List ℕ
entered_line t r event = entry_line (r.len + 1) event (reply_of t r.state r.spent event)
