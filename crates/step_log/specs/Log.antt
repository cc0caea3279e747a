-- What a journal contains.
use Rattle.std.specs.Prelude.{ℕ, List, []}
use Rattle.rule_machine.specs.State.{State, opening_with}
use Rattle.rule_machine.specs.Run.{Entry}
pub use Rattle.step_log.specs.Recording.{max_entries}

-- a network's state, the moves since the last disturbance, the entries that led to the state, the limit of
-- entries, and the number of nodes at the start, named from 1
pub record Log : Type 0 where
  pub state : State
  pub spent : ℕ
  pub entries : List Entry
  pub limit : ℕ
  pub present : ℕ

-- the log before any event; the names 1 to `present` are nodes
abbrev pub empty_log_with : ℕ → ℕ → ℕ → Log
empty_log_with size present limit =
    record { state = opening_with size present; spent = 0; entries = []; limit = limit; present = present }

-- the log before any event, with all names present
abbrev pub empty_log : ℕ → ℕ → Log
empty_log nodes limit = empty_log_with nodes nodes limit
