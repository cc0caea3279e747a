-- A counter of rounds: what it has counted, and what an entry does to it.
use Rattle.std.specs.Prelude.{◌≡◌, ℕ, ◌+◌, ◌<◌, Bool, true, false, cond, List, [], ◌∷◌, ◌++◌, filter, is_some, IsTrue}
use Rattle.enabled_set.specs.Members.{is_in}
use Rattle.rule_machine.specs.declared.event.Event.{Event}
use Rattle.rule_machine.specs.declared.reply.Reply.{Reply}
use Rattle.rule_machine.specs.declared.reply.Reply.TheVariants.{Accepted, Moves}
use Rattle.rule_machine.specs.Network.{names, present}
use Rattle.rule_machine.specs.State.{State}
use Rattle.rule_machine.specs.RuleTable.{RuleTable, rule_at, enabled_names}
use Rattle.rule_machine.specs.Run.{Entry}
use Rattle.round_laws.specs.Rounds.{rounds_in, rounds_from}
use Rattle.round_laws.specs.RoundCounts.{RoundCount}
use Rattle.round_counter.specs.declared.counter.RoundCounter.{RoundCounter}

-- the nodes that a counter has pending in state s, ascending
abbrev pub pending_names : RuleTable → State → RoundCounter → List ℕ
pending_names t s c = cond c.is_new (enabled_names t s) (filter (is_in c.pending) (names s.network))

-- what a counter has counted in state s
abbrev pub count_in : RuleTable → State → RoundCounter → RoundCount
count_in t s c = record { rounds = c.rounds; pending = pending_names t s c }

-- if the set is used, its members are enabled nodes of s
abbrev pub AreEnabledIn : RuleTable → State → RoundCounter → Type 0
AreEnabledIn t s c = c.is_new ≡ false → (v : ℕ) → IsTrue (is_in c.pending v) → IsTrue (present s.network v) × IsTrue (is_some (rule_at t s v))

-- A log from `start` led to s, and the counter has counted its complete rounds. Whatever entries come next,
-- the rounds of all together are those counted and those that the pending nodes complete.
pub record HasCounted (t : RuleTable) (start : State) (log : List Entry) (s : State) (c : RoundCounter) : Type 0 where
  pub rounds : c.rounds ≡ rounds_in t start log
  pub later : (rest : List Entry) → rounds_in t start (log ++ rest) ≡ c.rounds + rounds_from t s (pending_names t s c) rest
  pub enabled : AreEnabledIn t s c

abbrev pub is_step : Reply → Bool
is_step (Moves moves) = true
is_step reply = false

-- the counter is ready for a reply: before a step it has the pending nodes in its set, and can count further
abbrev pub CanCount : Reply → RoundCounter → Type 0
CanCount reply c = IsTrue (is_step reply) → (c.is_new ≡ false) × (c.rounds < 4294967295)

-- Where counting begins, after an entry with this reply that leads to s: an accepted disturbance begins a new
-- count.
abbrev pub start_after : State → Reply → State → State
start_after start Accepted s = s
start_after start reply s = start

-- the log from there
abbrev pub log_after : List Entry → Event → Reply → List Entry
log_after log event Accepted = []
log_after log event reply = log ++ (event, reply) ∷ []
