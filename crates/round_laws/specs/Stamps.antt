-- Rounds by stamps: the same count as `rounds_in`, with a number for each node in place of a list of pending
-- nodes. A step changes only the stamps of its movers and of nodes that become enabled; a new round and an
-- accepted disturbance change no stamp.
use Rattle.std.specs.Prelude.{ℕ, ◌+◌, Bool, cond, ◌&&◌, ◌||◌, List, [], ◌∷◌, count_by, is_some, is_none, nat_eq, nat_lt}
use Rattle.std.specs.List.{list_any}
use Rattle.rule_machine.specs.declared.act.Moved.{Moved}
use Rattle.rule_machine.specs.declared.reply.Reply.{Reply}
use Rattle.rule_machine.specs.declared.reply.Reply.TheVariants.{Accepted, Moves}
use Rattle.rule_machine.specs.Network.{names}
use Rattle.rule_machine.specs.State.{State}
use Rattle.rule_machine.specs.RuleTable.{RuleTable, rule_at}
use Rattle.rule_machine.specs.Run.{Entry}
use Rattle.machine_laws.specs.StatesAfterReplies.{followed}

-- whether v waits in this round: v is enabled, and its stamp is older than the round
abbrev pub is_waiting : RuleTable → State → ℕ → (ℕ → ℕ) → ℕ → Bool
is_waiting t s round stamp v = is_some (rule_at t s v) && nat_lt (stamp v) round

-- the stamps after a step of these moves in s that leads to s': a node gets the number of the round if it
-- moves, or if it is enabled then and was not before
abbrev pub stamps_after : RuleTable → State → List Moved → State → ℕ → (ℕ → ℕ) → ℕ → ℕ
stamps_after t s moves s' round stamp v =
    cond (list_any (λ m. nat_eq m.node v) moves || (is_some (rule_at t s' v) && is_none (rule_at t s v))) round (stamp v)

-- the number of the round then: the next one if no node waits
abbrev pub round_after : RuleTable → State → ℕ → (ℕ → ℕ) → ℕ
round_after t s round stamp = cond (nat_eq (count_by (is_waiting t s round stamp) (names s.network)) 0) (round + 1) round

-- the round and the stamps after a reply in s that leads to s'; an accepted disturbance begins a new round
abbrev pub stamped_by : RuleTable → State → Reply → State → ℕ → (ℕ → ℕ) → ℕ × (ℕ → ℕ)
stamped_by t s (Moves moves) s' round stamp =
    let stamps = stamps_after t s moves s' round stamp in (round_after t s' round stamps, stamps)
stamped_by t s Accepted s' round stamp = (round + 1, stamp)
stamped_by t s reply s' round stamp = (round, stamp)

-- the number of the round after a log from s
abbrev pub round_from : RuleTable → State → ℕ → (ℕ → ℕ) → List Entry → ℕ
round_from t s round stamp [] = round
round_from t s round stamp (entry ∷ log) =
    let next = followed s entry.0 entry.1 in
    let turn = stamped_by t s entry.1 next round stamp in
    round_from t next turn.0 turn.1 log

-- the same from the beginning: it is round 1, and all stamps are 0
abbrev pub round_reached : RuleTable → State → List Entry → ℕ
round_reached t s log = round_from t s 1 (λ v. 0) log

-- how many accepted disturbances a reply reports, and a log has
abbrev pub cut_by : Reply → ℕ
cut_by Accepted = 1
cut_by reply = 0

abbrev pub cuts_in : List Entry → ℕ
cuts_in [] = 0
cuts_in (entry ∷ log) = cut_by entry.1 + cuts_in log
