-- Asynchronous rounds, as Dolev counts them ("Self-Stabilization", 2000). A round is the shortest part of a
-- run in which each node that was enabled at its start has moved, or was not enabled in some state since.
use Rattle.std.specs.Prelude.{ℕ, ◌+◌, Bool, not, ◌&&◌, List, [], ◌∷◌, filter, is_some, nat_eq}
use Rattle.std.specs.List.{list_any}
use Rattle.rule_machine.specs.declared.act.Moved.{Moved}
use Rattle.rule_machine.specs.declared.reply.Reply.{Reply}
use Rattle.rule_machine.specs.declared.reply.Reply.TheVariants.{Accepted, Moves}
use Rattle.rule_machine.specs.State.{State}
use Rattle.rule_machine.specs.RuleTable.{RuleTable, rule_at, enabled_names}
use Rattle.rule_machine.specs.Run.{Entry}
use Rattle.machine_laws.specs.StatesAfterReplies.{followed}

-- A node is pending if it was enabled when the round began, and since then did not move and was enabled in
-- each state. Whether a pending node is still pending after a step of these moves to state s: it does not
-- move, and is enabled in s.
abbrev pub stays_pending : RuleTable → List Moved → State → ℕ → Bool
stays_pending t moves s v = not (list_any (λ m. nat_eq m.node v) moves) && is_some (rule_at t s v)

-- What a step to state s does to the rounds, by the nodes that it leaves pending: how many rounds are
-- complete by it, one or none, and the nodes pending then. If no node is left pending, the round is complete,
-- and in the next one the enabled nodes of s are pending.
abbrev pub round_turn : RuleTable → State → List ℕ → ℕ × List ℕ
round_turn t s [] = (1, enabled_names t s)
round_turn t s (v ∷ left) = (0, v ∷ left)

-- The same for any reply, by the nodes pending before it; s is the state after it. An accepted disturbance
-- cuts a round off: the next one begins after it. A question changes nothing.
abbrev pub rounds_by : RuleTable → List ℕ → Reply → State → ℕ × List ℕ
rounds_by t pending (Moves moves) s = round_turn t s (filter (stays_pending t moves s) pending)
rounds_by t pending Accepted s = (0, enabled_names t s)
rounds_by t pending reply s = (0, pending)

-- how many rounds a log from state s completes, if these nodes are pending before it
abbrev pub rounds_from : RuleTable → State → List ℕ → List Entry → ℕ
rounds_from t s pending [] = 0
rounds_from t s pending (entry ∷ log) =
    let next = followed s entry.0 entry.1 in
    let turn = rounds_by t pending entry.1 next in
    turn.0 + rounds_from t next turn.1 log

-- how many rounds a log from state s completes; the first one begins in s
abbrev pub rounds_in : RuleTable → State → List Entry → ℕ
rounds_in t s log = rounds_from t s (enabled_names t s) log
