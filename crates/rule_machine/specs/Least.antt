-- The answer of the machine in which each node without a wish takes the least allowed target.
use Rattle.std.specs.Prelude.{ℕ, List, [], ◌∷◌, Option, None, Some, if◌then◌else◌, nat_eq, find}
use Rattle.std.specs.List.{filter_map}
use Rattle.std.specs.Option.{option_and_then}
use Rattle.rule_machine.specs.declared.act.Act.{Act}
use Rattle.rule_machine.specs.declared.choice.Item.{Item}
use Rattle.rule_machine.specs.declared.act.Moved.{Moved}
use Rattle.rule_machine.specs.declared.verdict.Outcome.{Outcome}
use Rattle.rule_machine.specs.declared.verdict.Outcome.TheVariants as outcome
use Rattle.rule_machine.specs.declared.event.Event.{Event}
use Rattle.rule_machine.specs.declared.event.Event.TheVariants.{Link, Unlink, Point, Flag, Step, Show, Enabled, Matching, Status, Join, Leave}
use Rattle.rule_machine.specs.declared.refusal.Refusal.{Refusal}
use Rattle.rule_machine.specs.declared.reply.Reply.{Reply}
use Rattle.rule_machine.specs.declared.reply.Reply.TheVariants.{Accepted, Refused, Moves, Shown, EnabledAre, Pairs}
use Rattle.rule_machine.specs.declared.reply.Reply.TheVariants as reply_is
use Rattle.rule_machine.specs.Network.{names, present}
use Rattle.rule_machine.specs.State.{State, pointer}
use Rattle.rule_machine.specs.RuleTable.{RuleTable, rule_at, enabled, least_target}
use Rattle.rule_machine.specs.Step.{after_moves}
use Rattle.rule_machine.specs.Disturbance.{after_link, after_unlink, after_point, after_flag, after_join, after_leave}
use Rattle.rule_machine.specs.Stable.{mutual_pairs}
use Rattle.rule_machine.specs.Refuse.{refusal_of}
use Rattle.rule_machine.specs.Answer.{counts_of, spent_after}

-- v's move by the rule. With a wish: to the wished target, or `Wrong` if the rule does not allow that
-- target. Without a wish: to the least allowed target.
abbrev pub outcome_by : RuleTable → State → ℕ → Act → Option ℕ → Outcome
outcome_by t s v act None = outcome.Moves (record { node = v; act = act; target = least_target t s v act })
outcome_by t s v act (Some w) =
    if t.allowed s v act w then outcome.Moves (record { node = v; act = act; target = Some w }) else outcome.Wrong

abbrev pub outcome_at : RuleTable → State → Item → Option Act → Outcome
outcome_at t s item None = outcome.Idle
outcome_at t s item (Some act) = outcome_by t s item.node act item.wish

-- what an item would do alone
abbrev pub outcome_of : RuleTable → State → Item → Outcome
outcome_of t s item = if present s.network item.node then outcome_at t s item (rule_at t s item.node) else outcome.Absent

-- the move, if the outcome is a move
abbrev pub move_in : Outcome → Option Moved
move_in (outcome.Moves m) = Some m
move_in other = None

-- the first item of a choice that names v
abbrev pub item_of : List Item → ℕ → Option Item
item_of items v = find (λ i. nat_eq i.node v) items

-- the moves of a choice, ascending
abbrev pub least_moves : RuleTable → State → List Item → List Moved
least_moves t s items =
    filter_map (λ v. option_and_then (λ item. move_in (outcome_of t s item)) (item_of items v)) (names s.network)

abbrev pub accepted_reply : RuleTable → State → ℕ → Event → Reply
accepted_reply t s spent (Link a b) = Accepted
accepted_reply t s spent (Unlink a b) = Accepted
accepted_reply t s spent (Point v target) = Accepted
accepted_reply t s spent (Flag v value) = Accepted
accepted_reply t s spent (Join v) = Accepted
accepted_reply t s spent (Leave v) = Accepted
accepted_reply t s spent (Step items) = Moves (least_moves t s items)
accepted_reply t s spent (Show v) = Shown (pointer s v)
accepted_reply t s spent Enabled = EnabledAre (enabled t s)
accepted_reply t s spent Matching = Pairs (mutual_pairs s)
accepted_reply t s spent Status = reply_is.Counts (counts_of t s spent)

abbrev pub accepted_state : RuleTable → State → Event → State
accepted_state t s (Link a b) = after_link s a b
accepted_state t s (Unlink a b) = after_unlink s a b
accepted_state t s (Point v target) = after_point s v target
accepted_state t s (Flag v value) = after_flag s v value
accepted_state t s (Join v) = after_join s v
accepted_state t s (Leave v) = after_leave s v
accepted_state t s (Step items) = after_moves s (least_moves t s items)
accepted_state t s (Show v) = s
accepted_state t s Enabled = s
accepted_state t s Matching = s
accepted_state t s Status = s

abbrev pub reply_by : RuleTable → State → ℕ → Event → Option Refusal → Reply
reply_by t s spent event (Some refusal) = Refused refusal
reply_by t s spent event None = accepted_reply t s spent event

abbrev pub state_by : RuleTable → State → Event → Option Refusal → State
state_by t s event (Some refusal) = s
state_by t s event None = accepted_state t s event

-- the reply to an event after `spent` moves, and the state afterwards
abbrev pub reply_of : RuleTable → State → ℕ → Event → Reply
reply_of t s spent event = reply_by t s spent event (refusal_of t s event)

abbrev pub state_after : RuleTable → State → Event → State
state_after t s event = state_by t s event (refusal_of t s event)

-- the moves since the last accepted disturbance, after the event
abbrev pub spent_by : RuleTable → State → ℕ → Event → ℕ
spent_by t s spent event = spent_after spent (reply_of t s spent event)

-- the replies to the events, one after another, and the state after the last event
abbrev pub replies_of : RuleTable → State → ℕ → List Event → List Reply
replies_of t s spent [] = []
replies_of t s spent (event ∷ events) =
    reply_of t s spent event ∷ replies_of t (state_after t s event) (spent_by t s spent event) events

abbrev pub state_after_all : RuleTable → State → List Event → State
state_after_all t s [] = s
state_after_all t s (event ∷ events) = state_after_all t (state_after t s event) events
