-- What the machine may answer to an event, and the state afterwards.
use Rattle.std.specs.Prelude.{◌≡◌, ℕ, ◌+◌, length, Option, None, Some}
use Rattle.rule_machine.specs.declared.counts.Counts.{Counts}
use Rattle.rule_machine.specs.declared.event.Event.{Event}
use Rattle.rule_machine.specs.declared.event.Event.TheVariants.{Link, Unlink, Point, Flag, Step, Show, Enabled, Matching, Status, Join, Leave}
use Rattle.rule_machine.specs.declared.refusal.Refusal.{Refusal}
use Rattle.rule_machine.specs.declared.reply.Reply.{Reply}
use Rattle.rule_machine.specs.declared.reply.Reply.TheVariants.{Accepted, Refused, Moves, Shown, EnabledAre, Pairs}
use Rattle.rule_machine.specs.declared.reply.Reply.TheVariants as reply_is
use Rattle.rule_machine.specs.Network.{node_count, edge_count}
use Rattle.rule_machine.specs.State.{State, pointer}
use Rattle.rule_machine.specs.RuleTable.{RuleTable, enabled, enabled_names}
use Rattle.rule_machine.specs.Step.{IsStep}
use Rattle.rule_machine.specs.Disturbance.{after_link, after_unlink, after_point, after_flag, after_join, after_leave}
use Rattle.rule_machine.specs.Stable.{mutual_pairs}
use Rattle.rule_machine.specs.Refuse.{refusal_of}

-- the numbers that `status` reports in a state after `spent` moves
abbrev pub counts_of : RuleTable → State → ℕ → Counts
counts_of t s spent = record {
  nodes = node_count s.network;
  edges = edge_count s.network;
  pairs = length (mutual_pairs s);
  enabled = length (enabled_names t s);
  charge = t.charge s;
  spent = spent;
}

-- After `spent` moves in s, an accepted event may get this reply and lead to s'. Without a wish, a
-- node may take any allowed target.
abbrev pub Does : RuleTable → State → ℕ → Event → Reply → State → Type 0
Does t s spent (Link a b) Accepted s' = s' ≡ after_link s a b
Does t s spent (Unlink a b) Accepted s' = s' ≡ after_unlink s a b
Does t s spent (Point v target) Accepted s' = s' ≡ after_point s v target
Does t s spent (Flag v value) Accepted s' = s' ≡ after_flag s v value
Does t s spent (Join v) Accepted s' = s' ≡ after_join s v
Does t s spent (Leave v) Accepted s' = s' ≡ after_leave s v
Does t s spent (Step items) (Moves moves) s' = IsStep t s items moves s'
Does t s spent (Show v) (Shown target) s' = (target ≡ pointer s v) × (s' ≡ s)
Does t s spent Enabled (EnabledAre nodes) s' = (nodes ≡ enabled t s) × (s' ≡ s)
Does t s spent Matching (Pairs pairs) s' = (pairs ≡ mutual_pairs s) × (s' ≡ s)
Does t s spent Status (reply_is.Counts counts) s' = (counts ≡ counts_of t s spent) × (s' ≡ s)
-- an accepted event gets no other reply
Does t s spent event reply s' = ⊥

-- if the event is refused, the reply names the refusal and the state stays; if not, the event is done
abbrev pub AnswersBy : RuleTable → State → ℕ → Event → Option Refusal → Reply → State → Type 0
AnswersBy t s spent event (Some refusal) reply s' = (reply ≡ Refused refusal) × (s' ≡ s)
AnswersBy t s spent event None reply s' = Does t s spent event reply s'

-- in s, after `spent` moves, the machine may answer the event with this reply and be in s' afterwards
abbrev pub Answers : RuleTable → State → ℕ → Event → Reply → State → Type 0
Answers t s spent event reply s' = AnswersBy t s spent event (refusal_of t s event) reply s'

-- the moves since the last accepted disturbance, after this reply: `Accepted` answers only
-- disturbances and resets the count
abbrev pub spent_after : ℕ → Reply → ℕ
spent_after spent Accepted = 0
spent_after spent (Moves moves) = spent + length moves
spent_after spent (Refused refusal) = spent
spent_after spent (Shown target) = spent
spent_after spent (EnabledAre nodes) = spent
spent_after spent (Pairs pairs) = spent
spent_after spent (reply_is.Counts counts) = spent
