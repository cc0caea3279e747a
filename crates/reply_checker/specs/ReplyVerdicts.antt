-- What a judgement of a reply means: right, wrong, or out of memory.
use Rattle.std.specs.Prelude.{◌≡◌, ℕ, Bool, true, false, List, [], None, IsTrue}
use Rattle.rule_machine.specs.declared.choice.Item.{Item}
use Rattle.rule_machine.specs.declared.event.Event.{Event}
use Rattle.rule_machine.specs.declared.event.Event.TheVariants.{Link, Step}
use Rattle.rule_machine.specs.declared.reply.Reply.{Reply}
use Rattle.rule_machine.specs.declared.reply.Reply.TheVariants.{Accepted}
use Rattle.rule_machine.specs.declared.rule_set.RuleSet.{RuleSet}
use Rattle.rule_machine.specs.declared.rule_set.RuleSet.TheVariants.{Hh, Manne}
use Rattle.rule_machine.specs.State.{State}
use Rattle.rule_machine.specs.RuleTable.{RuleTable}
use Rattle.rule_machine.specs.Refuse.{refusal_of}
use Rattle.rule_machine.specs.Answer.{Answers, Does}
use Rattle.machine_laws.specs.StatesAfterReplies.{followed}
use Rattle.machine_laws.specs.Costs.{hsu_huang_cost, manne_cost}

abbrev pub is_link : Event → Bool
is_link (Link a b) = true
is_link event = false

-- the event is a link that is not refused, and the reply accepts the link
pub record IsAcceptedLink (t : RuleTable) (s : State) (event : Event) (reply : Reply) : Type 0 where
  pub link : IsTrue (is_link event)
  pub accepted : refusal_of t s event ≡ None
  pub reply_is : reply ≡ Accepted

-- the reply to an event that is not refused is right: it leads to the state that follows from the reply
abbrev pub IsRightReply : RuleTable → State → ℕ → Event → Reply → Type 0
IsRightReply t s spent event reply = Does t s spent event reply (followed s event reply)

-- the reply to an event that is not refused is right with no state after it, and the judge's state is
-- unchanged
abbrev pub DoesWrong : RuleTable → State → ℕ → Event → Reply → State → Type 0
DoesWrong t s spent event reply now = ((u : State) → Does t s spent event reply u → ⊥) × (now ≡ s)

-- the machine may not give this reply, whatever the state after it, and the judge's state is unchanged
abbrev pub IsWrong : RuleTable → State → ℕ → Event → Reply → State → Type 0
IsWrong t s spent event reply now = ((u : State) → Answers t s spent event reply u → ⊥) × (now ≡ s)

-- the items of a step; none for any other event
abbrev pub items_of : Event → List Item
items_of (Step items) = items
items_of event = []

-- what an event costs by these rules
abbrev pub cost_by : RuleSet → State → Event → ℕ
cost_by Hh = hsu_huang_cost
cost_by Manne = manne_cost
