-- A network as contracts see it, and prepared replies.
use Rattle.std.specs.Prelude.{◌≡◌, ℕ, List, Option, Some, refl}
use Rattle.std.specs.Coded.{Coded, code_by, coded×, coded_ℕ, coded_list, coded_option}
use Rattle.graph_store.specs.Graph.{HasRoomFor}
use Rattle.rule_machine.specs.declared.event.Event.{Event}
use Rattle.rule_machine.specs.declared.event.Event.TheVariants.{Link, Step}
use Rattle.rule_engine.specs.declared.events.Cause.{Cause}
use Rattle.rule_engine.specs.declared.events.Cause.TheVariants as cause
use Rattle.rule_machine.specs.declared.reply.Reply.{Reply}
use Rattle.rule_machine.specs.declared.reply.Reply.TheVariants.{Accepted}
use Rattle.rule_machine.specs.State.{State, state_code}
use Rattle.rule_machine.specs.RuleTable.{RuleTable}
use Rattle.rule_machine.specs.Least.{reply_of}
use Rattle.rule_machine.specs.Run.{Moment}
use Rattle.round_laws.specs.RoundCounts.{RoundCount, first_count}

-- the network's state, the moves spent, each name's room for more neighbours, and the count of rounds, if they
-- are counted
pub record NetView : Type 0 where
  pub state : State
  pub spent : ℕ
  pub room : List ℕ
  pub counting : Option RoundCount

abbrev count_code : Coded RoundCount
count_code = code_by (ℕ × List ℕ) (coded× coded_ℕ (coded_list coded_ℕ)) (λ c. (c.rounds, c.pending)) (λ p. record { rounds = p.0; pending = p.1 }) (λ _. refl)

abbrev pub net_code : Coded NetView
net_code =
    code_by (State × (ℕ × (List ℕ × Option RoundCount))) (coded× state_code (coded× coded_ℕ (coded× (coded_list coded_ℕ) (coded_option count_code))))
    (λ n. (n.state, (n.spent, (n.room, n.counting)))) (λ p. record { state = p.0; spent = p.1.0; room = p.1.1.0; counting = p.1.1.1 }) (λ _. refl)

-- the network whose rounds are counted from here on
abbrev pub with_counting : RuleTable → NetView → NetView
with_counting t net = record net { counting = Some (first_count t net.state) }

-- the state and the moves spent
abbrev pub net_moment : NetView → Moment
net_moment net = record { state = net.state; spent = net.spent }

-- there is room for what an event with this reply adds
abbrev pub HasRoomTo : Event → Reply → List ℕ → Type 0
HasRoomTo (Link a b) Accepted room = HasRoomFor room a b
HasRoomTo event reply room = Unit {0}

-- The reply is the network's to the event, and carrying out the event takes no memory.
pub record IsPrepared (t : RuleTable) (net : NetView) (event : Event) (reply : Reply) : Type 0 where
  pub reply_is : reply ≡ reply_of t net.state net.spent event
  pub room : HasRoomTo event reply net.room

-- the event that a reply is to, or the step of a choice
abbrev pub event_of : Cause → Event
event_of (cause.Event event) = event.now
event_of (cause.Step choice) = Step choice.now
