-- The cost, for C, of an edit or a fault in a session's state, and the bound on the moves still to come.
use Rattle.std.specs.Prelude.{◌≡◌, ◌⊎◌, ℕ, [], Option, None, Some}
use Rattle.rule_machine.specs.declared.event.Event.{Event}
use Rattle.rule_machine.specs.declared.rule_set.RuleSet.{RuleSet}
use Rattle.rule_machine.specs.declared.rule_set.RuleSet.TheVariants.{Hh, Manne}
use Rattle.rule_machine.specs.RuleTable.{enabled_names}
use Rattle.rule_machine.specs.State.{State}
use Rattle.rule_machine.specs.Tables.{table_of}
use Rattle.machine_laws.specs.Costs.{hsu_huang_cost, manne_cost}
use Rattle.dense_laws.specs.Bound.{dense_bound}
use Rattle.silence_laws.specs.Costs.{silent_cost, manne_silent_cost}
use Rattle.move_bounds.specs.FromSilence.{BoundsMovesAfter}
use Rattle.move_bounds.specs.MovesLeft.{moves_left, BoundsMoves}
use Rattle.rule_engine.specs.Costs.{disturbance_cost, BoundsGrowth}
use Rattle.script_text.specs.declared.command.Command.TheVariants.{Tell}
use Rattle.script_text.specs.Command.{IsCommand}
use Rattle.rudekpi_c.specs.Session.{stands, rules_of}
use Rattle.rudekpi_c.specs.SessionQuestions.{AnswersInSession, AnswersInRange}
use Rattle.rudekpi_c.specs.declared.session.Session.{Session}

-- the costs under a rule set
abbrev pub rule_set_cost : RuleSet → State → Event → ℕ
rule_set_cost Hh = hsu_huang_cost
rule_set_cost Manne = manne_cost

-- the event's cost in the session's state; 0 if the event would be refused
abbrev pub cost_at : Session → Event → ℕ
cost_at s event = disturbance_cost (table_of (rules_of s)) (rule_set_cost (rules_of s)) (stands s).moment.state event

-- 0: this is the event's cost: if the event is accepted, the charge grows by at most this number
abbrev pub CostedIn : Event → ℕ → ℕ → Session → Type 0
CostedIn event status cost s =
    (status ≡ 0) × (cost ≡ cost_at s event) × BoundsGrowth (table_of (rules_of s)) (stands s).moment.state (stands s).moment.spent event cost

-- 5: the numbers are out of range; 4: there is no session; else as `CostedIn` says
abbrev pub AnswersCost : Event → ℕ → ℕ → Option Session → Type 0
AnswersCost event status cost = AnswersInRange (IsCommand (Tell event)) (CostedIn event status cost) status (cost ≡ 0)

-- the silent costs under a rule set
abbrev pub silent_costs_of : RuleSet → State → Event → ℕ
silent_costs_of Hh = silent_cost
silent_costs_of Manne = manne_silent_cost

-- what the event would cost the session's network if it is silent; 0 if the event would be refused
abbrev pub silent_cost_at : Session → Event → ℕ
silent_cost_at s event = disturbance_cost (table_of (rules_of s)) (silent_costs_of (rules_of s)) (stands s).moment.state event

-- no rule is enabled in the session's network
abbrev pub IsSilentAt : Session → Type 0
IsSilentAt s = enabled_names (table_of (rules_of s)) (stands s).moment.state ≡ []

-- 8: a rule is enabled; 0: after the event, every run has at most this many moves before the next disturbance
abbrev pub SilentCostIn : Event → ℕ → ℕ → Session → Type 0
SilentCostIn event status cost s =
    ((IsSilentAt s → ⊥) × (status ≡ 8) × (cost ≡ 0))
    ⊎ (IsSilentAt s × (status ≡ 0) × (cost ≡ silent_cost_at s event) × BoundsMovesAfter (table_of (rules_of s)) (stands s).moment.state (stands s).moment.spent event cost)

-- 5: the numbers are out of range; 4: there is no session; else as `SilentCostIn` says
abbrev pub AnswersSilentCost : Event → ℕ → ℕ → Option Session → Type 0
AnswersSilentCost event status cost = AnswersInRange (IsCommand (Tell event)) (SilentCostIn event status cost) status (cost ≡ 0)

-- the bound by the number of nodes alone, under a rule set
abbrev pub most_of : RuleSet → ℕ → Option ℕ
most_of Hh n = Some (dense_bound n)
most_of Manne n = None

-- none in silence, else the smaller of the bound by nodes and the charge, in the session's state
abbrev pub left_at : Session → ℕ
left_at s = moves_left (table_of (rules_of s)) (most_of (rules_of s)) (stands s).moment.state

-- 4: there is no session; 0: this is the bound: until the next disturbance, at most this many moves come
abbrev pub AnswersMovesLeft : ℕ → ℕ → Option Session → Type 0
AnswersMovesLeft status left =
    AnswersInSession (λ s. (status ≡ 0) × (left ≡ left_at s) × BoundsMoves (table_of (rules_of s)) (stands s).moment.state (stands s).moment.spent left) status (left ≡ 0)
