-- The laws that each rule set proves of its table, its constants and its charge: one record, the trait's
-- `laws`.
use Rattle.std.specs.Prelude.{◌≡◌, ℕ, ◌≤◌, Bool, false, None, [], IsTrue}
use Rattle.rule_machine.specs.declared.act.Act.{Act}
use Rattle.rule_machine.specs.declared.act.Act.TheVariants.{Update}
use Rattle.rule_machine.specs.declared.event.Event.{Event}
use Rattle.rule_machine.specs.State.{State, IsState, pointer}
use Rattle.rule_machine.specs.RuleTable.{RuleTable, enabled_names}
use Rattle.rule_machine.specs.Stable.{IsStable}
use Rattle.rule_machine.specs.ChargeLaws.{CountsCharge, AreNear, AddsAtMost, IsCharged}
use Rattle.rule_machine.specs.LocalViews.{AgreesLocally}
use Rattle.rule_machine.specs.Table.{IsTable, AsksForWork}
use Rattle.rule_machine.specs.Target.{SameAt}

pub record RulesLaws (t : RuleTable) (central flags above : Bool) (weight : ℕ) (courted_close : Bool) (closes : State → ℕ → Bool) (adds : State → ℕ → ℕ) (cost : State → Event → ℕ) : Type 0 where
  -- Table and constant agree on the daemon.
  pub is_central : t.central ≡ central
  -- Table and constant agree on the flags.
  pub uses_flags : t.flags ≡ flags
  -- An allowed target is a neighbour, and its rule takes a target. An enabled rule that takes a target
  -- has an allowed target.
  pub table : IsTable t
  -- What each rule requires at its node: no rule is enabled without work to do.
  pub asks : AsksForWork t
  -- A guard depends only on the registers of its node and of the node's neighbours.
  pub is_local : (s u : State) (v : ℕ) (act : Act) → IsState s → IsState u → SameAt s u v → t.guard s v act ≡ t.guard u v act
  -- A guard depends only on the registers of its node and of the node's target, and on whether the node
  -- is married. If the node's pointer is null, also on whether a neighbour is a suitor, and whether a
  -- neighbour is open.
  pub is_glance : (s u : State) (v : ℕ) (act : Act) → IsState s → IsState u → AgreesLocally above t.opens s u v → t.guard s v act ≡ t.guard u v act
  -- At most one rule is enabled at a node.
  pub one_rule : (s : State) (v : ℕ) (a b : Act) → IsTrue (t.guard s v a) → IsTrue (t.guard s v b) → a ≡ b
  -- Without flags the rule that writes them is never enabled.
  pub no_update : t.flags ≡ false → (s : State) (v : ℕ) → t.guard s v Update ≡ false
  -- A silent network is stable.
  pub quiet_is_stable : (s : State) → IsState s → enabled_names t s ≡ [] → IsStable t.flags s
  -- A stable network is silent.
  pub stable_is_quiet : (s : State) → IsState s → IsStable t.flags s → enabled_names t s ≡ []
  -- What the charge counts. The charge, plus twice the number of pointers that close an edge, equals a
  -- sum: twice the number of edges open by their ends, plus the number of unanswered pointers, plus what the
  -- nodes add.
  pub charge_counts : CountsCharge courted_close closes adds t
  -- A null pointer closes no edge.
  pub null_closes_none : (s : State) (v : ℕ) → pointer s v ≡ None → closes s v ≡ false
  -- Whether a pointer closes an edge depends only on the target and the target's standing. What a node
  -- adds depends only on the node's own standing.
  pub near : AreNear closes adds
  -- A node adds at most 3 to the bound, so that counters fit 32 bits.
  pub is_light : weight ≤ 3
  -- A step lowers the charge by at least its number of moves. Edges and nodes bound the charge. A
  -- network with charge 0 is stable.
  pub charged : IsCharged t weight
  -- An accepted disturbance adds at most its cost.
  pub disturbances_cost : AddsAtMost cost t
