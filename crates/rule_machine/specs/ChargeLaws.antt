-- Laws of a rule set's charge: what it counts, and how far moves and disturbances change it.
use Rattle.std.specs.Prelude.{◌≡◌, ℕ, ◌+◌, ◌*◌, ◌≤◌, Bool, Some, List, length, count_by, sum_by}
use Rattle.rule_machine.specs.declared.act.Moved.{Moved}
use Rattle.rule_machine.specs.declared.choice.Item.{Item}
use Rattle.rule_machine.specs.declared.event.Event.{Event}
use Rattle.rule_machine.specs.declared.reply.Reply.TheVariants.{Accepted}
use Rattle.rule_machine.specs.Answer.{Answers}
use Rattle.rule_machine.specs.Network.{Network, names, edge_list, node_count, edge_count}
use Rattle.rule_machine.specs.RuleTable.{RuleTable}
use Rattle.rule_machine.specs.Stable.{IsStable}
use Rattle.rule_machine.specs.State.{State, IsState, pointer, is_unanswered}
use Rattle.rule_machine.specs.Step.{IsStep}
use Rattle.rule_machine.specs.ChargeInputs.{ends_open, IsSameChargeInput}

-- The charge, plus twice the number of pointers that close an edge, equals a sum: twice the number of
-- edges open by their ends, plus the number of unanswered pointers, plus what the nodes add.
abbrev pub CountsCharge : Bool → (State → ℕ → Bool) → (State → ℕ → ℕ) → RuleTable → Type 0
CountsCharge courted_close closes adds t =
    (s : State) → IsState s → t.charge s + 2 * count_by (closes s) (names s.network) ≡ 2 * count_by (ends_open courted_close s) (edge_list s.network) + count_by (is_unanswered s) (names s.network) + sum_by (adds s) (names s.network)

-- Whether a pointer closes an edge depends only on the pointer's target and that target's standing.
-- What a node adds depends only on the node's own standing.
pub record AreNear (closes : State → ℕ → Bool) (adds : State → ℕ → ℕ) : Type 0 where
  pub closes_by_target : (s u : State) (v w : ℕ) → IsState s → IsState u → pointer s v ≡ Some w → pointer u v ≡ Some w → IsSameChargeInput s u w → closes s v ≡ closes u v
  pub adds_by_standing : (s u : State) (v : ℕ) → IsSameChargeInput s u v → adds s v ≡ adds u v

-- twice the edges of a network, and a weight for each of its nodes
abbrev pub charge_bound : ℕ → Network → ℕ
charge_bound weight net = 2 * edge_count net + weight * node_count net

-- Each step lowers the charge by at least its number of moves. Edges and nodes bound the charge. If
-- the charge is zero, the network is stable.
pub record IsCharged (t : RuleTable) (weight : ℕ) : Type 0 where
  pub falls : (s : State) (items : List Item) (moves : List Moved) (s' : State) → IsState s → IsStep t s items moves s' → t.charge s' + length moves ≤ t.charge s
  pub bounded : (s : State) → IsState s → t.charge s ≤ charge_bound weight s.network
  pub zero_is_stable : (s : State) → IsState s → t.charge s ≡ 0 → IsStable t.flags s

-- An accepted disturbance adds at most its cost to the charge.
abbrev pub AddsAtMost : (State → Event → ℕ) → RuleTable → Type 0
AddsAtMost cost t =
    (s : State) → IsState s → (spent : ℕ) (event : Event) (after : State) → Answers t s spent event Accepted after → t.charge after ≤ t.charge s + cost s event
