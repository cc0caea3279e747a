-- Marks of the nodes named by items.
use Rattle.std.specs.Prelude.{◌≡◌, ℕ, ◌+◌, ◌<◌, Bool, List, IsSome, length, nat_eq, slice_index_or}
use Rattle.std.specs.List.{list_any}
use Rattle.rule_machine.specs.State.{State}
use Rattle.rule_machine.specs.declared.choice.Item.{Item}
use Rattle.rule_machine.specs.declared.verdict.Outcome.{Outcome}
use Rattle.rule_machine.specs.Least.{move_in}
use Rattle.enabled_set.specs.Members.{is_in}

-- the marks have a place for each name of the state
abbrev pub HasMarks : State → List Bool → Type 0
HasMarks s marks = length marks ≡ s.network.size + 1

-- exactly the nodes that pass the test are marked
abbrev pub AreMarks : (ℕ → Bool) → List Bool → Type 0
AreMarks test marks = (v : ℕ) → is_in marks v ≡ test v

-- whether one of these items names the node
abbrev pub is_named : List Item → ℕ → Bool
is_named items v = list_any (λ i. nat_eq i.node v) items

-- each item names a higher node than the items before it
abbrev pub Ascend : List Item → Type 0
Ascend items = (i j : ℕ) (d : Item) → i < j → j < length items → (slice_index_or items i d).node < (slice_index_or items j d).node

-- if the outcome is a move, the node has one of these places
abbrev pub HasPlace : ℕ → ℕ → Outcome → Type 0
HasPlace places v outcome = IsSome (move_in outcome) → v < places
