-- The contract of every daemon.
use Rattle.std.specs.Prelude.{◌≡◌, ℕ, ◌≤◌, Bool, IsTrue, List, map, length, None}
use Rattle.std.specs.List.{All}
use Rattle.std.specs.List.Sorted.{IsStrictlyIncreasing}
use Rattle.rule_machine.specs.declared.choice.Item.{Item}
use Rattle.enabled_set.specs.Members.{is_in}

-- the nodes that a choice names
abbrev pub nodes_of : List Item → List ℕ
nodes_of choice = map (λ item. item.node) choice

-- an item for each of these names, without a wish
abbrev pub plain : List ℕ → List Item
plain names = map (λ v. record { node = v; wish = None }) names

-- A choice from a set is lawful if it has at least one item, and only one if the daemon is central.
-- Its nodes are distinct members of the set, ascending, without wishes.
pub record IsLawful (bits : List Bool) (central : Bool) (choice : List Item) : Type 0 where
  pub some : 1 ≤ length choice
  pub chosen : All (λ item. IsTrue (is_in bits item.node)) choice
  pub ascending : IsStrictlyIncreasing (nodes_of choice)
  pub no_wish : All (λ item. item.wish ≡ None) choice
  pub one : IsTrue central → length choice ≡ 1
