-- A table with an entry for each name: the item of a choice that names the node, with the node's enabled
-- rule.
use Rattle.std.specs.Prelude.{◌≡◌, ℕ, ◌+◌, length, Bool, false, not, List, Option, None, Some, Result, IfSome, MatchResult, IsTrue, if◌then◌else◌, nat_eq, option_map, slice_index_or}
use Rattle.std.specs.List.{list_any}
use Rattle.rule_machine.specs.declared.act.Act.{Act}
use Rattle.rule_machine.specs.declared.choice.Item.{Item}
use Rattle.rule_machine.specs.declared.act.Moved.{Moved}
use Rattle.rule_machine.specs.declared.refusal.Refusal.{Refusal}
use Rattle.rule_machine.specs.declared.refusal.Refusal.TheVariants.{UnknownNode, ChosenTwice}
use Rattle.rule_machine.specs.Network.{present}
use Rattle.rule_machine.specs.State.{State}
use Rattle.rule_machine.specs.RuleTable.{RuleTable, rule_at}
use Rattle.rule_machine.specs.Refuse.{rule_refusal}
use Rattle.rule_machine.specs.Least.{item_of}
use Rattle.machine_laws.specs.MoveTests.{is_move_of}
use Rattle.reply_checker.specs.declared.choices.RuledItem.{RuledItem}

-- the entry of the name v
abbrev pub ruled_at : List (Option RuledItem) → ℕ → Option RuledItem
ruled_at table v = slice_index_or table v None

-- the item in the entry of the name v
abbrev pub item_at : List (Option RuledItem) → ℕ → Option Item
item_at table v = option_map (λ r. r.item) (ruled_at table v)

-- the rule is enabled at the item's node, and allows the target that the item wishes
pub record IsRuled (t : RuleTable) (s : State) (item : Item) (act : Act) : Type 0 where
  pub rule : rule_at t s item.node ≡ Some act
  pub wish : IfSome item.wish (λ w. IsTrue (t.allowed s item.node act w))

-- each entry has the rule that is enabled at its item's node
abbrev pub AreRuled : RuleTable → State → List (Option RuledItem) → Type 0
AreRuled t s table = (v : ℕ) → IfSome (ruled_at table v) (λ r. IsRuled t s r.item r.act)

-- the entry of each name has the first of the items that names it, with the node's rule
pub record HasChosenItems (t : RuleTable) (s : State) (table : List (Option RuledItem)) (items : List Item) : Type 0 where
  pub first : (v : ℕ) → item_at table v ≡ item_of items v
  pub ruled : AreRuled t s table

-- whether an item names v
abbrev pub is_item_node : List Item → ℕ → Bool
is_item_node items v = list_any (λ i. nat_eq i.node v) items

-- whether a move is of v
abbrev pub is_mover : List Moved → ℕ → Bool
is_mover moves v = list_any (λ m. nat_eq m.node v) moves

-- only names that the items name have an entry with an item
abbrev pub HasOnlyItemsOf : List (Option RuledItem) → List Item → Type 0
HasOnlyItemsOf table items = (v : ℕ) → is_item_node items v ≡ false → ruled_at table v ≡ None

-- no entry has an item
abbrev pub IsClear : List (Option RuledItem) → Type 0
IsClear table = (v : ℕ) → ruled_at table v ≡ None

-- why an item is refused, if it is; the Bool is whether its node was chosen before
abbrev pub refused_item : RuleTable → State → Item → Bool → Option Refusal
refused_item t s item twice =
    if not (present s.network item.node) then Some UnknownNode
    else (if twice then Some ChosenTwice else rule_refusal t s item (rule_at t s item.node))

-- the result for an item: the reason if it is refused, else its rule
abbrev pub IsItemVerdict : RuleTable → State → Item → Option Refusal → Result Act Refusal → Type 0
IsItemVerdict t s item refusal found =
    MatchResult found (λ act. (refusal ≡ None) × IsRuled t s item act) (λ reason. refusal ≡ Some reason)

-- whether there is an item and the move is one that the item asks for
abbrev pub is_move_by : RuleTable → State → Option Item → Moved → Bool
is_move_by t s None m = false
is_move_by t s (Some item) m = is_move_of t s item m

-- the table has an entry for 0 and each name up to size, and no entry has an item
pub record IsClearTable (size : ℕ) (table : List (Option RuledItem)) : Type 0 where
  pub len : length table ≡ size + 1
  pub clear : IsClear table
