-- Script lines: the one spelling of each event.
use Rattle.std.specs.Prelude.{◌≡◌, ℕ, ◌≤◌, Bool, true, false, List, ◌++◌, length, Option, None, Some, IfSome, codes}
use Rattle.std.specs.List.{AllByRecursion}
use Rattle.rule_machine.specs.declared.choice.Item.{Item}
use Rattle.rule_machine.specs.declared.event.Event.{Event}
use Rattle.rule_machine.specs.declared.event.Event.TheVariants.{Link, Unlink, Point, Flag, Step, Show, Enabled, Matching, Status, Join, Leave}
use Rattle.line_text.specs.Words.{number_text, IsName, marked_text, spaced}

-- two names
abbrev pub pair_text : ℕ → ℕ → List ℕ
pair_text a b = number_text a ++ codes " " ++ number_text b

-- a name, or `-` for null
abbrev pub target_text : Option ℕ → List ℕ
target_text None = codes "-"
target_text (Some w) = number_text w

-- a name, and its pointer
abbrev pub point_text : ℕ → Option ℕ → List ℕ
point_text v target = number_text v ++ codes " " ++ target_text target

abbrev pub bool_text : Bool → List ℕ
bool_text false = codes "0"
bool_text true = codes "1"

-- a name, and its flag
abbrev pub flag_text : ℕ → Bool → List ℕ
flag_text v value = number_text v ++ codes " " ++ bool_text value

-- a node, and its wish after a `>`
abbrev pub item_text : Item → List ℕ
item_text item = number_text item.node ++ marked_text (codes ">") item.wish

abbrev pub event_text : Event → List ℕ
event_text (Link a b) = codes "link " ++ pair_text a b
event_text (Unlink a b) = codes "unlink " ++ pair_text a b
event_text (Point v target) = codes "point " ++ point_text v target
event_text (Flag v value) = codes "flag " ++ flag_text v value
event_text (Join v) = codes "join " ++ number_text v
event_text (Leave v) = codes "leave " ++ number_text v
event_text (Step items) = codes "step" ++ spaced item_text items
event_text (Show v) = codes "show " ++ number_text v
event_text Enabled = codes "enabled"
event_text Matching = codes "matching"
event_text Status = codes "status"

-- what each item of a step satisfies
abbrev pub IsItem : Item → Type 0
IsItem item = IsName item.node × IfSome item.wish IsName

abbrev pub AreChoiceItems : List Item → Type 0
AreChoiceItems items = (length items ≤ 65535) × AllByRecursion IsItem items

-- what each value of the program's type of events satisfies: names are 1 to 65,535, and a step has at most
-- 65,535 items
abbrev pub IsEvent : Event → Type 0
IsEvent (Link a b) = IsName a × IsName b
IsEvent (Unlink a b) = IsName a × IsName b
IsEvent (Point v target) = IsName v × IfSome target IsName
IsEvent (Flag v value) = IsName v
IsEvent (Join v) = IsName v
IsEvent (Leave v) = IsName v
IsEvent (Step items) = AreChoiceItems items
IsEvent (Show v) = IsName v
IsEvent Enabled = Unit {0}
IsEvent Matching = Unit {0}
IsEvent Status = Unit {0}

abbrev pub Spells : List ℕ → Event → Type 0
Spells line event = IsEvent event × (line ≡ event_text event)

abbrev pub NotACommand : List ℕ → Type 0
NotACommand line = (event : Event) → Spells line event → ⊥

-- the line is a step, which is the only event that has a list
abbrev pub SpellsStep : List ℕ → Type 0
SpellsStep line = (items : List Item) × Spells line (Step items)
