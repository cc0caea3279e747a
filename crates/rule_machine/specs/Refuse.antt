-- Why an event is refused: the first reason in a fixed order. A step is judged before any node moves.
use Rattle.std.specs.Prelude.{ℕ, Bool, not, ◌&&◌, List, [], ◌∷◌, ◌++◌, Option, None, Some, if◌then◌else◌, nat_eq, nat_le, nat_lt, length, codes}
use Rattle.std.specs.List.{list_any}
use Rattle.std.specs.Option.{option_or}
use Rattle.rule_machine.specs.declared.act.Act.{Act}
use Rattle.rule_machine.specs.declared.choice.Item.{Item}
use Rattle.rule_machine.specs.declared.event.Event.{Event}
use Rattle.rule_machine.specs.declared.event.Event.TheVariants.{Link, Unlink, Point, Flag, Step, Show, Enabled, Matching, Status, Join, Leave}
use Rattle.rule_machine.specs.declared.refusal.Refusal.{Refusal}
use Rattle.rule_machine.specs.declared.refusal.Refusal.TheVariants.{UnknownNode, SelfLoop, AlreadyLinked, NotLinked, TooManyEdges, NotNeighbour, NoFlag, EmptyChoice, NotCentral, ChosenTwice, NotEnabled, BadTarget, AlreadyPresent}
use Rattle.rule_machine.specs.Network.{Network, present, linked, edge_count}
use Rattle.rule_machine.specs.State.{State}
use Rattle.rule_machine.specs.RuleTable.{RuleTable, rule_at}

-- the most edges that a network may have
abbrev pub max_edges : ℕ
max_edges = 1048576

abbrev pub both_present : Network → ℕ → ℕ → Bool
both_present net a b = present net a && present net b

abbrev pub link_refusal : Network → ℕ → ℕ → Option Refusal
link_refusal net a b =
    if not (both_present net a b) then Some UnknownNode
    else (if nat_eq a b then Some SelfLoop
    else (if linked net a b then Some AlreadyLinked
    else (if nat_le max_edges (edge_count net) then Some TooManyEdges else None)))

abbrev pub unlink_refusal : Network → ℕ → ℕ → Option Refusal
unlink_refusal net a b =
    if not (both_present net a b) then Some UnknownNode
    else (if nat_eq a b then Some SelfLoop
    else (if linked net a b then None else Some NotLinked))

-- writing null is never refused at a present node
abbrev pub point_refusal : Network → ℕ → Option ℕ → Option Refusal
point_refusal net v None = if present net v then None else Some UnknownNode
point_refusal net v (Some w) =
    if not (both_present net v w) then Some UnknownNode else (if linked net v w then None else Some NotNeighbour)

abbrev pub flag_refusal : RuleTable → Network → ℕ → Option Refusal
flag_refusal t net v = if not t.flags then Some NoFlag else (if present net v then None else Some UnknownNode)

abbrev pub show_refusal : Network → ℕ → Option Refusal
show_refusal net v = if present net v then None else Some UnknownNode

-- no node can have the name 0 or a name above the size
abbrev pub join_refusal : Network → ℕ → Option Refusal
join_refusal net v =
    if not (nat_le 1 v && nat_le v net.size) then Some UnknownNode else (if present net v then Some AlreadyPresent else None)

abbrev pub leave_refusal : Network → ℕ → Option Refusal
leave_refusal net v = if present net v then None else Some UnknownNode

-- a wish is refused if the rule does not allow the wished target
abbrev pub wish_refusal : (ℕ → Bool) → Option ℕ → Option Refusal
wish_refusal allowed None = None
wish_refusal allowed (Some w) = if allowed w then None else Some BadTarget

abbrev pub rule_refusal : RuleTable → State → Item → Option Act → Option Refusal
rule_refusal t s item None = Some NotEnabled
rule_refusal t s item (Some act) = wish_refusal (t.allowed s item.node act) item.wish

-- why an item is refused, given the earlier items of its choice
abbrev pub item_refusal : RuleTable → State → List Item → Item → Option Refusal
item_refusal t s earlier item =
    if not (present s.network item.node) then Some UnknownNode
    else (if list_any (λ i. nat_eq i.node item.node) earlier then Some ChosenTwice
    else rule_refusal t s item (rule_at t s item.node))

-- the refusal of the first item that is refused, given the earlier items
abbrev pub items_refusal : RuleTable → State → List Item → List Item → Option Refusal
items_refusal t s earlier [] = None
items_refusal t s earlier (item ∷ items) =
    option_or (item_refusal t s earlier item) (items_refusal t s (earlier ++ item ∷ []) items)

abbrev pub step_refusal : RuleTable → State → List Item → Option Refusal
step_refusal t s items =
    if nat_eq (length items) 0 then Some EmptyChoice
    else (if t.central && nat_lt 1 (length items) then Some NotCentral
    else items_refusal t s [] items)

-- why the event is refused, if it is
abbrev pub refusal_of : RuleTable → State → Event → Option Refusal
refusal_of t s (Link a b) = link_refusal s.network a b
refusal_of t s (Unlink a b) = unlink_refusal s.network a b
refusal_of t s (Point v target) = point_refusal s.network v target
refusal_of t s (Flag v value) = flag_refusal t s.network v
refusal_of t s (Step items) = step_refusal t s items
refusal_of t s (Show v) = show_refusal s.network v
refusal_of t s Enabled = None
refusal_of t s Matching = None
refusal_of t s Status = None
refusal_of t s (Join v) = join_refusal s.network v
refusal_of t s (Leave v) = leave_refusal s.network v

-- the number of a refusal in a transcript
abbrev pub refusal_number : Refusal → ℕ
refusal_number UnknownNode = 1
refusal_number SelfLoop = 2
refusal_number AlreadyLinked = 3
refusal_number NotLinked = 4
refusal_number TooManyEdges = 5
refusal_number NotNeighbour = 6
refusal_number NoFlag = 7
refusal_number EmptyChoice = 8
refusal_number NotCentral = 9
refusal_number ChosenTwice = 10
refusal_number NotEnabled = 11
refusal_number BadTarget = 12
refusal_number AlreadyPresent = 13

-- the text of a refusal in a transcript
abbrev pub refusal_text : Refusal → List ℕ
refusal_text UnknownNode = codes "unknown-node"
refusal_text SelfLoop = codes "self-loop"
refusal_text AlreadyLinked = codes "already-linked"
refusal_text NotLinked = codes "not-linked"
refusal_text TooManyEdges = codes "too-many-edges"
refusal_text NotNeighbour = codes "not-neighbour"
refusal_text NoFlag = codes "no-flag"
refusal_text EmptyChoice = codes "empty-choice"
refusal_text NotCentral = codes "not-central"
refusal_text ChosenTwice = codes "chosen-twice"
refusal_text NotEnabled = codes "not-enabled"
refusal_text BadTarget = codes "bad-target"
refusal_text AlreadyPresent = codes "already-present"
