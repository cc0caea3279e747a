-- How long the text of an event is.
use Rattle.line_text.proofs.Prelude.{ℕ, ◌+◌, ◌*◌, ◌≤◌, Bool, true, false, List, [], ◌∷◌, ◌++◌, Option, None, Some, length, codes, length-append, arith, AllByRecursion, length-decimal-le, Item, Event, Link, Unlink, Point, Flag, Step, Show, Enabled, Matching, Status, Join, Leave, number_text, IsName, marked_text, spaced, IsItem, IsEvent, pair_text, target_text, bool_text, item_text, event_text}
use Rattle.std.proofs.Common.{IfSome}

pub name_short : (n : ℕ) → IsName n → length (number_text n) ≤ 5
name_short n h = length-decimal-le 5 n (omega arith) (omega (arith, h.1)) (omega (arith, h.1))

pub mark_short : (wish : Option ℕ) → IfSome wish IsName → length (marked_text (codes ">") wish) ≤ 6
mark_short None h = omega arith
mark_short (Some n) h = omega (arith, name_short n h, length-append (codes ">") (number_text n))

pub item_short : (item : Item) → IsItem item → length (item_text item) ≤ 11
item_short item h =
    omega (arith, name_short item.node h.0, mark_short item.wish h.1, length-append {A = ℕ})

pub items_short : (items : List Item) → AllByRecursion IsItem items → length (spaced item_text items) ≤ 12 * length items
items_short [] h = omega arith
items_short (item ∷ items) h =
    omega (arith, item_short item h.0, items_short items h.1, length-append (item_text item) (spaced item_text items))

pub two_short : (x y : List ℕ) (m n : ℕ) → length x ≤ m → length y ≤ n → length (x ++ codes " " ++ y) ≤ m + n + 1
two_short x y m n p q =
    omega (arith, p, q, length-append x (codes " "), length-append (x ++ codes " ") y)

pub pair_short : (a b : ℕ) → IsName a → IsName b → length (pair_text a b) ≤ 11
pair_short a b p q = two_short (number_text a) (number_text b) 5 5 (name_short a p) (name_short b q)

pub target_short : (w : Option ℕ) → IfSome w IsName → length (target_text w) ≤ 5
target_short None h = omega arith
target_short (Some n) h = name_short n h

pub bool_short : (b : Bool) → length (bool_text b) ≤ 1
bool_short true = omega arith
bool_short false = omega arith

pub event_short : (e : Event) → IsEvent e → length (event_text e) ≤ 786424
event_short (Link a b) h = omega (arith, pair_short a b h.0 h.1, length-append (codes "link ") (pair_text a b))
event_short (Unlink a b) h = omega (arith, pair_short a b h.0 h.1, length-append (codes "unlink ") (pair_text a b))
event_short (Point v w) h = omega (arith, name_short v h.0, target_short w h.1, length-append {A = ℕ})
event_short (Flag v b) h = omega (arith, name_short v h, bool_short b, length-append {A = ℕ})
event_short (Join v) h = omega (arith, name_short v h, length-append (codes "join ") (number_text v))
event_short (Leave v) h = omega (arith, name_short v h, length-append (codes "leave ") (number_text v))
event_short (Step items) h = omega (arith, items_short items h.1, h.0, length-append (codes "step") (spaced item_text items))
event_short (Show v) h = omega (arith, name_short v h, length-append (codes "show ") (number_text v))
event_short Enabled h = omega arith
event_short Matching h = omega arith
event_short Status h = omega arith
