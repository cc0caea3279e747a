-- Items at the front of a text.
use Rattle.line_text.proofs.Prelude.{◌≡◌, ◌≢◌, ℕ, ◌+◌, ◌<◌, ◌≤◌, List, ◌∷◌, ◌++◌, length, Option, None, Some, refl, sym, ap, ◌∙◌, append_assoc, arith, slice_index, IfSome, AllByRecursion, append_cancel_left, Item, number_text, IsName, marked_text, spaced, IsItem, AreChoiceItems, item_text, NoDigit, NameThen, ItemEnds, ItemThen, SpellsChoice, []}
use Rattle.std.proofs.lemmas.List.{length-append, flat_map_more}
use Rattle.line_text.proofs.Digits.{name_once}
use Rattle.line_text.proofs.Grammars.{IsReadBack, EndsItem, all_both, both, item_ends, name_back, through, wish_back, wish_ends, wish_last, wish_space}

-- the empty text is not a text with a byte
pub nil_cons : {c : ℕ} {x : List ℕ} → [] ≡ c ∷ x → ⊥
nil_cons e = cc

-- an item of its parts
abbrev pub item_of : ℕ → Option ℕ → Item
item_of node wish = record { node = node; wish = wish }

-- an item is read back, and the end of the text or a space ends it
pub item_back : IsReadBack IsItem item_text (λ item. ItemEnds item.wish)
item_back = through (both name_back wish_back (λ node wish rest f ends. wish_ends wish rest ends)) (λ item. (item.node, item.wish)) (λ p. item_of p.0 p.1) (λ item. refl)

pub items_end : EndsItem (λ (item : Item). ItemEnds item.wish)
items_end = record { last = λ item. wish_last item.wish; space = λ item. wish_space item.wish }

-- the name of the item at the front, and its wish after it
pub item_name : (word : List ℕ) (item : Item) (rest : List ℕ) → ItemThen (32 ∷ word) item rest → NameThen word item.node (marked_text (62 ∷ []) item.wish ++ rest)
item_name word item rest h = record {
  fits = h.fits.0;
  ends = wish_ends item.wish rest h.ends;
  is = append_cancel_left (32 ∷ []) word (item_text item ++ rest) h.is ∙ append_assoc (number_text item.node) (marked_text (62 ∷ []) item.wish) rest;
}

-- the wish of an item, at the front
pub wish_name : (w : ℕ) (marked rest : List ℕ) → IsName w → NoDigit rest → 62 ∷ marked ≡ marked_text (62 ∷ []) (Some w) ++ rest → NameThen marked w rest
wish_name w marked rest f d e = record { fits = f; ends = d; is = append_cancel_left (62 ∷ []) marked (number_text w ++ rest) e }

-- no item, if no name follows the mark
no_wish_by : (word : List ℕ) (node : ℕ) (marked : List ℕ) (n : ℕ) (wish : Option ℕ) (rest : List ℕ) → NameThen word node (62 ∷ marked) → ((w : ℕ) (end : List ℕ) → NameThen marked w end → ⊥) → IfSome wish IsName → ItemEnds wish rest → NameThen word n (marked_text (62 ∷ []) wish ++ rest) → ⊥
no_wish_by word node marked n None rest a none f ends b =
    let r = name_once word node n (62 ∷ marked) rest a b in
    ends.1 (sym (ap (λ (z : List ℕ). slice_index z 0) r.1))
no_wish_by word node marked n (Some w) rest a none f ends b =
    let r = name_once word node n (62 ∷ marked) (marked_text (62 ∷ []) (Some w) ++ rest) a b in
    none w rest (wish_name w marked rest f ends r.1)

-- the same of a whole item
pub no_wish_no_item : (word : List ℕ) (node : ℕ) (marked : List ℕ) (item : Item) (rest : List ℕ) → NameThen word node (62 ∷ marked) → ((w : ℕ) (end : List ℕ) → NameThen marked w end → ⊥) → ItemThen (32 ∷ word) item rest → ⊥
no_wish_no_item word node marked item rest a none h =
    no_wish_by word node marked item.node item.wish rest a none h.fits.1 h.ends (item_name word item rest h)

-- an item at the front is one item
pub item_once : (bytes : List ℕ) (i j : Item) (x y : List ℕ) → ItemThen bytes i x → ItemThen bytes j y → (i ≡ j) × (x ≡ y)
item_once bytes i j x y a b =
    item_back.once i j x y a.fits b.fits a.ends b.ends (append_cancel_left (32 ∷ []) (item_text i ++ x) (item_text j ++ y) (sym a.is ∙ b.is))

-- the first of the items that a text spells
pub first_item : (bytes : List ℕ) (item : Item) (items : List Item) → AllByRecursion IsItem (item ∷ items) → bytes ≡ spaced item_text (item ∷ items) → ItemThen bytes item (spaced item_text items)
first_item bytes item items f e = record { fits = f.0; ends = item_ends items_end item_text item items; is = e }

-- Some items were read, and the rest is left: the items of the whole text are they and those of the rest.
pub record SoFar (bytes : List ℕ) (items : List Item) (rest : List ℕ) : Type 0 where
  pub fits : AllByRecursion IsItem items
  pub read : bytes ≡ spaced item_text items ++ rest
  pub left : (all : List Item) → AllByRecursion IsItem all → bytes ≡ spaced item_text all → (more : List Item) × (all ≡ items ++ more) × AllByRecursion IsItem more × (rest ≡ spaced item_text more)

-- what is left after one more item
left_behind : (rest : List ℕ) (item : Item) (behind : List ℕ) (more : List Item) → ItemThen rest item behind → AllByRecursion IsItem more → rest ≡ spaced item_text more → (others : List Item) × (more ≡ item ∷ others) × AllByRecursion IsItem others × (behind ≡ spaced item_text others)
left_behind rest item behind [] h f e = absurd (nil_cons (sym e ∙ h.is))
left_behind rest item behind (i ∷ is) h f e =
    let r = item_once rest item i behind (spaced item_text is) h (first_item rest i is f e) in
    (is, ap (λ (j : Item). j ∷ is) (sym r.0), f.1, r.1)

-- one more item was read
pub SoFar-more : (bytes : List ℕ) (items : List Item) (rest : List ℕ) (item : Item) (behind : List ℕ) → SoFar bytes items rest → ItemThen rest item behind → SoFar bytes (items ++ item ∷ []) behind
SoFar-more bytes items rest item behind s h = record {
  fits = all_both IsItem items (item ∷ []) s.fits (h.fits, tt);
  read = s.read ∙ ap (λ (z : List ℕ). spaced item_text items ++ z) h.is ∙ sym (append_assoc (spaced item_text items) (32 ∷ item_text item) behind) ∙ ap (λ (z : List ℕ). z ++ behind) (flat_map_more (λ (i : Item). 32 ∷ item_text i) [] items item);
  left = λ all f e.
      let l = s.left all f e in
      let b = left_behind rest item behind l.0 h l.2 l.3 in
      (b.0, l.1 ∙ ap (λ (z : List Item). items ++ z) b.1 ∙ sym (append_assoc items (item ∷ []) b.0), b.2, b.3);
}

-- no items are spelled if the rest is not empty and begins with none
stuck : (rest : List ℕ) (more : List Item) → rest ≢ [] → ((item : Item) (end : List ℕ) → ItemThen rest item end → ⊥) → AllByRecursion IsItem more → rest ≡ spaced item_text more → ⊥
stuck rest [] some none f e = some e
stuck rest (i ∷ is) some none f e = none i (spaced item_text is) (first_item rest i is f e)

-- no items are spelled if the rest begins with none
pub SoFar-stuck : (bytes : List ℕ) (items : List Item) (rest : List ℕ) → SoFar bytes items rest → rest ≢ [] → ((item : Item) (end : List ℕ) → ItemThen rest item end → ⊥) → (all : List Item) → AreChoiceItems all → bytes ≡ spaced item_text all → ⊥
SoFar-stuck bytes items rest s some none all f e =
    let l = s.left all f.1 e in
    stuck rest l.0 some none l.2 l.3

-- Some items were counted, and the rest is left.
pub record Counted (bytes : List ℕ) (count : ℕ) (rest : List ℕ) : Type 0 where
  pub items : List Item
  pub so_far : SoFar bytes items rest
  pub many : length items ≡ count
  pub few : count ≤ 65535

-- one more item was counted
pub Counted-more : (bytes : List ℕ) (count : ℕ) (rest : List ℕ) (item : Item) (behind : List ℕ) → Counted bytes count rest → count < 65535 → ItemThen rest item behind → Counted bytes (count + 1) behind
Counted-more bytes count rest item behind c few h =
    let many = c.many in
    record {
      items = c.items ++ item ∷ [];
      so_far = SoFar-more bytes c.items rest item behind c.so_far h;
      many = length-append c.items (item ∷ []) ∙ ap (λ (n : ℕ). n + 1) many;
      few = omega arith;
    }

-- no choice is spelled if the rest begins with no item
pub Counted-stuck : (bytes : List ℕ) (count : ℕ) (rest : List ℕ) → Counted bytes count rest → rest ≢ [] → ((item : Item) (end : List ℕ) → ItemThen rest item end → ⊥) → SpellsChoice bytes → ⊥
Counted-stuck bytes count rest c some none s = SoFar-stuck bytes c.items rest c.so_far some none s.0 s.1 s.2
