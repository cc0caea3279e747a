-- The words of lines, and what a failed write may leave of a text. A byte is its ASCII code.
use Rattle.std.specs.Prelude.{ℕ, ◌+◌, ◌/◌, ◌%◌, ◌≤◌, List, [], ◌∷◌, ◌++◌, Option, None, Some, codes, ◌≡◌}
use Rattle.std.specs.Fmt.{decimal}
use Rattle.std.specs.List.{flat_map}

-- a number in decimal, without leading zeros
abbrev pub number_text : ℕ → List ℕ
number_text n = decimal n

-- the six digits of a number below a million, with leading zeros
abbrev pub six_digits : ℕ → List ℕ
six_digits n =
    (48 + n / 100 / 100 / 10) ∷ (48 + n / 100 / 100 % 10) ∷ (48 + n / 100 % 100 / 10) ∷ (48 + n / 100 % 100 % 10)
    ∷ (48 + n % 100 / 10) ∷ (48 + n % 100 % 10) ∷ []

-- the names of nodes
abbrev pub IsName : ℕ → Type 0
IsName n = (1 ≤ n) × (n ≤ 65535)

-- a mark and a name; empty if there is no name
abbrev pub marked_text : List ℕ → Option ℕ → List ℕ
marked_text mark None = []
marked_text mark (Some n) = mark ++ number_text n

-- each item's text after one space
abbrev pub spaced : {X : Type 0} → (X → List ℕ) → List X → List ℕ
spaced text items = flat_map (λ item. codes " " ++ text item) items

-- each item's text with one space after it
abbrev pub space_ended : {X : Type 0} → (X → List ℕ) → List X → List ℕ
space_ended text items = flat_map (λ item. text item ++ codes " ") items

-- the items' texts, joined by one space
abbrev pub joined_texts : {X : Type 0} → (X → List ℕ) → List X → List ℕ
joined_texts text [] = []
joined_texts text (item ∷ items) = text item ++ spaced text items

-- the items' texts, joined by one space, or a word if there are no items
abbrev pub joined_or : {X : Type 0} → List ℕ → (X → List ℕ) → List X → List ℕ
joined_or word text [] = word
joined_or word text (item ∷ items) = joined_texts text (item ∷ items)

-- each item's text with an LF after it
abbrev pub lines_with_ends : {X : Type 0} → (X → List ℕ) → List X → List ℕ
lines_with_ends text items = flat_map (λ item. text item ++ 10 ∷ []) items

-- `new` begins with `old`
pub record Extends (old new : List ℕ) : Type 0 where
  pub more : List ℕ
  pub is : new ≡ old ++ more
