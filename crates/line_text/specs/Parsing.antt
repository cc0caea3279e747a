-- What the readers of a line's parts say of their bytes.
use Rattle.std.specs.Prelude.{◌≡◌, ◌≢◌, ◌<◌, Bool, true, false, ℕ, List, ◌++◌, length, Option, None, Some, MatchOption, slice_index, codes}
use Rattle.std.specs.Int.{IsInRange}
use Rattle.rule_machine.specs.declared.choice.Item.{Item}
use Rattle.line_text.specs.Words.{number_text, IsName, spaced}
use Rattle.line_text.specs.EventText.{IsItem, AreChoiceItems, item_text}

-- the bytes are the text of the value found; if no value was found, the bytes are not the text of such
-- a value
abbrev pub ParsesAs : {X : Type 0} → (X → Type 0) → (X → List ℕ) → List ℕ → Option X → Type 0
ParsesAs {X} fits text bytes found = MatchOption found ((x : X) → fits x → bytes ≡ text x → ⊥) (λ x. fits x × (bytes ≡ text x))

-- like `ParsesAs`, for a value of two parts
abbrev pub ReadsTwo : {X Y : Type 0} → (X → Y → Type 0) → (X → Y → List ℕ) → List ℕ → Option (X × Y) → Type 0
ReadsTwo {X} {Y} fits text bytes found =
    MatchOption found ((x : X) (y : Y) → fits x y → bytes ≡ text x y → ⊥) (λ p. fits p.0 p.1 × (bytes ≡ text p.0 p.1))

-- the first byte is not a digit
abbrev pub NoDigit : List ℕ → Type 0
NoDigit bytes = IsInRange 48 57 (slice_index bytes 0) → ⊥

-- the bytes are a name and, after its last digit, the rest
pub record NameThen (bytes : List ℕ) (name : ℕ) (rest : List ℕ) : Type 0 where
  pub fits : IsName name
  pub ends : NoDigit rest
  pub is : bytes ≡ number_text name ++ rest

-- the bytes are a number of at most eight digits and, after its last digit, the rest
pub record NumberThen (bytes : List ℕ) (number : ℕ) (rest : List ℕ) : Type 0 where
  pub fits : number < 100000000
  pub ends : NoDigit rest
  pub is : bytes ≡ number_text number ++ rest

-- the bytes are a name, a space, and the rest
pub record WordThen (bytes : List ℕ) (name : ℕ) (rest : List ℕ) : Type 0 where
  pub fits : IsName name
  pub is : bytes ≡ number_text name ++ (codes " " ++ rest)

-- the rest begins with no digit and, if there was no wish, with no `>`
abbrev pub ItemEnds : Option ℕ → List ℕ → Type 0
ItemEnds None rest = NoDigit rest × (slice_index rest 0 ≢ 62)
ItemEnds (Some w) rest = NoDigit rest

-- the bytes are an item after a space, and the rest
pub record ItemThen (bytes : List ℕ) (item : Item) (rest : List ℕ) : Type 0 where
  pub fits : IsItem item
  pub ends : ItemEnds item.wish rest
  pub is : bytes ≡ codes " " ++ (item_text item ++ rest)

-- the bytes are the items of a choice, each after one space
abbrev pub SpellsChoice : List ℕ → Type 0
SpellsChoice bytes = (items : List Item) × AreChoiceItems items × (bytes ≡ spaced item_text items)

-- the bytes are this many items of a choice, each after one space
abbrev pub HasItems : List ℕ → ℕ → Type 0
HasItems bytes count = (items : List Item) × AreChoiceItems items × (bytes ≡ spaced item_text items) × (length items ≡ count)

-- the value that was stored; None if the flag says that no value was
abbrev pub kept_if : {X : Type 0} → Bool → X → Option X
kept_if true x = Some x
kept_if false x = None
