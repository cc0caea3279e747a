-- The rule of the copies: what each reader knows is a prefix of what is published.
use Rattle.std.specs.Prelude.{◌≡◌, ℕ, ◌+◌, List, length, Option, None, Some}
use mathlib.Core.List.{IsPrefix}
use mathlib.Core.Option.{some}
use lib.ListN.{get_elem?}
use Rattle.rule_machine.specs.Run.{Entry}
use Rattle.rule_machine.specs.Base.{dropped}
use Rattle.snapshots.specs.History.{shown}
use Rattle.snapshots.specs.Origins.{base_before}
use Rattle.snapshots.specs.Row.{BoardShape, pointers_after, here_after}
use Rattle.snapshots.specs.CopyViews.{CopyView, extent_of}

-- what was known, if anything, is of the same history and board as what is shown, and is a prefix of it
abbrev pub ExtendsView : Option CopyView → CopyView → Type 0
ExtendsView None x = Unit {0}
ExtendsView (Some s) x = (x.book ≡ s.book) × (extent_of x ≡ extent_of s) × IsPrefix (shown s.marks) (shown x.marks)

-- a copy that agrees with the entries that it shows, which keep the law
pub record IsSound (law : BoardShape → List Entry → Type 0) (x : CopyView) : Type 0 where
  pub row : x.row ≡ pointers_after (extent_of x) (shown x.marks)
  pub here : x.here ≡ here_after (extent_of x) (shown x.marks)
  pub front : x.front ≡ dropped (base_before x.marks) + length (shown x.marks)
  pub lawful : law (extent_of x) (shown x.marks)

module _ (law : BoardShape → List Entry → Type 0) where
  -- between any two steps: the readers' copy is sound, and continues what each reader and the writer know
  abbrev pub Publishes : CopyView → List (Option CopyView) → Type 0
  Publishes x views = IsSound law x × ((seat : ℕ) (v : Option CopyView) → get_elem? views seat ≡ some v → ExtendsView v x)

  -- after a read or a publication of a copy, the copy is known and continues what was known
  abbrev pub Sees : Option CopyView → CopyView → CopyView → Option CopyView → Type 0
  Sees v x y w = (w ≡ Some y) × ExtendsView v y × IsSound law y
