-- A board, a reader and a note, as contracts see them.
use Rattle.std.specs.Prelude.{List, Option, None, Some}
use Rattle.rule_machine.specs.declared.base.Base.{Base}
use Rattle.rule_machine.specs.Run.{Entry}
use Rattle.logbook.specs.Pages.{Book}
use Rattle.snapshots.specs.Row.{BoardShape}
use Rattle.snapshots.specs.CopyViews.{CopyView, extent_of}

-- the history of a board's entries; the number of places, the number of nodes before any entry, and the base
-- at which the entries begin, if any
pub record BoardName : Type 0 where
  pub book : Book
  pub extent : BoardShape

-- the published entries, and the posted one not yet published, if any
pub record BoardView : Type 0 where
  pub list : List Entry
  pub posted : List Entry
  pub name : BoardName

-- the entries that the reader saw last, and those that later looks include at least
pub record ReaderView : Type 0 where
  pub list : List Entry
  pub learnt : List Entry
  pub name : BoardName

-- the entries that were published, their history, and the base before them, if any
pub record PublishedLog : Type 0 where
  pub log : List Entry
  pub book : Book
  pub base : Option Base

-- the extent of the copy that was seen last
abbrev pub extent_seen : Option CopyView → BoardShape
extent_seen None = record { places = 0; present = 0; base = None }
extent_seen (Some x) = extent_of x
