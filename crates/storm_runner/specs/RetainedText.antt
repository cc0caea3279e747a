-- The text of the log that a journal keeps, and what its entries are.
use Rattle.std.specs.Prelude.{ℕ, ◌+◌, List, ◌++◌, Option, None, Some, IsTrue}
use Rattle.std.specs.List.{AllByRecursion}
use Rattle.rule_machine.specs.declared.base.Base.{Base}
use Rattle.rule_machine.specs.declared.rule_set.RuleSet.{RuleSet}
use Rattle.rule_machine.specs.Run.{Entry}
use Rattle.rule_machine.specs.Base.{dropped}
use Rattle.line_text.specs.EntryText.{header_line, entry_lines}
use Rattle.line_text.specs.BaseText.{base_text}
use Rattle.line_text.specs.EventText.{IsEvent}
use Rattle.line_text.specs.ReplyText.{IsReply}
use Rattle.log_entry.specs.Kinds.{fits}

-- the header, with the numbers of names and of nodes at the start; or the base, for this many names
abbrev pub retained_opening : RuleSet → ℕ → ℕ → ℕ → Option Base → List ℕ
retained_opening rules names count size None = header_line rules names count
retained_opening rules names count size (Some base) = base_text rules size base

-- the opening and the entries after it, numbered on
abbrev pub kept_text : RuleSet → ℕ → ℕ → ℕ → Option Base → List Entry → List ℕ
kept_text rules names count size base entries = retained_opening rules names count size base ++ entry_lines (dropped base + 1) entries

-- an entry with names, numbers and lists as the program's values have them, and a reply of the event's kind
pub record IsWritableEntry (entry : Entry) : Type 0 where
  pub event : IsEvent entry.0
  pub reply : IsReply entry.1
  pub fits : IsTrue (fits entry.0 entry.1)

-- all entries are such
abbrev pub AreWritable : List Entry → Type 0
AreWritable entries = AllByRecursion IsWritableEntry entries
