-- Which lines of a transcript are headers, and which are entries. Lines come without their LF.
use Rattle.std.specs.Prelude.{◌≡◌, ℕ, ◌≤◌, Bool, true, false, List, ◌++◌, IfSome, IsTrue, codes}
use Rattle.rule_machine.specs.declared.event.Event.{Event}
use Rattle.rule_machine.specs.declared.event.Event.TheVariants.{Step, Enabled, Matching}
use Rattle.rule_machine.specs.declared.reply.Reply.{Reply}
use Rattle.log_entry.specs.Kinds.{fits}
pub use Rattle.log_entry.specs.Kinds.{max_entries}
pub use Rattle.line_text.specs.ReplyText.{IsMoved, IsEnabled, IsOrderedPair, IsReply}
use Rattle.line_text.specs.Words.{IsName}
use Rattle.line_text.specs.ReplyText.{IsCountValue}
use Rattle.line_text.specs.EventText.{IsEvent, event_text}
use Rattle.line_text.specs.BaseText.{base_head, base_counts, node_record_text, link_text}
use Rattle.entry_grammar.specs.declared.base_line.BaseLine.{BaseLine}
use Rattle.entry_grammar.specs.declared.base_line.BaseNumbers.{BaseNumbers}
use Rattle.entry_grammar.specs.declared.header.Header.{Header}
use Rattle.entry_grammar.specs.declared.base_line.BaseLine.TheVariants.{Head, Base, Place, Link}
use Rattle.line_text.specs.EntryText.{header_text, entry_text}

-- The line is the one spelling of the entry with this number: an event, and a reply of its kind.
-- `entry_lines_are_short` bounds its length.
pub record SpellsEntry (line : List ℕ) (number : ℕ) (entry : Event × Reply) : Type 0 where
  pub numbered : (1 ≤ number) × (number ≤ max_entries)
  pub event : IsEvent entry.0
  pub reply : IsReply entry.1
  pub fits : IsTrue (fits entry.0 entry.1)
  pub is : line ≡ entry_text number entry.0 entry.1

-- the events that have a list, or whose reply may have one
abbrev pub has_list : Event → Bool
has_list (Step items) = true
has_list Enabled = true
has_list Matching = true
has_list event = false

-- between some number and some reply the line has an event with a list
pub record AsksForList (line : List ℕ) : Type 0 where
  pub number : List ℕ
  pub asked : Event
  pub reply : List ℕ
  pub fits : IsEvent asked
  pub listed : IsTrue (has_list asked)
  pub is : line ≡ number ++ codes " " ++ event_text asked ++ codes " = " ++ reply

-- the number of names, and how many of them are present at the start: the first `count`
pub record AreSizes (size count : ℕ) : Type 0 where
  pub few : size ≤ 65535
  pub within : count ≤ size

-- the line is the one spelling of this header; the names present at the start are the first ones
pub record SpellsHeader (line : List ℕ) (header : Header) : Type 0 where
  pub few : header.names ≤ 65535
  pub within : header.present ≤ header.names
  pub is : line ≡ header_text header.rules header.names header.present

-- what the numbers of a base satisfy
abbrev pub AreCounts : BaseNumbers → Type 0
AreCounts q = IsCountValue q.number × IsCountValue q.spent × IsCountValue q.nodes × IsCountValue q.edges

-- the line of the numbers
abbrev pub numbers_text : BaseNumbers → List ℕ
numbers_text q = base_counts q.number q.spent q.nodes q.edges

-- what each value of the program's type of a base's lines satisfies
abbrev pub IsBaseLine : BaseLine → Type 0
IsBaseLine (Head rules size) = size ≤ 65535
IsBaseLine (Base q) = AreCounts q
IsBaseLine (Place node target flagged) = IsName node × IfSome target IsName
IsBaseLine (Link edge) = IsOrderedPair edge

abbrev pub base_line_text : BaseLine → List ℕ
base_line_text (Head rules size) = base_head rules size
base_line_text (Base q) = numbers_text q
base_line_text (Place node target flagged) = node_record_text (record { node = node; target = target; flagged = flagged })
base_line_text (Link edge) = link_text edge

-- the line is the one spelling of this line of a base
pub record SpellsBaseLine (line : List ℕ) (found : BaseLine) : Type 0 where
  pub fits : IsBaseLine found
  pub is : line ≡ base_line_text found
