-- The lines of a transcript, and those of a log.
use Rattle.std.specs.Prelude.{ℕ, List, [], ◌∷◌, ◌++◌, nat_lt, if◌then◌else◌, codes, ◌+◌}
use Rattle.rule_machine.specs.declared.event.Event.{Event}
use Rattle.rule_machine.specs.declared.reply.Reply.{Reply}
use Rattle.rule_machine.specs.declared.rule_set.RuleSet.{RuleSet}
use Rattle.rule_machine.specs.Tables.{rules_word}
use Rattle.line_text.specs.Words.{number_text}
use Rattle.line_text.specs.EventText.{event_text}
use Rattle.line_text.specs.ReplyText.{reply_text}
use Rattle.rule_machine.specs.Run.{Entry}

-- the number of names and, if not all are present at the start, how many are
abbrev pub sizes_text : ℕ → ℕ → List ℕ
sizes_text size count = if nat_lt count size then number_text size ++ codes " " ++ number_text count else number_text size

-- the rule set, the number of names, and how many of them are present at the start
abbrev pub header_text : RuleSet → ℕ → ℕ → List ℕ
header_text rules size count = codes "matching " ++ rules_word rules ++ codes " " ++ sizes_text size count

-- the header and its LF
abbrev pub header_line : RuleSet → ℕ → ℕ → List ℕ
header_line rules size count = header_text rules size count ++ 10 ∷ []

-- the entry with this number: the line of its event, and the reply
abbrev pub numbered_text : ℕ → List ℕ → Reply → List ℕ
numbered_text number line reply = number_text number ++ codes " " ++ line ++ codes " = " ++ reply_text reply

-- the entry with this number: the script line of the event, and the reply
abbrev pub entry_text : ℕ → Event → Reply → List ℕ
entry_text number event reply = numbered_text number (event_text event) reply

-- the entry and its LF
abbrev pub entry_line : ℕ → Event → Reply → List ℕ
entry_line number event reply = entry_text number event reply ++ 10 ∷ []

-- the lines of entries that are numbered from this number on
abbrev pub entry_lines : ℕ → List Entry → List ℕ
entry_lines number [] = []
entry_lines number (entry ∷ log) = entry_line number entry.0 entry.1 ++ entry_lines (number + 1) log

-- the header, and the entries numbered from 1
abbrev pub transcript : RuleSet → ℕ → ℕ → List Entry → List ℕ
transcript rules size count log = header_line rules size count ++ entry_lines 1 log
