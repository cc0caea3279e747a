-- The state of a session, and what is done to it.
use Rattle.std.specs.Prelude.{◌≡◌, ℕ, Bool, true, false, List, [], Result}
use Rattle.rule_machine.specs.declared.reply.Reply.TheVariants.{Accepted}
use Rattle.rule_machine.specs.declared.rule_set.RuleSet.{RuleSet}
use Rattle.rule_machine.specs.declared.rule_set.RuleSet.TheVariants as rules
use Rattle.rule_machine.specs.Tables.{table_of}
use Rattle.script_text.specs.declared.command.Command.{Command}
use Rattle.script_text.specs.Script.{Progress}
use Rattle.run_session.specs.Line.{progress, LineEnds, CommandEnds}
use Rattle.step_log.specs.declared.fault.RecordFault.{RecordFault}
use Rattle.run_session.specs.declared.line_error.LineError.{LineError}
use Rattle.rudekpi_c.specs.declared.session.Machine.{Machine}
use Rattle.rudekpi_c.specs.declared.session.Machine.TheVariants.{Hh, Manne}
use Rattle.rudekpi_c.specs.declared.session.Session.{Session}

abbrev pub stands_at : Machine → Progress
stands_at (Hh run) = progress run.rules run.recorder run.text.items
stands_at (Manne run) = progress run.rules run.recorder run.text.items

-- the session's progress: the network, how many entries there are, and the text that C has not taken
abbrev pub stands : Session → Progress
stands s = stands_at s.machine

abbrev pub rules_at : Machine → RuleSet
rules_at (Hh run) = rules.Hh
rules_at (Manne run) = rules.Manne

-- the session's rules
abbrev pub rules_of : Session → RuleSet
rules_of s = rules_at s.machine

abbrev pub limit_at : Machine → ℕ
limit_at (Hh run) = run.recorder.limit
limit_at (Manne run) = run.recorder.limit

-- the most entries of the session
abbrev pub limit_of : Session → ℕ
limit_of s = limit_at s.machine

-- the rules and the limit have not changed
abbrev pub HasSameRules : Machine → Machine → Type 0
HasSameRules m n = (rules_at n ≡ rules_at m) × (limit_at n ≡ limit_at m)

-- the progress with its text if a transcript is kept, else without a text
abbrev pub with_text_if : Bool → Progress → Progress
with_text_if true at = at
with_text_if false at = record at { text = [] }

-- the rules, the limit, and whether a transcript is kept have not changed
pub record GoesOn (s t : Session) : Type 0 where
  pub rules : rules_of t ≡ rules_of s
  pub limit : limit_of t ≡ limit_of s
  pub keeps : t.keeps ≡ s.keeps

-- a session with this progress that was fed no line, keeps its transcript and has no answer
pub record IsNewSession (at : Progress) (session : Session) : Type 0 where
  pub stands_is : stands session ≡ at
  pub rules_is : rules_of session ≡ at.rules
  pub limit_is : limit_of session ≡ 16777216
  pub lines_is : session.lines ≡ 0
  pub keeps_is : session.keeps ≡ true
  pub answer_is : session.answer.reply ≡ Accepted

-- how carrying out a line ends under these rules
abbrev pub LineEnded : RuleSet → ℕ → ℕ → List ℕ → Progress → Progress → Result Unit LineError → Type 0
LineEnded r = LineEnds (table_of r)

abbrev pub CommandEnded : RuleSet → ℕ → Command → Progress → Progress → Result Unit RecordFault → Type 0
CommandEnded r = CommandEnds (table_of r)
