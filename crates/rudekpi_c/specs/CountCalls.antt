-- The counts of a network, for C.
use Rattle.std.specs.Prelude.{◌≡◌, ◌≢◌, ℕ, Option, None, Some, IfSome}
use Rattle.rule_machine.specs.declared.counts.Counts.{Counts}
use Rattle.rule_machine.specs.declared.reply.Reply.{Reply}
use Rattle.rule_machine.specs.declared.reply.Reply.TheVariants as reply_is
use Rattle.rule_machine.specs.Answer.{counts_of}
use Rattle.rule_machine.specs.Tables.{table_of}
use Rattle.rudekpi_c.specs.Session.{stands, rules_of}
use Rattle.rudekpi_c.specs.declared.calls.StatusCounts.{StatusCounts}
use Rattle.rudekpi_c.specs.declared.session.Session.{Session}

abbrev pub status_counts : Counts → StatusCounts
status_counts c = record { nodes = c.nodes; edges = c.edges; pairs = c.pairs; enabled = c.enabled; charge = c.charge; spent = c.spent }

abbrev pub uncounted : StatusCounts
uncounted = record { nodes = 0; edges = 0; pairs = 0; enabled = 0; charge = 0; spent = 0 }

abbrev pub counted_in : Reply → StatusCounts
counted_in (reply_is.Counts c) = status_counts c
counted_in other = uncounted

-- the counts in the last answer
abbrev pub counted_kept : Option Session → StatusCounts
counted_kept None = uncounted
counted_kept (Some s) = counted_in s.answer.reply

-- the machine's counts of the session's state
abbrev pub counts_at : Session → Counts
counts_at s = counts_of (table_of (rules_of s)) (stands s).moment.state (stands s).moment.spent

-- 0: the counts of the session's state, which a query does not change; else all counts are 0
pub record AnswersCounts (status : ℕ) (counts : StatusCounts) (old : Option Session) : Type 0 where
  pub done : status ≡ 0 → IfSome old (λ s. counts ≡ status_counts (counts_at s))
  pub undone : status ≢ 0 → counts ≡ uncounted
