-- What is written when a run ends is accepted.
use Rattle.std.proofs.Common.{ℕ, ◌≤◌, inl, inr, List, take, Result, Ok, Err}
use Rattle.rule_machine.specs.declared.rule_set.RuleSet.{RuleSet}
use Rattle.rule_machine.specs.RuleTable.{RuleTable}
use Rattle.rule_machine.specs.Tables.{table_of}
use Rattle.script_text.specs.Script.{Progress}
use Rattle.run_session.specs.RunStart.{first_progress}
use Rattle.script_run.specs.declared.fault.RunFault.{RunFault}
use Rattle.script_run.specs.declared.fault.RunFault.TheVariants.{BadLine, LogFull, Read, Write, Memory, Pool}
use Rattle.script_run.specs.Outcome as outcome
use Rattle.auditor.specs.declared.transcript_end.TranscriptEnd.{TranscriptEnd}
use Rattle.auditor.specs.TranscriptEnds.{IsTranscriptEnd}
use Rattle.entry_grammar.specs.Spelling.{max_entries}
use Rattle.transcript_laws.specs.Written.{LinesReachEnd, start_behind}
use Rattle.transcript_laws.proofs.AcceptedLaws.{alone_accepted, joined_accepted, runs_accepted}
use Rattle.command_line.specs.RunTexts.{EndsAccepted, IsAcceptedBehind, IsAcceptedRun}

module _ (t : RuleTable) (limit : ℕ) (lines : List (List ℕ)) (start : Progress) (Accepted : Progress → Type 0) (accepts : (some : List (List ℕ)) (end : Progress) → LinesReachEnd t limit some start end → Accepted end) (P Q : List ℕ → Type 0) where
  full : (end : Progress) → outcome.StopsAtFullLog t limit lines start end → Accepted end
  full end (number, line, before, stops, meets) = accepts stops.before end (inr (line, before, stops.does, meets))

  stopped : (end : Progress) → outcome.LinesReach t limit lines start end → Accepted end
  stopped end (inl (n, does)) = accepts (take n lines) end (inl does)
  stopped end (inr stops) = full end stops

  pub ends_accepted : (result : Result Unit RunFault) → outcome.EndsScript t limit lines start result P Q → EndsAccepted t limit lines start Accepted result P Q
  ends_accepted (Ok done) (end, does, p) = (end, does, accepts lines end (inl does), p)
  ends_accepted (Err (BadLine number)) (end, (line, stops, bad), p) = (end, (line, stops, bad), accepts stops.before end (inl stops.does), p)
  ends_accepted (Err LogFull) (end, stops, p) = (end, stops, full end stops, p)
  ends_accepted (Err Read) (end, (n, does), p) = (end, (n, does), accepts (take n lines) end (inl does), p)
  ends_accepted (Err Write) (end, reach, q) = (end, reach, stopped end reach, q)
  ends_accepted (Err Memory) (end, reach, q) = (end, reach, stopped end reach, q)
  ends_accepted (Err (Pool why)) none = absurd none

pub run_accepted : (rules : RuleSet) (nodes present limit : ℕ) (lines : List (List ℕ)) (result : Result Unit RunFault) (P Q : List ℕ → Type 0) → nodes ≤ 65535 → present ≤ nodes → limit ≤ max_entries → outcome.EndsScript (table_of rules) limit lines (first_progress rules nodes present) result P Q → EndsAccepted (table_of rules) limit lines (first_progress rules nodes present) IsAcceptedRun result P Q
run_accepted rules nodes present limit lines result P Q few within most ends =
    ends_accepted (table_of rules) limit lines (first_progress rules nodes present) IsAcceptedRun
    (λ some end reach. runs_accepted rules nodes present limit some end few within most reach)
    P Q result ends

pub resumed_accepted : (first : List ℕ) (from : TranscriptEnd) (limit : ℕ) (lines : List (List ℕ)) (result : Result Unit RunFault) (P Q : List ℕ → Type 0) → IsTranscriptEnd first from → limit ≤ max_entries → outcome.EndsScript (table_of from.rules) limit lines (start_behind from) result P Q → EndsAccepted (table_of from.rules) limit lines (start_behind from) (IsAcceptedBehind first from) result P Q
resumed_accepted first from limit lines result P Q is most ends =
    ends_accepted (table_of from.rules) limit lines (start_behind from) (IsAcceptedBehind first from)
    (λ some end reach. (alone_accepted first from is limit some end most reach, joined_accepted first from is limit some end most reach))
    P Q result ends
