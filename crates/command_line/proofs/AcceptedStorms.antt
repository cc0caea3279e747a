-- What a storm writes is accepted.
use Rattle.std.proofs.Common.{◌≡◌, ◌∙◌, ◌≤◌, ◌+◌, ℕ, inl, inr, List, [], ◌∷◌, ◌++◌, Option, None, Some, Result, Ok, Err, refl, ap, subst, sym}
use Rattle.std.specs.Io.KnownBytes.{Appends}
use Rattle.std.specs.List.{AllByRecursion}
use Rattle.byte_streams.specs.PartialOutput.{AppendsBeginning}
use Rattle.rule_machine.specs.declared.base.Base.{Base}
use Rattle.rule_machine.specs.declared.rule_set.RuleSet.{RuleSet}
use Rattle.rule_machine.specs.Tables.{table_of, weight_of}
use Rattle.rule_machine.specs.Base.{base_of, dropped}
use Rattle.rule_machine.specs.Run.{Entry}
use Rattle.rule_machine.specs.State.{State}
use Rattle.line_text.specs.BaseText.{base_text}
use Rattle.line_text.specs.EntryText.{entry_lines}
use Rattle.step_log.specs.RetainedLogs.{RetainedLog}
use Rattle.locked_net.specs.declared.fault.CallFault.{CallFault}
use Rattle.script_run.specs.Restarts.{RestartView, options_at}
use Rattle.script_run.specs.RunOptions.{OptionsView}
use Rattle.step_log.proofs.ReplyKinds.{nodes_few}
use Rattle.auditor.specs.AcceptedRuns.{IsAccepted}
use Rattle.auditor.specs.Parts.{opening_text}
use Rattle.auditor.specs.Transcript.{IsEntryValue}
use Rattle.auditor.specs.TranscriptEnds.{IsTranscriptEnd, end_moment}
use Rattle.auditor.specs.declared.transcript_end.TranscriptEnd.{TranscriptEnd}
use Rattle.audit_parts.specs.Continuations.{ContinuesRun}
use Rattle.audit_parts.specs.Seams.{counted_both}
use Rattle.audit_parts.proofs.ContinuedRuns.{continued_is_accepted}
use Rattle.script_text.specs.declared.script.ScriptLine.{ScriptLine}
use Rattle.storm_runner.specs.declared.fault.StormFault.{StormFault}
use Rattle.storm_runner.specs.declared.fault.StormFault.TheVariants.{TooManyScripts, BadLine, LogFull, Read, Write, Memory, Behind, Thread, Unsettled}
use Rattle.storm_runner.specs.Outcome.{EndsAllScripts, IsResumedStorm, Leaves, LeavesText, StormStart, resumed_start, text_of}
use Rattle.storm_runner.specs.RetainedText.{AreWritable, retained_opening}
use Rattle.transcript_laws.specs.Written.{log_text, opening_of}
use Rattle.transcript_laws.proofs.KeptLogs.{kept_accepted}
use Rattle.command_line.specs.StormTexts.{IsAcceptedLog, IsAcceptedLogBehind, LeavesAccepted, WritesAccepted}

values_of : (log : List Entry) → AreWritable log → AllByRecursion IsEntryValue log
values_of [] all = tt
values_of (entry ∷ log) all = (record { event = all.0.event; reply = all.0.reply; fits = all.0.fits }, values_of log all.1)

opening_is : (rules : RuleSet) (size present : ℕ) (base : Option Base) → opening_text rules (opening_of size present base) ≡ retained_opening rules size present size base
opening_is rules size present None = refl
opening_is rules size present (Some base) = refl

-- the log's text is that of its own names and nodes
text_is : (asked : OptionsView) (kept : RetainedLog) → kept.state.network.size ≡ asked.nodes → kept.present ≡ asked.present → log_text asked.rules kept ≡ text_of asked kept
text_is asked kept nodes present =
    ap (λ (l : List ℕ). l ++ entry_lines (dropped kept.base + 1) kept.entries)
    (opening_is asked.rules kept.state.network.size kept.present kept.base
    ∙ ap (λ (n : ℕ). retained_opening asked.rules n kept.present kept.state.network.size kept.base) nodes
    ∙ ap (λ (n : ℕ). retained_opening asked.rules asked.nodes n kept.state.network.size kept.base) present)

module _ (Accepted : RetainedLog → Type 0) (at : StormStart) (accepts : (scripts : List (List ScriptLine)) (fault : Option CallFault) (kept : RetainedLog) → Leaves (table_of at.asked.rules) (weight_of at.asked.rules) at scripts fault kept → AreWritable kept.entries → Accepted kept) (texts : List (Option (List ℕ))) where
  accepted : (fault : Option CallFault) (P : List ℕ → Type 0) → LeavesText (table_of at.asked.rules) (weight_of at.asked.rules) at texts fault P → LeavesAccepted Accepted at texts fault P
  accepted fault P (scripts, kept, held, leaves, (values, p)) = (scripts, kept, held, leaves, accepts scripts fault kept leaves values, p)

  storm_ended : (old new : Option (List ℕ)) (result : Result Unit StormFault) → EndsAllScripts (table_of at.asked.rules) (weight_of at.asked.rules) at texts old new result → WritesAccepted Accepted at texts old new result
  storm_ended old new (Ok done) left = accepted _ (Appends old new) left
  storm_ended old new (Err LogFull) left = accepted _ (Appends old new) left
  storm_ended old new (Err Behind) (front, seen, left) = (front, seen, accepted _ (Appends old new) left)
  storm_ended old new (Err Memory) (inl left) = inl (accepted _ (Appends old new) left)
  storm_ended old new (Err Memory) (inr nothing) = inr nothing
  storm_ended old new (Err Write) (fault, left) = (fault, accepted fault (AppendsBeginning old new) left)
  storm_ended old new (Err (Unsettled why)) (other, unsettled, nothing) = nothing
  storm_ended old new (Err TooManyScripts) (many, nothing) = nothing
  storm_ended old new (Err (BadLine script line)) (bad, nothing) = nothing
  storm_ended old new (Err Read) (some, nothing) = nothing
  storm_ended old new (Err Thread) never = absurd never

log_accepted : (at : StormStart) → at.asked.present ≤ at.asked.nodes → (scripts : List (List ScriptLine)) (fault : Option CallFault) (kept : RetainedLog)
    → Leaves (table_of at.asked.rules) (weight_of at.asked.rules) at scripts fault kept → AreWritable kept.entries → IsAcceptedLog at.asked kept
log_accepted at within scripts fault kept leaves values =
    let fits = subst (λ (n : ℕ). n ≤ kept.state.network.size) (sym leaves.present_is) (subst (λ (n : ℕ). at.asked.present ≤ n) (sym leaves.nodes_are) within) in
    let is = kept_accepted at.asked.rules kept leaves.run fits (values_of kept.entries values) in
    (is.0, subst (λ (l : List ℕ). IsAccepted l is.0) (text_is at.asked kept leaves.nodes_are leaves.present_is) is.1, is.2)

pub storm_accepted : (at : StormStart) (texts : List (Option (List ℕ))) → at.asked.present ≤ at.asked.nodes → (old new : Option (List ℕ)) (result : Result Unit StormFault) → EndsAllScripts (table_of at.asked.rules) (weight_of at.asked.rules) at texts old new result
    → WritesAccepted (IsAcceptedLog at.asked) at texts old new result
storm_accepted at texts within old new result ends = storm_ended (IsAcceptedLog at.asked) at (log_accepted at within) texts old new result ends

-- a storm that goes on begins with no more nodes than names
pub resumed_storm_accepted : (from : RestartView) (texts : List (Option (List ℕ))) (old new : Option (List ℕ)) (result : Result Unit StormFault) → IsResumedStorm from texts old new result → WritesAccepted (IsAcceptedLog (options_at from)) (resumed_start from) texts old new result
resumed_storm_accepted from texts old new result ends = storm_accepted (resumed_start from) texts (nodes_few from.state.network) old new result ends

-- ---- behind the text that it continues

module _ (first : List ℕ) (end : TranscriptEnd) (from : RestartView) (is : IsTranscriptEnd first end) (rules : from.rules ≡ end.rules) (state : from.state ≡ end.net.state) where
  abbrev asked : OptionsView
  asked = options_at from

  abbrev base : Base
  base = base_of end.number (end_moment end).moment

  continues : (kept : RetainedLog) → kept.state.network.size ≡ from.state.network.size → kept.base ≡ Some base → ContinuesRun first (text_of asked kept)
  continues kept size begins =
      let own = kept.state.network.size in
      let lines = entry_lines (dropped kept.base + 1) kept.entries in
      let opening : retained_opening asked.rules asked.nodes asked.present own kept.base ≡ base_text end.rules end.net.state.network.size base =
      ap (λ (b : Option Base). retained_opening asked.rules asked.nodes asked.present own b) begins
      ∙ ap (λ (r : RuleSet). base_text r own base) rules
      ∙ ap (λ (n : ℕ). base_text end.rules n base) (size ∙ ap (λ (s : State). s.network.size) state) in
      record {
        rules = end.rules;
        opening = is.opening;
        log = is.log;
        end = end_moment end;
        transcript = is.transcript;
        behind = lines;
        begins = ap (λ (l : List ℕ). l ++ lines) opening;
      }

  first_accepted : IsAccepted first end.summary
  first_accepted = record {
    rules = end.rules;
    opening = is.opening;
    log = is.log;
    end = end_moment end;
    transcript = is.transcript;
    counts = is.counts;
  }

  log_behind : (scripts : List (List ScriptLine)) (fault : Option CallFault) (kept : RetainedLog)
      → Leaves (table_of from.rules) (weight_of from.rules) (resumed_start from) scripts fault kept → AreWritable kept.entries → IsAcceptedLogBehind first end asked kept
  log_behind scripts fault kept leaves values =
      let own = log_accepted (resumed_start from) (nodes_few from.state.network) scripts fault kept leaves values in
      (own, λ begins. (counted_both end.summary own.0, continued_is_accepted first (text_of asked kept) end.summary own.0 (continues kept leaves.nodes_are begins) first_accepted own.1, ap (λ (n : ℕ). end.summary.entries + n) own.2))

  pub resumed_storm_behind : (texts : List (Option (List ℕ))) (old new : Option (List ℕ)) (result : Result Unit StormFault) → IsResumedStorm from texts old new result → WritesAccepted (IsAcceptedLogBehind first end asked) (resumed_start from) texts old new result
  resumed_storm_behind texts old new result ends = storm_ended (IsAcceptedLogBehind first end asked) (resumed_start from) log_behind texts old new result ends
