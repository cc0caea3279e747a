-- The text of a session is a transcript, call by call.
use Rattle.std.proofs.Common.{◌≡◌, ℕ, ◌+◌, ◌≤◌, List, [], ◌++◌, Result, refl, sym, subst, append-nil, arith}
use Rattle.rule_machine.specs.Base.{entries_in}
use Rattle.rule_machine.specs.Tables.{table_of}
use Rattle.entry_grammar.specs.Spelling.{max_entries}
use Rattle.step_log.specs.declared.fault.RecordFault.{RecordFault}
use Rattle.script_text.specs.declared.command.Command.{Command}
use Rattle.script_text.specs.Command.{IsCommand}
use Rattle.script_text.specs.Script.{Progress}
use Rattle.run_session.specs.declared.line_error.LineError.{LineError}
use Rattle.run_session.specs.Line.{CommandEnds, LineEnds}
use Rattle.auditor.specs.declared.summary.Summary.{Summary}
use Rattle.auditor.specs.AcceptedRuns.{IsAccepted}
use Rattle.auditor.specs.Parts.{Opening}
use Rattle.auditor.specs.Transcript.{IsTranscript}
use Rattle.auditor.proofs.TextEnds.{counted_transcript, summary_of}
use Rattle.transcript_laws.specs.Written.{IsWrittenBehind, entries_before, moment_of, without_text}
use Rattle.transcript_laws.proofs.AcceptedLaws.{counted}
use Rattle.transcript_laws.proofs.AcceptedLines.{command_ended, from_start, line_ended, to_start}

pub line_stays : (first : List ℕ) (o : Opening) (limit number : ℕ) (line : List ℕ) (before after : Progress) (result : Result Unit LineError) → limit ≤ max_entries → IsWrittenBehind first o before → LineEnds (table_of before.rules) limit number line before after result → IsWrittenBehind first o after
line_stays first o limit number line before after result few written ends =
    to_start first o after (line_ended [] first o before.rules limit few number line before after result ends (refl, from_start first o before written)).1

pub command_stays : (first : List ℕ) (o : Opening) (limit : ℕ) (c : Command) (before after : Progress) (result : Result Unit RecordFault) → limit ≤ max_entries → IsCommand c → IsWrittenBehind first o before → CommandEnds (table_of before.rules) limit c before after result → IsWrittenBehind first o after
command_stays first o limit c before after result few fits written ends =
    to_start first o after (command_ended [] first o before.rules limit few c before after result fits ends (refl, from_start first o before written)).1

pub text_taken : (first : List ℕ) (o : Opening) (p : Progress) → IsWrittenBehind first o p → IsWrittenBehind (first ++ p.text) o (without_text p)
text_taken first o p (log, is) =
    (log, subst (λ (l : List ℕ). IsTranscript l p.rules o log (moment_of p)) (sym (append-nil (first ++ p.text))) is)

pub text_accepted : (first : List ℕ) (o : Opening) (p : Progress) → IsWrittenBehind first o p → (c : Summary) × IsAccepted (first ++ p.text) c × (c.entries + entries_before o ≡ p.count)
text_accepted first o p (log, is) =
    (summary_of (entries_in log), counted_transcript (first ++ p.text) p.rules o log (moment_of p) is, omega (arith, counted (first ++ p.text) p.rules o log (moment_of p) is, is.opens.count))
