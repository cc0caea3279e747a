-- Where the run of a transcript ends, and that a run may go on from there.
use Rattle.std.specs.Prelude.{◌≡◌, ◌⊎◌, ◌+◌, ◌≤◌, ℕ, false, List, Result, Ok, Err}
use Rattle.rule_machine.specs.Base.{LogPart, NumberedMoment, entries_in}
use Rattle.rule_machine.specs.State.{flag}
use Rattle.rule_machine.specs.Tables.{table_of, weight_of}
use Rattle.machine_laws.specs.ChargeWords.{charge_bound}
use Rattle.auditor.specs.declared.transcript_end.TranscriptEnd.{TranscriptEnd}
use Rattle.auditor.specs.declared.fault.AuditFault.{AuditFault}
use Rattle.auditor.specs.declared.fault.AuditFault.TheVariants.{Read}
use Rattle.auditor.specs.declared.summary.Summary.{Summary}
use Rattle.auditor.specs.AcceptedRuns.{Counts}
use Rattle.auditor.specs.Parts.{Opening, size_of}
use Rattle.auditor.specs.Transcript.{IsTranscript}
use Rattle.auditor.specs.Verdict.{IsJudged}

-- the moment at the end, and how many entries led to it
abbrev pub end_moment : TranscriptEnd → NumberedMoment
end_moment end = record { moment = record { state = end.net.state; spent = end.spent }; count = end.number }

-- the bytes are the transcript of a run with this end and these counts
pub record IsTranscriptEnd (bytes : List ℕ) (end : TranscriptEnd) : Type 0 where
  pub opening : Opening
  pub log : List LogPart
  pub transcript : IsTranscript bytes end.rules opening log (end_moment end)
  pub size_is : size_of opening ≡ end.net.state.network.size
  pub counts : Counts end.summary (entries_in log)

-- A run may go on from the end: the moves spent and the charge are within the bound of the network, and no
-- flag is true if the rules use none.
pub record MayGoOn (end : TranscriptEnd) : Type 0 where
  pub within : end.spent + (table_of end.rules).charge end.net.state ≤ charge_bound (weight_of end.rules) end.net.state.network
  pub unflagged : (table_of end.rules).flags ≡ false → (v : ℕ) → flag end.net.state v ≡ false
  pub few : end.number ≤ 16777216

-- the counts of a transcript, or its fault
abbrev pub summary_in : Result TranscriptEnd AuditFault → Result Summary AuditFault
summary_in (Ok end) = Ok end.summary
summary_in (Err fault) = Err fault

-- what was judged: a run's transcript with this end, or a text with this damage; nothing is said if memory
-- ran out
abbrev pub EndsRun : List ℕ → Result TranscriptEnd AuditFault → Type 0
EndsRun bytes (Ok end) = IsTranscriptEnd bytes end
EndsRun bytes (Err fault) = IsJudged bytes (Err fault)

-- the bytes were judged, or reading them failed
abbrev pub IsEndResult : List ℕ → Result TranscriptEnd AuditFault → Type 0
IsEndResult bytes result = EndsRun bytes result ⊎ (result ≡ Err Read)
