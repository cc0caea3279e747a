-- What a run or a session has written so far, as a transcript; and the text of a kept log.
use Rattle.std.specs.Prelude.{◌≡◌, ℕ, ◌+◌, ◌⊎◌, List, [], ◌++◌, Option, None, Some}
use Rattle.rule_machine.specs.declared.base.Base.{Base}
use Rattle.rule_machine.specs.declared.rule_set.RuleSet.{RuleSet}
use Rattle.rule_machine.specs.RuleTable.{RuleTable}
use Rattle.rule_machine.specs.Base.{LogPart, NumberedMoment, dropped}
use Rattle.line_text.specs.EntryText.{entry_lines}
use Rattle.step_log.specs.RetainedLogs.{RetainedLog}
use Rattle.script_text.specs.Script.{Progress, LinesDo, MeetsFullLog, with_checkpoint}
use Rattle.auditor.specs.declared.transcript_end.TranscriptEnd.{TranscriptEnd}
use Rattle.auditor.specs.Parts.{Based, Named, Opening, base_in, opening_text}
use Rattle.auditor.specs.Transcript.{IsTranscript}

-- the moment that a run has reached, and the number of its entries
abbrev pub moment_of : Progress → NumberedMoment
moment_of p = record { moment = p.moment; count = p.count }

-- The first text and that of the progress behind it are the transcript of a run with this opening, which has
-- come as far as the progress says.
abbrev pub IsWrittenBehind : List ℕ → Opening → Progress → Type 0
IsWrittenBehind first opening p = (log : List LogPart) × IsTranscript (first ++ p.text) p.rules opening log (moment_of p)

-- The same of the text after its beginning `ended`, which belongs to earlier transcripts.
abbrev pub IsWrittenAfter : List ℕ → List ℕ → Opening → Progress → Type 0
IsWrittenAfter ended first opening p = (own : List ℕ) × (p.text ≡ ended ++ own) × IsWrittenBehind first opening (record p { text = own })

-- how many entries come before an opening: those that its base has dropped
abbrev pub entries_before : Opening → ℕ
entries_before opening = dropped (base_in opening)

-- the progress after its text was taken
abbrev pub without_text : Progress → Progress
without_text p = record p { text = [] }

-- the lines lead to the end; or some lines lead to a line that meets a full log, and the run ends there
abbrev pub LinesReachEnd : RuleTable → ℕ → List (List ℕ) → Progress → Progress → Type 0
LinesReachEnd t limit lines start end =
    LinesDo t limit lines start end
    ⊎ ((line : List ℕ) × (before : Progress) × LinesDo t limit lines start before × MeetsFullLog t limit line before end)

-- the end of a transcript as the start of a run, whose text begins with the base there
abbrev pub start_behind : TranscriptEnd → Progress
start_behind end = with_checkpoint (record {
  rules = end.rules;
  moment = record { state = end.net.state; spent = end.spent };
  count = end.number;
  text = [];
  counting = None;
})

-- the opening of a log's text: a header, or a base, for this many names
abbrev pub opening_of : ℕ → ℕ → Option Base → Opening
opening_of size present None = Named size present
opening_of size present (Some base) = Based size base

-- the text of the log that a journal keeps: its opening, and the entries after it, numbered on
abbrev pub log_text : RuleSet → RetainedLog → List ℕ
log_text rules kept =
    opening_text rules (opening_of kept.state.network.size kept.present kept.base) ++ entry_lines (dropped kept.base + 1) kept.entries
