-- The texts of runs are accepted.
use Rattle.std.proofs.Common.{◌≡◌, ℕ, ◌+◌, ◌≤◌, List, [], ◌++◌, length, refl, sym, ap, ◌∙◌, append-nil, arith}
use Rattle.rule_machine.specs.declared.rule_set.RuleSet.{RuleSet}
use Rattle.rule_machine.specs.Base.{LogPart, NumberedMoment, base_of, entries_in}
use Rattle.rule_machine.specs.Run.{beginning_with}
use Rattle.rule_machine.specs.Tables.{table_of}
use Rattle.machine_laws.proofs.Bases.{passes_run}
use Rattle.line_text.specs.BaseText.{base_text}
use Rattle.line_text.specs.EntryText.{header_line}
use Rattle.entry_grammar.specs.Spelling.{max_entries}
use Rattle.script_text.specs.Script.{Progress}
use Rattle.run_session.specs.RunStart.{first_progress}
use Rattle.auditor.specs.declared.transcript_end.TranscriptEnd.{TranscriptEnd}
use Rattle.auditor.specs.declared.summary.Summary.{Summary}
use Rattle.auditor.specs.AcceptedRuns.{IsAccepted}
use Rattle.auditor.specs.Parts.{Based, Named, Opening, size_of}
use Rattle.auditor.specs.Transcript.{IsTranscript}
use Rattle.auditor.specs.TranscriptEnds.{IsTranscriptEnd, end_moment}
use Rattle.auditor.proofs.TextEnds.{counted_transcript, summary_of}
use Rattle.audit_parts.proofs.CutTranscripts.{reopens_end}
use Rattle.transcript_laws.specs.Written.{IsWrittenBehind, LinesReachEnd, moment_of, start_behind}
use Rattle.transcript_laws.proofs.Growth.{base_added, size_same}
use Rattle.transcript_laws.proofs.AcceptedLines.{from_start, reached, to_start}

-- all of a run's entries, but for those that its opening has dropped
pub counted : (bytes : List ℕ) (rules : RuleSet) (o : Opening) (log : List LogPart) (end : NumberedMoment) (is : IsTranscript bytes rules o log end) → end.count ≡ is.start.count + length (entries_in log)
counted bytes rules o log end is = (passes_run (table_of rules) is.start end log is.passes).1

-- ---- a run from the beginning

pub first_written : (rules : RuleSet) (nodes present : ℕ) → nodes ≤ 65535 → present ≤ nodes → IsWrittenBehind [] (Named nodes present) (first_progress rules nodes present)
first_written rules nodes present few within = (
  [],
  record {
    start = record { moment = beginning_with nodes present; count = 0 };
    opens = record { fits = record { few = few; within = within }; begins = refl; count = refl };
    text = sym (append-nil (header_line rules nodes present));
    parts = tt;
    not_too_many = omega arith;
    passes = refl;
  },
)

pub runs_accepted : (rules : RuleSet) (nodes present limit : ℕ) (lines : List (List ℕ)) (end : Progress) → nodes ≤ 65535 → present ≤ nodes → limit ≤ max_entries → LinesReachEnd (table_of rules) limit lines (first_progress rules nodes present) end → (c : Summary) × IsAccepted end.text c × (c.entries ≡ end.count)
runs_accepted rules nodes present limit lines end few within most reach =
    let start = first_progress rules nodes present in
    let o = Named nodes present in
    let ends = to_start [] o end (reached [] [] o rules limit most lines start end refl (from_start [] o start (first_written rules nodes present few within)) reach).1 in
    let is = ends.1 in
    (summary_of (entries_in ends.0), counted_transcript end.text end.rules o ends.0 (moment_of end) is, omega (arith, counted end.text end.rules o ends.0 (moment_of end) is, is.opens.count))

-- ---- a run that goes on

module _ (first : List ℕ) (from : TranscriptEnd) (is : IsTranscriptEnd first from) where
  at_end : IsTranscript first from.rules is.opening is.log (end_moment from)
  at_end = is.transcript

  -- behind the first text
  pub joined_start : IsWrittenBehind first is.opening (start_behind from)
  joined_start = (_, base_added first from.rules is.opening is.log (end_moment from) at_end)

  -- alone
  abbrev pub own_base : Opening
  own_base = Based (size_of is.opening) (base_of from.number (end_moment from).moment)

  pub own_start : IsWrittenBehind [] own_base (start_behind from)
  own_start = (
    [],
    record {
      start = end_moment from;
      opens = reopens_end first from.rules is.opening is.log (end_moment from) at_end;
      text = ap (λ (n : ℕ). base_text from.rules n (base_of from.number (end_moment from).moment)) (size_same first from.rules is.opening is.log (end_moment from) at_end) ∙ sym (append-nil _);
      parts = tt;
      not_too_many = at_end.not_too_many;
      passes = refl;
    },
  )

  pub alone_accepted : (limit : ℕ) (lines : List (List ℕ)) (end : Progress) → limit ≤ max_entries → LinesReachEnd (table_of from.rules) limit lines (start_behind from) end → (c : Summary) × IsAccepted end.text c × (c.entries + from.number ≡ end.count)
  alone_accepted limit lines end most reach =
      let ends = to_start [] own_base end (reached [] [] own_base from.rules limit most lines (start_behind from) end refl (from_start [] own_base (start_behind from) own_start) reach).1 in
      let run = ends.1 in
      (summary_of (entries_in ends.0), counted_transcript end.text end.rules own_base ends.0 (moment_of end) run, omega (arith, counted end.text end.rules own_base ends.0 (moment_of end) run, run.opens.count))

  -- the opening says how many entries were before
  pub joined_accepted : (limit : ℕ) (lines : List (List ℕ)) (end : Progress) → limit ≤ max_entries → LinesReachEnd (table_of from.rules) limit lines (start_behind from) end → (c : Summary) × IsAccepted (first ++ end.text) c × (c.entries + from.number ≡ from.summary.entries + end.count)
  joined_accepted limit lines end most reach =
      let o = is.opening in
      let ends = to_start first o end (reached [] first o from.rules limit most lines (start_behind from) end refl (from_start first o (start_behind from) joined_start) reach).1 in
      let run = ends.1 in
      let all = counted (first ++ end.text) end.rules o ends.0 (moment_of end) run in
      let own = counted first from.rules o is.log (end_moment from) at_end in
      (summary_of (entries_in ends.0), counted_transcript (first ++ end.text) end.rules o ends.0 (moment_of end) run, omega (arith, all, run.opens.count, own, at_end.opens.count, is.counts.entries))
