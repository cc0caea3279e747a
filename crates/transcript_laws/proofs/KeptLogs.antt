-- The text of a kept log is a transcript.
use Rattle.std.proofs.Common.{◌≡◌, ℕ, ◌+◌, ◌≤◌, List, [], ◌∷◌, ◌++◌, length, Option, None, Some, refl, sym, ap, subst, ◌∙◌, arith}
use Rattle.std.proofs.lemmas.List.{length-map}
use Rattle.std.specs.List.{AllByRecursion}
use Rattle.std.specs.FinMap as finmap
use Rattle.rule_machine.specs.declared.base.Base.{Base}
use Rattle.rule_machine.specs.declared.rule_set.RuleSet.{RuleSet}
use Rattle.rule_machine.specs.Answer.{spent_after}
use Rattle.rule_machine.specs.Base.{BeginsAt, EntryPart, LogPart, NumberedMoment, Passes, dropped, entries_in}
use Rattle.rule_machine.specs.Network.{edge_count, node_count}
use Rattle.rule_machine.specs.RuleTable.{RuleTable}
use Rattle.rule_machine.specs.Run.{Entry, Moment, Run}
use Rattle.rule_machine.specs.Tables.{table_of, weight_of}
use Rattle.machine_laws.specs.ChargeWords.{charge_bound}
use Rattle.line_text.specs.EntryText.{entry_line, entry_lines}
use Rattle.entry_grammar.specs.BaseLines.{IsShaped}
use Rattle.entry_grammar.specs.Spelling.{max_entries}
use Rattle.step_log.specs.RetainedLogs.{IsBaseOfGraph, IsRetainedRun, RetainedLog, moment_in}
use Rattle.auditor.specs.declared.summary.Summary.{Summary}
use Rattle.auditor.specs.AcceptedRuns.{IsAccepted}
use Rattle.auditor.specs.Parts.{Opens, opening_text, parts_text, size_of}
use Rattle.auditor.specs.Transcript.{IsEntryValue, IsLogPart, IsTranscript}
use Rattle.auditor.proofs.Spent.{light}
use Rattle.auditor.proofs.TextEnds.{counted_transcript, summary_of}
use Rattle.audit_parts.proofs.Shape.{base_shaped}
use Rattle.transcript_laws.specs.Written.{log_text, opening_of}

-- ---- entries as parts

parts_of : List Entry → List LogPart
parts_of [] = []
parts_of (entry ∷ log) = EntryPart entry ∷ parts_of log

abbrev stand : Moment → ℕ → NumberedMoment
stand m count = record { moment = m; count = count }

passes_of : (t : RuleTable) (start : Moment) (log : List Entry) (end : Moment) (count : ℕ) → Run t start log end → Passes t (stand start count) (parts_of log) (stand end (count + length log))
unfolding parts_of
passes_of t start [] end count run = λ i. stand (run i) ((let same : count + 0 ≡ count = omega arith in same) i)
passes_of t start (entry ∷ log) end count (next, answers, run) =
    let after : Moment = record { state = next; spent = spent_after start.spent entry.1 } in
    let same : (count + 1) + length log ≡ count + length (entry ∷ log) = omega arith in
    (next, answers, subst (λ (n : ℕ). Passes t (stand after (count + 1)) (parts_of log) (stand end n)) same (passes_of t after log end (count + 1) run))

text_of : (rules : RuleSet) (size count : ℕ) (log : List Entry) → parts_text rules size count (parts_of log) ≡ entry_lines (count + 1) log
unfolding parts_of
text_of rules size count [] = refl
text_of rules size count (entry ∷ log) = ap (λ (l : List ℕ). entry_line (count + 1) entry.0 entry.1 ++ l) (text_of rules size (count + 1) log)

entries_of : (log : List Entry) → entries_in (parts_of log) ≡ log
unfolding parts_of
entries_of [] = refl
entries_of (entry ∷ log) = ap (λ (l : List Entry). entry ∷ l) (entries_of log)

values_of : (log : List Entry) → AllByRecursion IsEntryValue log → AllByRecursion IsLogPart (parts_of log)
unfolding parts_of
values_of [] all = tt
values_of (entry ∷ log) all = (all.0, values_of log all.1)

-- ---- the opening

opens : (rules : RuleSet) (size present : ℕ) (base : Option Base) (start : Moment) → size ≤ 65535 → present ≤ size → dropped base ≤ max_entries → IsBaseOfGraph base → BeginsAt (table_of rules) (charge_bound (weight_of rules)) size present base start
    → Opens rules (opening_of size present base) (stand start (dropped base))
opens rules size present None start few within low short begins = record { fits = record { few = few; within = within }; begins = begins; count = refl }
opens rules size present (Some base) start few within low short begins =
    let net = start.state.network in
    let edges : length base.edges ≡ edge_count net = ap (λ (b : Base). length b.edges) begins.lines ∙ length-map (finmap.entries net.edges) (λ e. e.0) ∙ sym (finmap.len-entries net.edges) in
    let bounded = light rules start.spent ((table_of rules).charge start.state) (edge_count net) (node_count net) begins.within in
    record {
      fits = record {
        few = few;
        shaped = subst IsShaped (sym begins.lines) (base_shaped base.number size start begins.is_state begins.size_is few low (omega (arith, edges, short.1)) bounded);
        number = low;
        edges = short.1;
      };
      begins = begins;
      count = refl;
    }

-- ---- the text

pub kept_accepted : (rules : RuleSet) (kept : RetainedLog) → IsRetainedRun (table_of rules) (weight_of rules) kept → kept.present ≤ kept.state.network.size → AllByRecursion IsEntryValue kept.entries
    → (c : Summary) × IsAccepted (log_text rules kept) c × (c.entries ≡ length kept.entries)
kept_accepted rules kept run within values =
    let size = kept.state.network.size in
    let o = opening_of size kept.present kept.base in
    let front = opening_text rules o in
    let before = dropped kept.base in
    let log = parts_of kept.entries in
    let end = stand (moment_in kept) (before + length kept.entries) in
    let is : IsTranscript (log_text rules kept) rules o log end = record {
      start = stand run.start before;
      opens = opens rules size kept.present kept.base run.start run.size within (omega (arith, run.room, run.limit)) run.short run.begins;
      text = ap (λ (l : List ℕ). front ++ l) (sym (text_of rules (size_of o) before kept.entries));
      parts = values_of kept.entries values;
      not_too_many = omega (arith, run.room, run.limit);
      passes = passes_of (table_of rules) run.start kept.entries (moment_in kept) before run.run;
    } in
    (summary_of (entries_in log), counted_transcript (log_text rules kept) rules o log end is, ap length (entries_of kept.entries))
