-- How a storm ends.
use Rattle.std.proofs.Common.{◌≡◌, ◌∙◌, ◌≤◌, ℕ, List, [], length, map, replicate, None, Result, Ok, Err, inl, inr, ap, arith, refl, subst, sym}
use Rattle.std.proofs.KnownBytes.{Keeps-refl}
use Rattle.std.proofs.lemmas.List.{length-map, length-replicate}
use Rattle.script_run.specs.Restarts.{RestartView, options_at}
use Rattle.script_run.specs.RunOptions.{OptionsView}
use Rattle.step_log.specs.RetainedLogs.{RetainedLog}
use Rattle.command_line.specs.StormTexts.{IsAcceptedLog}
use Rattle.storm_runner.specs.declared.fault.StormFault.{StormFault}
use Rattle.storm_runner.specs.declared.fault.StormFault.TheVariants.{TooManyScripts, BadLine, LogFull, Read, Write, Memory, Behind, Thread, Unsettled}
use Rattle.storm_runner.specs.FaultText.{end_line}
use Rattle.storm_runner.specs.Status.{end_status}
use Rattle.storm_runner.specs.Outcome.{IsResumedStorm, IsStormOutcome, opening_start}
use Rattle.command_line.proofs.AcceptedStorms.{resumed_storm_accepted, storm_accepted}
use Rattle.command_line.specs.ViewEnds.{WrittenBytes}
use Rattle.command_line.specs.StormEnds.{EndsStorm, EndsStormFrom, FailsToOpen, MayAddNote, TellsStormEnd}
use Rattle.command_line.specs.FileNotes.{AddsNote}
use Rattle.command_line.specs.WriterStates.{WriterState, WritesLine}

-- a file that could not be opened counts as one that could not be read
pub unopened : (asked : OptionsView) (files : ℕ) (old : WrittenBytes) (fault : StormFault) → FailsToOpen files fault → EndsStorm asked files old old (Err fault)
unopened asked files old Read some =
    let none : WrittenBytes = None in
    let count = length-replicate files none in
    (replicate files none, count, (λ e. omega (arith, some, count, ap (λ (l : List WrittenBytes). length l) e), Keeps-refl old), Keeps-refl old)
unopened asked files old Memory some =
    let none : WrittenBytes = None in
    (replicate files none, length-replicate files none, inr (Keeps-refl old), inr (Keeps-refl old))
unopened asked files old TooManyScripts some = absurd some
unopened asked files old (BadLine script line) some = absurd some
unopened asked files old LogFull some = absurd some
unopened asked files old Write some = absurd some
unopened asked files old Behind some = absurd some
unopened asked files old Thread some = absurd some
unopened asked files old (Unsettled why) some = absurd some

-- so does one of a storm that goes on
pub unopened_from : (Accepted : RetainedLog → Type 0) (restart : RestartView) (files : ℕ) (old : WrittenBytes) (fault : StormFault) → FailsToOpen files fault → EndsStormFrom Accepted restart files old old (Err fault)
unopened_from Accepted restart files old Read some =
    let none : WrittenBytes = None in
    let count = length-replicate files none in
    (replicate files none, count, (λ e. omega (arith, some, count, ap (λ (l : List WrittenBytes). length l) e), Keeps-refl old), Keeps-refl old)
unopened_from Accepted restart files old Memory some =
    let none : WrittenBytes = None in
    (replicate files none, length-replicate files none, inr (Keeps-refl old), inr (Keeps-refl old))
unopened_from Accepted restart files old TooManyScripts some = absurd some
unopened_from Accepted restart files old (BadLine script line) some = absurd some
unopened_from Accepted restart files old LogFull some = absurd some
unopened_from Accepted restart files old Write some = absurd some
unopened_from Accepted restart files old Behind some = absurd some
unopened_from Accepted restart files old Thread some = absurd some
unopened_from Accepted restart files old (Unsettled why) some = absurd some

-- the storm of the files that were opened: the auditor accepts what it wrote
pub played : {File : Type 0} (left : File → WrittenBytes) (files : List File) (asked : OptionsView) (names : ℕ) (old new : WrittenBytes) (ended : Result Unit StormFault) → asked.present ≤ asked.nodes → length files ≡ names → IsStormOutcome asked (map left files) old new ended → EndsStorm asked names old new ended
played {File} left files asked names old new ended within count ends =
    (map left files, length-map files left ∙ count, ends, storm_accepted (opening_start asked) (map left files) within old new ended ends)

-- so it does for a storm that goes on
pub played_on : {File : Type 0} (left : File → WrittenBytes) (files : List File) (restart : RestartView) (names : ℕ) (old new : WrittenBytes) (ended : Result Unit StormFault) → length files ≡ names → IsResumedStorm restart (map left files) old new ended → EndsStormFrom (IsAcceptedLog (options_at restart)) restart names old new ended
played_on {File} left files restart names old new ended count ends =
    (map left files, length-map files left ∙ count, ends, resumed_storm_accepted restart (map left files) old new ended ends)

-- no line names a file after the end's
none_added : (ended : Result Unit StormFault) (mid : WriterState) → MayAddNote ended mid mid
none_added (Ok done) mid = refl
none_added (Err Read) mid = ([], inl (Keeps-refl mid.got))
none_added (Err Memory) mid = refl
none_added (Err TooManyScripts) mid = refl
none_added (Err (BadLine script line)) mid = refl
none_added (Err LogFull) mid = refl
none_added (Err Write) mid = refl
none_added (Err Behind) mid = refl
none_added (Err Thread) mid = refl
none_added (Err (Unsettled why)) mid = refl

pub plain_end : (ended : Result Unit StormFault) (before : WrittenBytes) (after : WriterState) (status : ℕ) → WritesLine before after (end_line ended) → status ≡ end_status ended → TellsStormEnd ended before after status
plain_end ended before after status line is = (after, line, none_added ended after, is)

-- a script was not read, and is named
pub named_end : (ended : Result Unit StormFault) (file : List ℕ) (before : WrittenBytes) (mid after : WriterState) (status : ℕ) → ended ≡ Err Read → WritesLine before mid (end_line (Err Read)) → AddsNote file mid.got after → status ≡ end_status (Err Read) → TellsStormEnd ended before after status
named_end ended file before mid after status unread line note is =
    subst (λ (e : Result Unit StormFault). TellsStormEnd e before after status) (sym unread) (mid, line, (file, note), is)
