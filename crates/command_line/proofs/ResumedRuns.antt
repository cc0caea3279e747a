-- The end of a run or a storm that was to go on where the run of a file ended.
use Rattle.std.proofs.Common.{ℕ, ◌≤◌, arith, List, Option, None, Some, ◌≡◌, Result, Ok, Err, OnErr, IfOk, length, refl, inl, inr, subst}
use Rattle.std.specs.Prelude.{IfErr, IfSome}
use Rattle.std.specs.Io.KnownBytes.{Appends}
use Rattle.std.proofs.KnownBytes.{Keeps-refl}
use Rattle.rule_machine.specs.declared.rule_set.RuleSet.{RuleSet}
use Rattle.rule_machine.specs.Tables.{table_of}
use Rattle.script_text.specs.Script.{Progress, lines_of}
use Rattle.auditor.specs.declared.transcript_end.TranscriptEnd.{TranscriptEnd}
use Rattle.auditor.specs.declared.fault.AuditFault.{AuditFault}
use Rattle.auditor.specs.declared.fault.AuditFault.TheVariants.{BadHeader, NotALine, OutOfOrder, NotTheMachines, BadBase, Read, Memory}
use Rattle.auditor.specs.TranscriptEnds.{IsEndResult, IsTranscriptEnd, MayGoOn}
use Rattle.auditor.specs.Verdict.{IsAuditFault}
use Rattle.byte_streams.specs.PartialOutput.{AppendsBeginning}
use Rattle.cli_args.specs.TaskWords.{ResumedStorm}
use Rattle.script_run.specs.Restarts.{RestartView, options_at}
use Rattle.script_run.specs.declared.fault.RunFault.{RunFault}
use Rattle.script_run.specs.declared.fault.RunFault.TheVariants as run
use Rattle.script_run.specs.Outcome.{IsRunOutcome}
use Rattle.command_line.proofs.AcceptedOutcomes.{resumed_accepted, run_accepted}
use Rattle.command_line.proofs.AcceptedStorms.{resumed_storm_behind}
use Rattle.command_line.specs.StormTexts.{IsAcceptedLog}
use Rattle.command_line.specs.ProgramEnds.{TellsOutcome}
use Rattle.command_line.specs.RunNotes.{TellsRunEnd}
use Rattle.command_line.specs.Status.{ended_status}
use Rattle.storm_runner.specs.declared.fault.StormFault.{StormFault}
use Rattle.command_line.specs.FaultText.{run_fault_line}
use Rattle.command_line.specs.FileNotes.{TellsUnread}
use Rattle.command_line.specs.ResumeEnds.{IsAuditOf, ResumesFile, ResumesOpened, StormsOpened, TellsAuditFault, TellsDamage, TellsRunFrom, damaged_line, start_at, storm_from}
use Rattle.command_line.specs.StormEnds.{EndsStormFrom, TellsStormEnd}
use Rattle.command_line.specs.WriterStates.{WriterState, WrittenBytes, WritesLine}

-- a damage is reported, or that memory ran out for its line
damage_told : {V E : Type 0} (items : V → List ℕ) (line : Result V E) (text file : List ℕ) (damage : AuditFault) (known before : WrittenBytes) (after : WriterState) (status : ℕ) → text ≡ damaged_line file damage
    → IfOk line (λ v. items v ≡ text) → IfOk line (λ v. (status ≡ 1) × WritesLine before after (items v)) → OnErr line ((status ≡ 4) × WritesLine before after (run_fault_line run.Memory))
    → TellsDamage file damage known known before after status
damage_told items (Ok v) text file damage known before after status same is told memory =
    inl (told.0, Keeps-refl known, subst (λ (l : List ℕ). WritesLine before after l) same (subst (λ (l : List ℕ). WritesLine before after l) is told.1))
damage_told items (Err e) text file damage known before after status same is told memory = inr (memory.0, Keeps-refl known, memory.1)

-- any fault but a failed read and want of memory is a damage
pub fault_told : {V E : Type 0} (items : V → List ℕ) (line : Result V E) (file : List ℕ) (fault : AuditFault) (known before : WrittenBytes) (after : WriterState) (status : ℕ) → (fault ≡ Read → ⊥) → (fault ≡ Memory → ⊥)
    → IfOk line (λ v. items v ≡ damaged_line file fault) → IfOk line (λ v. (status ≡ 1) × WritesLine before after (items v)) → OnErr line ((status ≡ 4) × WritesLine before after (run_fault_line run.Memory))
    → TellsAuditFault file fault known known before after status
fault_told items line file BadHeader known before after status read want is told memory = damage_told items line _ file BadHeader known before after status refl is told memory
fault_told items line file (NotALine n) known before after status read want is told memory = damage_told items line _ file (NotALine n) known before after status refl is told memory
fault_told items line file (OutOfOrder n) known before after status read want is told memory = damage_told items line _ file (OutOfOrder n) known before after status refl is told memory
fault_told items line file (NotTheMachines n) known before after status read want is told memory = damage_told items line _ file (NotTheMachines n) known before after status refl is told memory
fault_told items line file (BadBase n) known before after status read want is told memory = damage_told items line _ file (BadBase n) known before after status refl is told memory
fault_told items line file Read known before after status read want is told memory = absurd (read refl)
fault_told items line file Memory known before after status read want is told memory = absurd (want refl)

-- the bytes have the end that was found
was_ended : (bytes : List ℕ) (end : TranscriptEnd) → IsEndResult bytes (Ok end) → IsTranscriptEnd bytes end
was_ended bytes end (inl is) = is
was_ended bytes end (inr failed) = absurd cc

-- the script was run, and what was written is accepted
pub ran : (input : Option (List ℕ)) (rules : RuleSet) (nodes present limit : ℕ) (ended : Result Unit RunFault) (old new before : WrittenBytes) (after : WriterState) (status : ℕ)
    → nodes ≤ 65535 → present ≤ nodes → limit ≤ 16777216 → IfSome input (λ script. IsRunOutcome rules nodes present limit script old new ended) → TellsRunEnd ended before after → status ≡ ended_status ended
    → IfSome input (λ script. TellsOutcome rules nodes present limit script old new before after status)
ran None rules nodes present limit ended old new before after status few within most outcome told is = tt
ran (Some script) rules nodes present limit ended old new before after status few within most outcome told is =
    (ended, outcome, run_accepted rules nodes present limit (lines_of script) ended (Appends old new) (AppendsBeginning old new) few within most outcome, told, is)

-- an audit's fault is that of the bytes, or a failed read
fault_found : (bytes : List ℕ) (fault : AuditFault) → IsAuditFault bytes fault → IsEndResult bytes (Err fault)
fault_found bytes BadHeader is = inl is
fault_found bytes (NotALine n) is = inl is
fault_found bytes (OutOfOrder n) is = inl is
fault_found bytes (NotTheMachines n) is = inl is
fault_found bytes (BadBase n) is = inl is
fault_found bytes Read is = inr refl
fault_found bytes Memory is = inl tt

-- an audit of what was left, if that is known
pub audited : (left : Option (List ℕ)) (result : Result TranscriptEnd AuditFault) → ((bytes : List ℕ) × IsEndResult bytes result)
    → IfSome left (λ bytes. IfOk result (IsTranscriptEnd bytes)) → IfSome left (λ bytes. IfErr result (IsAuditFault bytes))
    → (bytes : List ℕ) × IsAuditOf left bytes result
audited None result (bytes, is) ended damage = (bytes, (tt, is))
audited (Some all) (Ok end) some ended damage = (all, (refl, inl ended))
audited (Some all) (Err fault) some ended damage = (all, (refl, fault_found all fault damage))

-- the script was run from the end of the file
pub went_on : (input left : Option (List ℕ)) (bytes : List ℕ) (end : TranscriptEnd) (rules : RuleSet) (limit : ℕ) (start : Progress) (file : List ℕ) (old new before : WrittenBytes) (after : WriterState) (status : ℕ)
    → IsAuditOf left bytes (Ok end) → MayGoOn end → rules ≡ end.rules → limit ≡ 16777216 → start ≡ start_at end
    → IfSome input (λ script. TellsRunFrom (table_of rules) limit start script old new before after status)
    → IfSome input (λ script. ResumesOpened left file script old new before after status)
went_on None left bytes end rules limit start file old new before after status is may same most first told = tt
went_on (Some script) left bytes end rules limit start file old new before after status is may same most first told =
    let under = subst (λ (z : RuleSet). TellsRunFrom (table_of z) limit start script old new before after status) same told in
    let within = subst (λ (z : ℕ). TellsRunFrom (table_of end.rules) z start script old new before after status) most under in
    let all = subst (λ (z : Progress). TellsRunFrom (table_of end.rules) 16777216 z script old new before after status) first within in
    let ended = all.0 in
    let accepted = resumed_accepted bytes end 16777216 (lines_of script) ended (Appends old new) (AppendsBeginning old new) (was_ended bytes end is.1) (omega arith) all.1 in
    (bytes, Ok end, is, (may, (ended, all.1, accepted, all.2, all.3)))

-- the storm was played from the end of the file
pub stormed_on : (left : Option (List ℕ)) (bytes : List ℕ) (end : TranscriptEnd) (storm : ResumedStorm) (restart : RestartView) (scripts : ℕ) (old new before : WrittenBytes) (after : WriterState) (ended : Result Unit StormFault) (status : ℕ)
    → IsAuditOf left bytes (Ok end) → MayGoOn end → restart ≡ storm_from end storm → scripts ≡ length storm.scripts → EndsStormFrom (IsAcceptedLog (options_at restart)) restart scripts old new ended
    → TellsStormEnd ended before after status
    → StormsOpened left storm old new before after status
stormed_on left bytes end storm restart scripts old new before after ended status judged may same count ends told =
    let from = storm_from end storm in
    let some = subst (λ (r : RestartView). EndsStormFrom (IsAcceptedLog (options_at r)) r scripts old new ended) same ends in
    let all = subst (λ (n : ℕ). EndsStormFrom (IsAcceptedLog (options_at from)) from n old new ended) count some in
    let accepted = resumed_storm_behind bytes end from (was_ended bytes end judged.1) refl refl all.0 old new ended all.2 in
    (bytes, Ok end, judged, (may, (ended, (all.0, all.1, all.2, accepted), told)))

-- the file was refused
pub refused : (input left : Option (List ℕ)) (bytes : List ℕ) (fault : AuditFault) (file : List ℕ) (old new before : WrittenBytes) (after : WriterState) (status : ℕ)
    → IsAuditOf left bytes (Err fault) → TellsAuditFault file fault old new before after status
    → IfSome input (λ script. ResumesOpened left file script old new before after status)
refused None left bytes fault file old new before after status is told = tt
refused (Some script) left bytes fault file old new before after status is told = (bytes, Err fault, is, told)

-- the file was opened, or not
pub opened : (input left : Option (List ℕ)) (file : List ℕ) (old new before : WrittenBytes) (after : WriterState) (status : ℕ)
    → IfSome input (λ script. ResumesOpened left file script old new before after status)
    → IfSome input (λ script. ResumesFile file script old new before after status)
opened None left file old new before after status told = tt
opened (Some script) left file old new before after status told = inr (left, told)

pub unopened : (input : Option (List ℕ)) (file : List ℕ) (old new before : WrittenBytes) (after : WriterState) (status : ℕ)
    → TellsUnread file old new before after status
    → IfSome input (λ script. ResumesFile file script old new before after status)
unopened None file old new before after status told = tt
unopened (Some script) file old new before after status told = inl told
