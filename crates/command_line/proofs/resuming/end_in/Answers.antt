use Rattle.std.proofs.Common.{◌≡◌, List, Option, ℕ, rules, subst}
use Rattle.std.specs.Prelude.{IfErr, IfOk, IfSome}
use Rattle.auditor.specs.TranscriptEnds.{IsTranscriptEnd}
use Rattle.auditor.specs.Verdict.{IsAuditFault}
use Rattle.command_line.proofs.ResumedRuns.{audited}
use Rattle.command_line.proofs.resuming.end_in.Goals as goal

pub returns-clause-audited : goal.returns-clause-audited
returns-clause-audited g c =
    let left = g.Opened.Read.remaining in
    let end = c.end_of-end in
    let same : left c.new.result.reader.now.file ≡ left c.args.opened = search rules in
    audited (left c.args.opened) end.result end.ensures.some
    (subst (λ (l : Option (List ℕ)). IfSome l (λ bytes. IfOk end.result (IsTranscriptEnd bytes))) same end.ensures.ended)
    (subst (λ (l : Option (List ℕ)). IfSome l (λ bytes. IfErr end.result (IsAuditFault bytes))) same end.ensures.damage)
