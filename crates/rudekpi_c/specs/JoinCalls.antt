-- What C's call that joins two verdicts does, status by status.
use Rattle.std.specs.Prelude.{◌≡◌, ◌≢◌, ◌≤◌, ◌⊎◌, ◌++◌, ℕ, List, Ok, Err, nat_eq, if◌then◌else◌}
use Rattle.auditor.specs.declared.fault.AuditFault.{AuditFault}
use Rattle.auditor.specs.declared.fault.AuditFault.TheVariants.{BadHeader, NotALine, OutOfOrder, NotTheMachines, BadBase, Memory}
use Rattle.auditor.specs.declared.summary.Summary.{Summary}
use Rattle.auditor.specs.Damage.{line_feeds}
use Rattle.audit_parts.specs.Continuations.{ContinuesRun}
use Rattle.audit_parts.specs.FieldRanges.{FitsFields}
use Rattle.audit_parts.specs.Seams as seams
use Rattle.rudekpi_c.specs.declared.verdict.Verdict.{Verdict}
use Rattle.rudekpi_c.specs.AuditVerdicts.{JudgedAs, accepted, damaged, unjudged, audit_verdict}

-- the result that a verdict encodes, by its kind
abbrev pub said_by : Verdict → seams.Verdict
said_by v =
    if nat_eq v.kind 0 then Ok (record { entries = v.entries; epochs = v.epochs; moves = v.moves })
    else (if nat_eq v.kind 1 then Err BadHeader
    else (if nat_eq v.kind 2 then Err (NotALine v.line)
    else (if nat_eq v.kind 3 then Err (OutOfOrder v.line)
    else (if nat_eq v.kind 4 then Err (NotTheMachines v.line)
    else (if nat_eq v.kind 5 then Err (BadBase v.line) else Err Memory)))))

-- if the first text is accepted and the next is damaged, `lines` is how many lines the text `own` has
abbrev pub CountsLines : ℕ → List ℕ → Verdict → Verdict → Type 0
CountsLines lines own old next = (c : Summary) (d : AuditFault) → old ≡ accepted c → next ≡ damaged d → next ≢ unjudged → lines ≡ line_feeds own

-- The new verdict is the joined one. If `lines` is right, and the two texts meet or the second goes on where
-- the run of the first ends, it is that of the joined text.
pub record IsJoined (lines : ℕ) (old next new : Verdict) : Type 0 where
  pub known : (old.kind ≤ 6) × (next.kind ≤ 6)
  pub judged : (former latter : List ℕ) (m : seams.Meets former latter) → CountsLines lines m.own old next → JudgedAs former old → JudgedAs latter next → JudgedAs (m.own ++ latter) new
  pub continued : (former latter : List ℕ) → ContinuesRun former latter → CountsLines lines former old next → JudgedAs former old → JudgedAs latter next → JudgedAs (former ++ latter) new
  pub is : (first second : seams.Verdict) → old ≡ audit_verdict first → next ≡ audit_verdict second → new ≡ audit_verdict (seams.joined_verdict first lines second)

-- a verdict's kind is invalid, or a number of the joined verdict does not fit its field
pub record IsUnjoined (lines : ℕ) (old next new : Verdict) : Type 0 where
  pub kept : new ≡ old
  pub why : (7 ≤ old.kind) ⊎ (7 ≤ next.kind) ⊎ ((first second : seams.Verdict) → old ≡ audit_verdict first → next ≡ audit_verdict second → FitsFields (seams.joined_verdict first lines second) → ⊥)

-- 0: the verdicts were joined; 5: the verdicts were not joined
abbrev pub AuditJoined : ℕ → ℕ → Verdict → Verdict → Verdict → Type 0
AuditJoined lines status old next new = ((status ≡ 0) × IsJoined lines old next new) ⊎ ((status ≡ 5) × IsUnjoined lines old next new)
