-- What the results of an audit say of the bytes.
use Rattle.std.specs.Prelude.{◌≡◌, ℕ, List, Option, None, Some, Result, Ok, Err, ◌⊎◌}
use Rattle.auditor.specs.declared.fault.AuditFault.{AuditFault}
use Rattle.auditor.specs.declared.fault.AuditFault.TheVariants.{Read, Memory}
use Rattle.auditor.specs.declared.summary.Summary.{Summary}
use Rattle.auditor.specs.AcceptedRuns.{IsAccepted}
use Rattle.auditor.specs.Damage.{IsDamage}

-- what was judged: a run's transcript with these counts, or a text with this damage; nothing is said if
-- memory ran out
abbrev pub IsJudged : List ℕ → Result Summary AuditFault → Type 0
IsJudged bytes (Ok counted) = IsAccepted bytes counted
IsJudged bytes (Err Memory) = Unit {0}
IsJudged bytes (Err damage) = IsDamage bytes damage

-- no fault was found, or this fault
abbrev pub found_by : Option AuditFault → Result Unit AuditFault
found_by None = Ok tt
found_by (Some fault) = Err fault

-- a transcript is accepted with its counts, unless memory runs out
abbrev pub JudgesRuns : List ℕ → Result Summary AuditFault → Type 0
JudgesRuns bytes result = (counted : Summary) → IsAccepted bytes counted → (result ≡ Ok counted) ⊎ (result ≡ Err Memory)

-- a damage is named, unless memory runs out
abbrev pub JudgesDamage : List ℕ → Result Summary AuditFault → Type 0
JudgesDamage bytes result = (d : AuditFault) → IsDamage bytes d → (result ≡ Err d) ⊎ (result ≡ Err Memory)

-- ---- an audit that reads the bytes

-- the bytes were judged, or reading them failed
abbrev pub IsAuditResult : List ℕ → Result Summary AuditFault → Type 0
IsAuditResult bytes result = IsJudged bytes result ⊎ (result ≡ Err Read)

-- the bytes have the damage that the fault names; nothing is said of a failed read or if memory ran out
abbrev pub IsAuditFault : List ℕ → AuditFault → Type 0
IsAuditFault bytes Read = Unit {0}
IsAuditFault bytes Memory = Unit {0}
IsAuditFault bytes damage = IsDamage bytes damage

-- a transcript is accepted with its counts, unless a read fails or memory runs out
abbrev pub AcceptsRuns : List ℕ → Result Summary AuditFault → Type 0
AcceptsRuns bytes result = (counted : Summary) → IsAccepted bytes counted → (result ≡ Ok counted) ⊎ (result ≡ Err Read) ⊎ (result ≡ Err Memory)

-- a damage is named, unless a read fails or memory runs out
abbrev pub NamesDamage : List ℕ → Result Summary AuditFault → Type 0
NamesDamage bytes result = (d : AuditFault) → IsDamage bytes d → (result ≡ Err d) ⊎ (result ≡ Err Read) ⊎ (result ≡ Err Memory)
