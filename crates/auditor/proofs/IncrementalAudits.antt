-- An audit that is fed piece by piece.
use Rattle.auditor.proofs.Prelude.{◌≡◌, ℕ, List, [], ◌++◌, Option, None, Some, Result, Err, refl, sym, ap, subst, append_assoc, append-nil, IsErrOf, result_err, same_Some, ∥∥₁_elim, ∥∥₁_map, AuditFault, Read, IncrementalAudit, IsRead, IsIncrementalAudit, IsJudged}
use Rattle.auditor.specs.declared.transcript_end.TranscriptEnd.{TranscriptEnd}
use Rattle.auditor.specs.TranscriptEnds.{EndsRun, summary_in}
use Rattle.auditor.proofs.VerdictUniqueness.{judged_read}
use Rattle.auditor.proofs.TranscriptEnds.{ends_judged}

-- if no fault was found, there is none
pub none_by : {X : Type 0} (found : Option X) → ((x : X) → found ≡ Some x → ⊥) → found ≡ None
none_by None other = refl
none_by (Some x) other = absurd (other x refl)

pub some_read : (trial : IncrementalAudit) (fault : Option AuditFault) → fault ≡ None → ∥ ((bytes : List ℕ) × IsIncrementalAudit bytes trial fault) ∥₁ → ∥ ((bytes : List ℕ) × IsRead bytes trial) ∥₁
some_read trial fault none some = ∥∥₁_map some (λ b. (b.0, rw none at b.1))

-- what was wrong stays so
pub tried_more : (bytes piece : List ℕ) (trial : IncrementalAudit) (fault : Option AuditFault) (wrong : AuditFault) → fault ≡ Some wrong → IsIncrementalAudit bytes trial fault → (more : List ℕ) → IsJudged (bytes ++ piece ++ more) (Err wrong)
tried_more bytes piece trial fault wrong is tried more = subst (λ (l : List ℕ). IsJudged l (Err wrong)) (sym (append_assoc bytes piece more)) ((rw is at tried) (piece ++ more))

pub tried_whole : (bytes : List ℕ) (trial : IncrementalAudit) (fault : Option AuditFault) (wrong : AuditFault) → fault ≡ Some wrong → IsIncrementalAudit bytes trial fault → IsJudged bytes (Err wrong)
tried_whole bytes trial fault wrong is tried = subst (λ (l : List ℕ). IsJudged l (Err wrong)) (append-nil bytes) ((rw is at tried) [])

-- ---- reading is no fault of bytes that were fed

same_fault : {T : Type 0} (a b : AuditFault) → IsErrOf {T = T} (Err a) b → a ≡ b
same_fault {T} a b e = same_Some a b (ap (λ (r : Result T AuditFault). result_err r) e)

pub fed_read : {T : Type 0} (trial : IncrementalAudit) (fault : Option AuditFault) (wrong : AuditFault) → ∥ ((bytes : List ℕ) × IsIncrementalAudit bytes trial fault) ∥₁ → fault ≡ Some wrong → IsErrOf {T = T} (Err wrong) Read → ⊥
fed_read trial fault wrong some is e =
    ∥∥₁_elim some (λ x y. absurd x) (λ b. subst (λ (f : AuditFault). IsJudged b.0 (Err f)) (same_fault wrong Read e) (tried_whole b.0 trial fault wrong is b.1))

pub taken_read : {T : Type 0} (trial : IncrementalAudit) (piece : List ℕ) (wrong : AuditFault) → ∥ ((bytes : List ℕ) × IsRead bytes trial) ∥₁ → ((bytes more : List ℕ) → IsRead bytes trial → IsJudged (bytes ++ piece ++ more) (Err wrong)) → IsErrOf {T = T} (Err wrong) Read → ⊥
taken_read trial piece wrong some judged e =
    ∥∥₁_elim some (λ x y. absurd x) (λ b. subst (λ (f : AuditFault). IsJudged (b.0 ++ piece ++ []) (Err f)) (same_fault wrong Read e) (judged b.0 [] b.1))

pub ended_read : (trial : IncrementalAudit) (result : Result TranscriptEnd AuditFault) → ∥ ((bytes : List ℕ) × IsRead bytes trial) ∥₁ → ((bytes : List ℕ) → IsRead bytes trial → EndsRun bytes result) → IsErrOf result Read → ⊥
ended_read trial result some ended e = ∥∥₁_elim some (λ x y. absurd x) (λ b. judged_read b.0 (summary_in result) (ends_judged b.0 result (ended b.0 b.1)) (ap summary_in e))
