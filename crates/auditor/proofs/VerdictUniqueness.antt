-- What was judged is the one verdict of the text.
use Rattle.auditor.proofs.Prelude.{◌≡◌, ℕ, ◌⊎◌, inl, inr, ⊎_elim, List, Result, Ok, Err, IfErr, refl, ap, subst, AuditFault, Read, Memory, Summary, IsAccepted, IsDamage, IsJudged, IsAuditFault, IsAuditResult, AcceptsRuns, NamesDamage}
use Rattle.auditor.proofs.TextEnds.{damage_once, count_once, accepted_no_damage}

pub judged_accepts : (bytes : List ℕ) (result : Result Summary AuditFault) → IsJudged bytes result → (counted : Summary) → IsAccepted bytes counted → (result ≡ Ok counted) ⊎ (result ≡ Err Memory)
judged_accepts bytes (Ok c) judged counted is = inl (ap (λ (x : Summary). Ok x) (count_once bytes c counted judged is))
judged_accepts bytes (Err Memory) judged counted is = inr refl
judged_accepts bytes (Err d) judged counted is = absurd (accepted_no_damage bytes counted d is judged)

pub judged_names : (bytes : List ℕ) (result : Result Summary AuditFault) → IsJudged bytes result → (damage : AuditFault) → IsDamage bytes damage → (result ≡ Err damage) ⊎ (result ≡ Err Memory)
judged_names bytes (Ok c) judged damage is = absurd (accepted_no_damage bytes c damage judged is)
judged_names bytes (Err Memory) judged damage is = inr refl
judged_names bytes (Err d) judged damage is = inl (ap (λ (x : AuditFault). Err x) (damage_once bytes d damage judged is))

-- reading never fails for bytes that are there
pub judged_read : (bytes : List ℕ) (result : Result Summary AuditFault) → IsJudged bytes result → result ≡ Err Read → ⊥
judged_read bytes result judged e = subst (IsJudged bytes) e judged

-- ---- the same of an audit, which may not have read the text

pub heard_damage : (bytes : List ℕ) (result : Result Summary AuditFault) → IsAuditResult bytes result → IfErr result (IsAuditFault bytes)
heard_damage bytes (Ok c) heard = tt
heard_damage bytes (Err Read) heard = tt
heard_damage bytes (Err Memory) heard = tt
heard_damage bytes (Err d) (inl judged) = judged
heard_damage bytes (Err d) (inr e) = absurd cc

pub heard_accepts : (bytes : List ℕ) (result : Result Summary AuditFault) → IsAuditResult bytes result → AcceptsRuns bytes result
heard_accepts bytes result (inl judged) counted is = ⊎_elim (λ e. inl e) (λ e. inr (inr e)) (judged_accepts bytes result judged counted is)
heard_accepts bytes result (inr e) counted is = inr (inl e)

pub heard_names : (bytes : List ℕ) (result : Result Summary AuditFault) → IsAuditResult bytes result → NamesDamage bytes result
heard_names bytes result (inl judged) damage is = ⊎_elim (λ e. inl e) (λ e. inr (inr e)) (judged_names bytes result judged damage is)
heard_names bytes result (inr e) damage is = inr (inl e)
