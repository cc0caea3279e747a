use Rattle.auditor.proofs.Prelude.{◌++◌, List, ℕ, Err, sym, subst, by_error, AuditFault, IsJudged}
use Rattle.auditor.proofs.incremental_audit.IncrementalAudit.begin.Goals as goal

pub returns-in_err-self-clause-fault : goal.returns-in_err-self-clause-fault
returns-in_err-self-clause-fault c =
    let read = c.args.self.now.held.items ++ c.args.piece.now in
    by_error c.from_residual-in_err-self.result _ _ c.from_residual-in_err-self.ensures.1 (λ fault q more.
    subst (λ (f : AuditFault). IsJudged (read ++ more) (Err f)) (sym q)
    (subst (λ (l : List ℕ). IsJudged (l ++ more) (Err c.in_err-self.field-0.0)) c.in_ok-extend_from_slice.ensures.items (c.in_err-self.ensures.fault more)))
