use Rattle.auditor.proofs.Prelude.{◌-◌, ◌++◌, ℕ, List, Err, length, subst, arith, IsJudged}
use Rattle.auditor.proofs.WholeTranscripts.{begun_at, first_judged}
use Rattle.auditor.proofs.PieceReading.{dropped, ends_behind}
use Rattle.auditor.proofs.incremental_audit.begin.Goals as goal

pub returns-in-Err-clause-fault : goal.returns-in-Err-clause-fault
returns-in-Err-clause-fault c more = subst (λ (l : List ℕ). IsJudged (l ++ more) (Err c.in-Err.fault)) c.deref.ensures.value (first_judged (c.deref.result.now ++ more) c.in-Err.fault (c.in-Err.ensures.fault more))

pub pass_parts-requires-clause-at : goal.pass_parts-requires-clause-at
pass_parts-requires-clause-at c =
    ∣ record { bytes = c.deref.result.now; few = rw c.deref.ensures.value c.requires; at = begun_at _ _ _ (rw c.in-Ok-Some.field-0-is at c.in-Ok-Some.ensures.begins) } ∣₁

pub returns-in-Err-pass_parts-clause-fault : goal.returns-in-Err-pass_parts-clause-fault
returns-in-Err-pass_parts-clause-fault c more =
    subst (λ (l : List ℕ). IsJudged (l ++ more) (Err c.in-Err-pass_parts.fault)) c.deref.ensures.value (c.in-Err-pass_parts.ensures.fault c.deref.result.now more (begun_at _ _ _ (rw c.in-Ok-Some.field-0-is at c.in-Ok-Some.ensures.begins)))

pub returns-clause-on : goal.returns-clause-on
returns-clause-on c =
    let begins = rw c.in-Ok-Some.field-0-is at c.in-Ok-Some.ensures.begins in
    let ends = ends_behind _ _ _ (begins.opened.follows.good, begins.opened.follows.splits) c.in-Ok.ensures.behind in
    let same = dropped _ _ _ _ (c.len.result - length c.in-Ok.behind.now) c.deref.ensures.value ends (omega (arith, c.len.ensures, c.deref.ensures.len)) c.drop_front.ensures in
    rw (same, ← c.deref.ensures.value) (c.in-Ok.ensures.at _ (begun_at _ _ _ begins), c.in-Ok.ensures.compared)
