use Rattle.auditor.proofs.Prelude.{◌≡◌, ◌⊎◌, ◌∙◌, ap, [], false, sym, inl, inr, eqb-true, rules, nil_from_length, falls_short}
use Rattle.auditor.proofs.CursorPositions.{forgotten_fault, further_within, part_fault, ended, ended_early}
use Rattle.auditor.proofs.WholeTranscripts.{begun_at, compared_none, passed_at, passed_compared, passed_shorter}
use Rattle.auditor.proofs.replayed_run.state_after.Goals as goal
use Rattle.auditor.proofs.replayed_run.state_after.Goals.{then-loop-replay-test+else-falls_short, else-loop-replay-test}

pub returns-in-Some-clause-fault : goal.returns-in-Some-clause-fault
returns-in-Some-clause-fault c =
    rw c.number-base.ensures (forgotten_fault _ _ _ _ _ _ c.args.last c.in-Some.number c.in-Ok.ensures.begins.opened c.in-Some.ensures.0 (rw c.number-base.ensures at c.in-Some.ensures.1))

pub loop-replay-init : goal.loop-replay-init
loop-replay-init c =
    let begins = c.in-Ok.ensures.begins in
    record {
      at = begun_at _ _ _ begins;
      compared = compared_none _ _ begins.unwanted begins.none_same;
      within = rw c.number-base.ensures at c.in_default.ensures;
    }

pub loop-replay-smaller : goal.loop-replay-smaller
loop-replay-smaller c = passed_shorter _ _ _ _ c.in-Ok-advance_whole.ensures.passed

pub loop-replay-preserved : goal.loop-replay-preserved
loop-replay-preserved c =
    let passed = c.in-Ok-advance_whole.ensures.passed in
    record {
      at = passed_at _ _ _ _ _ c.loop-replay.invariant.at passed;
      compared = passed_compared _ _ _ _ passed;
      within = further_within _ _ _ _ c.args.last (search rules) passed;
    }

pub returns-in-Err-advance_whole-clause-fault : goal.returns-in-Err-advance_whole-clause-fault
returns-in-Err-advance_whole-clause-fault c =
    part_fault _ c.loop-replay.replay.audit.number c.args.last _ (search rules) (c.in-Err-advance_whole.ensures.fault c.args.bytes.now c.loop-replay.invariant.at)

pub returns : goal.returns
returns c =
    let i = c.loop-replay.invariant in
    let stop : (c.loop-replay.rest.now ≡ []) ⊎ (falls_short c.args.last c.loop-replay.replay.audit.number ≡ false) = elim c.loop-replay-test.branch [
      | then-loop-replay-test+else-falls_short w ↦ inr (ap (falls_short c.args.last) (sym w.number.ensures) ∙ sym w.falls_short.ensures ∙ w.if-falls_short.false)
      | else-loop-replay-test w ↦ inl (nil_from_length _ (eqb-true _ 0 (sym c.is_empty.ensures ∙ w.loop-replay-test.false)))
    ] in
    record {
      reached = ended _ _ _ _ _ c.args.last c.finish.result i.at.reached i.within stop c.finish.ensures.reached;
      fault = ended_early _ _ _ _ _ c.args.last c.finish.result i.at.reached stop c.finish.ensures.few;
    }
