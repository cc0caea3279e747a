use Rattle.auditor.proofs.PieceReading.{at_on, compared_more, fault_less, for_err, for_on, halves, somewhere_less, somewhere_on}
use Rattle.auditor.proofs.incremental_audit.judge_piece.Goals as goal

pub returns-in_default-clause-compared : goal.returns-in_default-clause-compared
returns-in_default-clause-compared c = rw c.in_ok-extend_from_slice.ensures.items (compared_more _ _ _ c.requires.compared)

pub judge_behind-requires-2-clause-at : goal.judge_behind-requires-2-clause-at
judge_behind-requires-2-clause-at c = somewhere_less _ _ _ _ (halves c.args.held.now.items _ _ _ _ c.split_at.ensures.front c.split_at.ensures.back) c.requires.at

pub judge_behind-requires-in-Ok-clause-at : goal.judge_behind-requires-in-Ok-clause-at
judge_behind-requires-in-Ok-clause-at c =
    somewhere_on _ _ _ _ _ _ (halves c.args.held.now.items _ _ _ _ c.split_at.ensures.front c.split_at.ensures.back) c.in-Ok.ensures.at c.requires.at

pub returns-in-Ok-clause-at : goal.returns-in-Ok-clause-at
returns-in-Ok-clause-at c =
    for_on c.judge_behind-in-Ok.result _ _ c.judge_behind-in-Ok.ensures.at (λ on read at.
    on read (at_on read _ _ _ _ _ _ (halves c.args.held.now.items _ _ _ _ c.split_at.ensures.front c.split_at.ensures.back) c.in-Ok.ensures.at at))

pub returns-in-Ok-clause-fault : goal.returns-in-Ok-clause-fault
returns-in-Ok-clause-fault c =
    for_err c.judge_behind-in-Ok.result _ _ c.judge_behind-in-Ok.ensures.fault (λ fault judged read more at.
    judged read more (at_on read _ _ _ _ _ _ (halves c.args.held.now.items _ _ _ _ c.split_at.ensures.front c.split_at.ensures.back) c.in-Ok.ensures.at at))

pub returns-in-Err-clause-fault : goal.returns-in-Err-clause-fault
returns-in-Err-clause-fault c read more at =
    fault_less read _ more _ _ _ _ (halves c.args.held.now.items _ _ _ _ c.split_at.ensures.front c.split_at.ensures.back) c.in-Err.ensures.fault at
