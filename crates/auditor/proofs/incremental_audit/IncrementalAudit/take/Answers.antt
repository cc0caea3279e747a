use Rattle.auditor.proofs.Prelude.{◌+◌, ◌∙◌, ◌++◌, ℕ, length, refl, ap, arith, length-append}
use Rattle.auditor.proofs.PieceReading.{for_both, for_err, grown_somewhere, held_compared, held_some}
use Rattle.auditor.proofs.incremental_audit.IncrementalAudit.take.Goals as goal

pub judge_piece-requires-clause-at : goal.judge_piece-requires-clause-at
judge_piece-requires-clause-at c = grown_somewhere c.args.self.now c.args.piece.now c.in-Some.run' _ c.in-Some.is refl (omega (arith, c.if-len-self.false, c.requires.0)) c.requires

pub judge_piece-requires-clause-compared : goal.judge_piece-requires-clause-compared
judge_piece-requires-clause-compared c = held_compared c.args.self.now c.in-Some.run' _ c.in-Some.is refl c.requires

pub returns-clause-on : goal.returns-clause-on
returns-clause-on c =
    for_both c.judge_piece.result _ _ _ c.judge_piece.ensures.at c.judge_piece.ensures.compared (λ on compared read is. (
      length-append read c.args.piece.now ∙ ap (λ (n : ℕ). n + length c.args.piece.now) is.0,
      (on (read ++ c.args.piece.now) (held_some read _ _ _ _ _ c.in-Some.is refl is.1).0, compared),
    ))

pub returns-clause-fault : goal.returns-clause-fault
returns-clause-fault c =
    for_err c.judge_piece.result _ _ c.judge_piece.ensures.fault (λ fault judged read more is.
    judged (read ++ c.args.piece.now) more (held_some read _ _ _ _ _ c.in-Some.is refl is.1).0)
