use Rattle.script_run.proofs.Prelude.{◌≡◌, ◌∙◌, ◌+◌, [], length, refl, sym, ap, arith, returned}
use Rattle.script_run.proofs.RunProgress.{moved_on, never_read, wrote_not_read, Stands-line, Stands-handed, Stands-stopped, Stands-memory, Stands-long, PieceEnds-failed}
use Rattle.script_run.proofs.runner.Run.carry_out_piece.Goals as goal

pub returns-in_err-carry_out_ended-clause-piece : goal.returns-in_err-carry_out_ended-clause-piece
returns-in_err-carry_out_ended-clause-piece g c start old read h =
    let found = c.in-Some.ensures.line in
    Stands-stopped _ _ _ _ _ _ _ c.carry_out_ended.result c.from_residual.result (c.loop-end.invariant.stands start old read h) found.0 found.1 c.loop-end.invariant.limit c.carry_out_ended.ensures.ends
    c.in_err-carry_out_ended.was (returned _ _ c.from_residual.ensures.1)

pub returns-in_err-carry_out_ended-clause-reads : goal.returns-in_err-carry_out_ended-clause-reads
returns-in_err-carry_out_ended-clause-reads g c =
    never_read _ _ _ _ _ _ _ _ _ c.carry_out_ended.result c.from_residual.result c.carry_out_ended.ensures.ends c.in_err-carry_out_ended.was (returned _ _ c.from_residual.ensures.1)

pub returns-in_err-carry_out_ended-clause-unwritten : goal.returns-in_err-carry_out_ended-clause-unwritten
returns-in_err-carry_out_ended-clause-unwritten g c same =
    c.carry_out_ended.ensures.unwritten (c.in_err-carry_out_ended.was ∙ sym (returned _ _ c.from_residual.ensures.1) ∙ same)

pub returns-in_err-hand_over-clause-piece : goal.returns-in_err-hand_over-clause-piece
returns-in_err-hand_over-clause-piece g c start old read h =
    let found = c.in-Some.ensures.line in
    PieceEnds-failed _ _ _ _ c.from_residual-in_err-hand_over.result (returned _ _ c.from_residual-in_err-hand_over.ensures.1)
    (Stands-line _ _ _ c.carry_out_ended.result (c.loop-end.invariant.stands start old read h) found.0 found.1 c.loop-end.invariant.limit c.carry_out_ended.ensures.ends c.in_ok-carry_out_ended.was) c.in_err-hand_over.ensures.fault

pub returns-in_err-hand_over-clause-reads : goal.returns-in_err-hand_over-clause-reads
returns-in_err-hand_over-clause-reads g c = wrote_not_read c.from_residual-in_err-hand_over.result (returned _ _ c.from_residual-in_err-hand_over.ensures.1)

pub loop-end-preserved : goal.loop-end-preserved
loop-end-preserved g c =
    let later = c.carry_out_ended.new.reading in
    let invariant = c.loop-end.invariant in
    let found = c.in-Some.ensures.line in
    let none : later.begun.items ≡ [] = grind arith in
    let lines : later.lines ≡ c.loop-end.reading.lines + 1 = grind arith in
    record {
      limit = c.carry_out_ended.ensures.limit ∙ invariant.limit;
      stands = λ start old read h.
          moved_on none lines (Stands-handed (Stands-line _ _ _ c.carry_out_ended.result (invariant.stands start old read h) found.0 found.1 invariant.limit c.carry_out_ended.ensures.ends c.in_ok-carry_out_ended.was) c.in_ok-hand_over.ensures.ok);
      room = omega (arith, invariant.room, c.in-Some.ensures.shorter, lines, ap length none);
    }

pub returns-then-len-rest-gt-MAX_LINE-clause-piece : goal.returns-then-len-rest-gt-MAX_LINE-clause-piece
returns-then-len-rest-gt-MAX_LINE-clause-piece g c start old read h = Stands-long (c.loop-end.invariant.stands start old read h) c.in_default.ensures.line (grind arith)

pub returns-in-Err-clause-piece : goal.returns-in-Err-clause-piece
returns-in-Err-clause-piece g c start old read h = Stands-memory (c.loop-end.invariant.stands start old read h) refl
