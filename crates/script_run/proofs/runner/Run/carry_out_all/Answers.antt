use Rattle.script_run.proofs.Prelude.{length-take, ◌≡◌, ◌∙◌, length, refl, ap, arith, progress, returned}
use Rattle.script_run.proofs.RunProgress.{Came-unbegun, Came-none, Came-handed, Came-began, Came-unread, Came-whole, Came-last, Came-piece, Took-goes_on, Took-ends, wrote_not_read}
use Rattle.script_run.proofs.runner.Run.carry_out_all.Goals as goal

pub returns-in_default-clause-outcome : goal.returns-in_default-clause-outcome
returns-in_default-clause-outcome g c =
    let run = c.args.self.now.line in
    Came-unbegun g.R.Rules.table run.recorder.limit (progress run.rules run.recorder run.text.items) (g.Out.Write.contents c.args.writer.now.writer) (g.In.Read.remaining c.args.reader.now.reader)

pub loop-reading-init : goal.loop-reading-init
loop-reading-init g c =
    record {
      limit = refl;
      stands = Came-none (g.In.Read.remaining c.args.reader.now.reader) c.new-reading.ensures.begun c.new-reading.ensures.lines;
      room = omega (arith, c.new-reading.ensures.lines, ap length c.new-reading.ensures.begun);
      chunk = c.in-Ok.ensures;
    }

pub returns-in_err-hand_over_all-clause-outcome : goal.returns-in_err-hand_over_all-clause-outcome
returns-in_err-hand_over_all-clause-outcome g c =
    Came-began c.loop-reading.invariant.stands (g.Out.Write.contents c.hand_over_all.new.writer.writer) _ c.from_residual.result (returned _ _ c.from_residual.ensures.1) c.in_err-hand_over_all.ensures.fault

pub returns-in_err-hand_over_all-clause-whole : goal.returns-in_err-hand_over_all-clause-whole
returns-in_err-hand_over_all-clause-whole g c same = absurd (wrote_not_read c.from_residual.result (returned _ _ c.from_residual.ensures.1) same)

pub returns-in_err-hand_over_all-clause-unread : goal.returns-in_err-hand_over_all-clause-unread
returns-in_err-hand_over_all-clause-unread g c same = absurd (wrote_not_read c.from_residual.result (returned _ _ c.from_residual.ensures.1) same)

pub returns-in_default-read_on-clause-outcome : goal.returns-in_default-read_on-clause-outcome
returns-in_default-read_on-clause-outcome g c = Came-unread (Came-handed c.loop-reading.invariant.stands c.in_ok-hand_over_all.ensures.ok)

pub returns-in_default-read_on-clause-whole : goal.returns-in_default-read_on-clause-whole
returns-in_default-read_on-clause-whole g c _ = Came-whole (Came-handed c.loop-reading.invariant.stands c.in_ok-hand_over_all.ensures.ok) (g.In.Read.remaining c.read_on.new.reader.reader) c.in_default-read_on.ensures.kept

pub returns-then-len-eq0-clause-outcome : goal.returns-then-len-eq0-clause-outcome
returns-then-len-eq0-clause-outcome g c =
    let bytes = c.in-Ok-read_on.ensures in
    Came-last (Came-handed c.loop-reading.invariant.stands c.in_ok-hand_over_all.ensures.ok) (g.Out.Write.contents c.carry_out_last.new.writer.writer) (g.In.Read.remaining c.read_on.new.reader.reader) c.in-Ok-read_on.len c.read_on.new.chunk c.carry_out_last.new.self.line.text.items c.carry_out_last.result bytes.bytes bytes.end c.if-len-eq0.true c.loop-reading.invariant.limit c.carry_out_last.ensures.last

pub returns-in_err-carry_out_piece-clause-outcome : goal.returns-in_err-carry_out_piece-clause-outcome
returns-in_err-carry_out_piece-clause-outcome g c =
    let took = Came-piece (Came-handed c.loop-reading.invariant.stands c.in_ok-hand_over_all.ensures.ok) _ _ _ _ _ _ _ _ _ _ (c.read_on.ensures.room ∙ c.deref_mut.ensures.len) c.deref-in-loop-reading.ensures.value c.in-Ok-read_on.ensures.bytes c.loop-reading.invariant.limit c.carry_out_piece.ensures.piece in
    Took-ends took _ c.from_residual-in_err-carry_out_piece.result c.in_err-carry_out_piece.was (returned _ _ c.from_residual-in_err-carry_out_piece.ensures.1)

pub loop-reading-preserved : goal.loop-reading-preserved
loop-reading-preserved g c =
    let bytes = c.in-Ok-read_on.ensures in
    let took = Came-piece (Came-handed c.loop-reading.invariant.stands c.in_ok-hand_over_all.ensures.ok) _ _ _ _ _ _ _ _ _ _ (c.read_on.ensures.room ∙ c.deref_mut.ensures.len) c.deref-in-loop-reading.ensures.value bytes.bytes c.loop-reading.invariant.limit c.carry_out_piece.ensures.piece in
    record {
      limit = c.carry_out_piece.ensures.limit ∙ c.loop-reading.invariant.limit;
      stands = Took-goes_on took c.in_ok-carry_out_piece.was;
      room =
          let full : length c.read_on.new.chunk ≡ 65536 = grind arith in
          omega (arith, c.in_ok-carry_out_piece.ensures.room, bytes.count.1, c.loop-reading.invariant.room, length-take c.in-Ok-read_on.len c.deref-in-loop-reading.result.now, bytes.few, full);
      chunk = grind arith;
    }
