use Rattle.auditor.proofs.Prelude.{◌≡◌, ◌∙◌, ◌++◌, ℕ, List, [], Option, None, Some, IfSome, Err, inl, inr, length, take, refl, sym, arith, Consumes-nil, Consumes-whole, Read}
use Rattle.auditor.specs.TranscriptEnds.{IsEndResult}
use Rattle.auditor.proofs.PieceReading.{consumed_more, consumed_none, of_consumed, refilled}
use Rattle.auditor.proofs.transcript.judge_read.Goals as goal

pub loop-len-init : goal.loop-len-init
loop-len-init g c = record { read = []; consumed = Consumes-nil (g.In.Read.remaining c.args.reader.now.reader); is = c.new-audit.ensures.fed; room = c.in-Ok.ensures; readable = λ good. good }

pub returns-then-len-eq0-clause-heard : goal.returns-then-len-eq0-clause-heard
returns-then-len-eq0-clause-heard g c =
    let left = g.In.Read.remaining in
    let i = c.loop-len.invariant in
    let consumed = consumed_none (left c.args.reader.now.reader) (left c.loop-len.reader.reader) (left c.read.new.self.reader) i.read c.read.new.buf c.in-Ok-read.len i.consumed c.if-len-eq0.true c.in-Ok-read.ensures.bytes in
    Consumes-whole (left c.args.reader.now.reader) (left c.read.new.self.reader) i.read (λ bytes. IsEndResult bytes c.into_end.result) consumed (c.in-Ok-read.ensures.end c.if-len-eq0.true)
    (inl (c.into_end.ensures.ended i.read i.is))

-- the bytes read so far are judged
pub returns-then-len-eq0-clause-some : goal.returns-then-len-eq0-clause-some
returns-then-len-eq0-clause-some g c =
    let i = c.loop-len.invariant in (i.read, inl (c.into_end.ensures.ended i.read i.is))

pub returns-in-Err-clause-some : goal.returns-in-Err-clause-some
returns-in-Err-clause-some g c =
    let i = c.loop-len.invariant in
    (i.read ++ take c.in-Ok-read.len c.deref.result.now ++ [], inl (c.in-Err.ensures.fault i.read [] i.is))

pub returns-in-Err-clause-heard : goal.returns-in-Err-clause-heard
returns-in-Err-clause-heard g c =
    let left = g.In.Read.remaining in
    let i = c.loop-len.invariant in
    let full : length c.read.new.buf ≡ c.loop-len.chunk.len = grind arith in
    let same : c.read.new.buf ≡ c.deref.result.now = sym (refilled c.loop-len.chunk.len c.read.new.buf c.loop-len.chunk.items full) ∙ sym c.deref.ensures.value in
    let consumed = consumed_more (left c.args.reader.now.reader) (left c.loop-len.reader.reader) (left c.read.new.self.reader) i.read c.read.new.buf c.deref.result.now c.in-Ok-read.len i.consumed same c.in-Ok-read.ensures.bytes in
    of_consumed (left c.args.reader.now.reader) (left c.read.new.self.reader) (i.read ++ take c.in-Ok-read.len c.deref.result.now) (λ bytes. IsEndResult bytes (Err c.in-Err.fault)) consumed
    (λ more. inl (c.in-Err.ensures.fault i.read more i.is))

pub loop-len-preserved : goal.loop-len-preserved
loop-len-preserved g c =
    let left = g.In.Read.remaining in
    let i = c.loop-len.invariant in
    let piece = c.deref.result.now in
    let len = c.in-Ok-read.len in
    let full : length c.read.new.buf ≡ c.loop-len.chunk.len = grind arith in
    let same : c.read.new.buf ≡ piece = sym (refilled c.loop-len.chunk.len c.read.new.buf c.loop-len.chunk.items full) ∙ sym c.deref.ensures.value in
    record {
      read = i.read ++ take len piece;
      consumed = consumed_more (left c.args.reader.now.reader) (left c.loop-len.reader.reader) (left c.read.new.self.reader) i.read c.read.new.buf piece len i.consumed same c.in-Ok-read.ensures.bytes;
      is = c.feed.ensures.fed i.read i.is;
      room = grind arith;
      readable = λ good. c.in-Ok-read.ensures.good.1;
    }

-- a failed read is heard of whatever bytes
failed : (bytes : Option (List ℕ)) → IfSome bytes (λ all. IsEndResult all (Err Read))
failed None = tt
failed (Some all) = inr refl

pub returns-in_default-read-clause-heard : goal.returns-in_default-read-clause-heard
returns-in_default-read-clause-heard g c = failed (g.In.Read.remaining c.args.reader.now.reader)
