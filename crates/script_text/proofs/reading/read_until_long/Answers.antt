use Rattle.script_text.proofs.Prelude.{◌≡◌, ◌∙◌, ◌≤◌, List, ℕ, length, sym, subst, arith, EndsInLine}
use Rattle.script_text.proofs.LongLines.{consumed_more, few_after, read_far, read_to_end, refilled}
use Rattle.std.specs.Io.KnownBytes.{Consumes}
use Rattle.script_text.proofs.reading.read_until_long.Goals as goal

pub loop-begun-preserved : goal.loop-begun-preserved
loop-begun-preserved g c =
    let left = g.In.Read.remaining in
    let i = c.loop-begun.invariant in
    let len = c.in_ok-len.len in
    let piece = c.deref.result.now in
    let full : length c.read.new.buf ≡ c.loop-begun.chunk.len = grind arith in
    let same : c.read.new.buf ≡ piece = sym (refilled c.loop-begun.chunk.len c.read.new.buf c.loop-begun.chunk.items full) ∙ sym c.deref.ensures.value in
    let most : len ≤ 65536 = grind arith in
    let grown = sym c.in_ok-extend_from_slice.ensures.items in
    record {
      consumed =
          subst (λ (l : List ℕ). Consumes (left c.args.reader.now.reader) (left c.read.new.self.reader) l) grown
          (consumed_more (left c.args.reader.now.reader) (left c.loop-begun.reader.reader) (left c.read.new.self.reader) c.loop-begun.text.items c.read.new.buf piece len i.consumed same c.in_ok-len.ensures.bytes);
      room = grind arith;
      ends = subst (λ (l : List ℕ). EndsInLine l c.line_after-begun.result) grown (c.line_after-begun.ensures.more c.loop-begun.text.items i.ends);
      few = few_after c.args.most c.loop-begun.begun len c.line_after-begun.result piece c.loop-begun-test.true most c.line_after-begun.ensures.few;
    }

pub returns-then-len-eq0-clause-text : goal.returns-then-len-eq0-clause-text
returns-then-len-eq0-clause-text g c =
    let left = g.In.Read.remaining in
    let i = c.loop-begun.invariant in
    read_to_end c.args.most (left c.args.reader.now.reader) (left c.loop-begun.reader.reader) (left c.read.new.self.reader) c.loop-begun.text.items c.read.new.buf c.in_ok-len.len i.consumed c.if-len-eq0.true c.in_ok-len.ensures.bytes (c.in_ok-len.ensures.end c.if-len-eq0.true)

pub returns-clause-text : goal.returns-clause-text
returns-clause-text g c =
    let left = g.In.Read.remaining in
    let i = c.loop-begun.invariant in
    read_far c.args.most (left c.args.reader.now.reader) (left c.loop-begun.reader.reader) c.loop-begun.text.items c.loop-begun.begun i.consumed i.ends (let far = c.loop-begun-test.false in grind (arith, far))
