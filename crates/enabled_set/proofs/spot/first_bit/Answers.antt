use Rattle.std.proofs.Common.{arith}
use Rattle.enabled_set.proofs.Bits.{first_none, first_some}
use Rattle.enabled_set.proofs.spot.first_bit.Goals as goal

pub returns-then-word-eq0 : goal.returns-then-word-eq0
returns-then-word-eq0 c = λ i inside. first_none c.args.word i c.if-word-eq0.true

pub returns : goal.returns
returns c = first_some c.args.word (omega arith) (let some = c.if-word-eq0.false in omega arith)
