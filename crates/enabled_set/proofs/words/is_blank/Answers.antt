use Rattle.enabled_set.proofs.Prelude.{arith}
use Rattle.enabled_set.proofs.PlainBits.{empty_is}
use Rattle.enabled_set.proofs.words.is_blank.Goals as goal

pub returns : goal.returns
returns c = empty_is c.args.words.now c.args.used (λ i. omega (arith, c.type_inv.words i)) c.requires
