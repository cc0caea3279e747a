use Rattle.enabled_set.proofs.Prelude.{arith, has_bit}
use Rattle.enabled_set.proofs.PassCounts.{last, tally_none}
use Rattle.enabled_set.proofs.spot.find_bit.Goals as goal

pub half-in_32-requires-clause-enough : goal.half-in_32-requires-clause-enough
half-in_32-requires-clause-enough c = omega (arith, c.requires, tally_none (has_bit c.args.word))

pub returns-clause-on : goal.returns-clause-on
returns-clause-on c = (last (has_bit c.args.word) c.half.result.place c.half.result.left c.half.ensures.here).0

pub returns-clause-passed : goal.returns-clause-passed
returns-clause-passed c =
    let none = (last (has_bit c.args.word) c.half.result.place c.half.result.left c.half.ensures.here).1 in
    let start = tally_none (has_bit c.args.word) in
    omega (arith, c.half-in_32.ensures.passed, c.half-in_16.ensures.passed, c.half-in_8.ensures.passed, c.half-in_4.ensures.passed, c.half-in_2.ensures.passed, c.half.ensures.passed)
