use Rattle.std.proofs.Common.{arith}
use Rattle.entry_grammar.proofs.Headers.{number_once, two_said}
use Rattle.entry_grammar.proofs.header.read_sizes.Goals as goal

pub returns-in_err-names : goal.returns-in_err-names
returns-in_err-names c = rw c.from_residual-in_err-names.ensures (λ header f e.
    let two = two_said header.names header.present c.args.bytes.now c.in-Some.names.now c.in-Some.present.now f.1 e c.in-Some.ensures in
    c.in_err-names.ensures header.names f.1.few two.1)

pub returns-in_err-present : goal.returns-in_err-present
returns-in_err-present c = rw c.from_residual-in_err-present.ensures (λ header f e.
    let two = two_said header.names header.present c.args.bytes.now c.in-Some.names.now c.in-Some.present.now f.1 e c.in-Some.ensures in
    c.in_err-present.ensures header.present (omega (arith, two.0, f.1.few)) two.2)

pub returns-then-present-names : goal.returns-then-present-names
returns-then-present-names c header f e =
    let two = two_said header.names header.present c.args.bytes.now c.in-Some.names.now c.in-Some.present.now f.1 e c.in-Some.ensures in
    let first = c.in_ok-names.ensures in
    let second = c.in_ok-present.ensures in
    let sizes = number_once c.in-Some.names.now c.in_ok-names.names header.names first.0 f.1.few first.1 two.1 in
    let counts = number_once c.in-Some.present.now c.in_ok-present.present header.present second.0 (omega (arith, two.0, f.1.few)) second.1 two.2 in
    omega (arith, sizes, counts, two.0, c.if-present-names.true)
