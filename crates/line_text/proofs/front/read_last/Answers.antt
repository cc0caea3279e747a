use Rattle.std.proofs.Common.{[], arith}
use Rattle.line_text.proofs.Digits.{name_once, NameThen-last}
use Rattle.line_text.proofs.front.read_last.Goals as goal

pub returns-in_default : goal.returns-in_default
returns-in_default c n f e = c.in_default.ensures n [] (NameThen-last c.args.bytes.now n f e)

pub returns-then-not-is_empty : goal.returns-then-not-is_empty
returns-then-not-is_empty c n f e =
    let r = name_once c.args.bytes.now c.in-Some.node n c.in-Some.rest.now [] c.in-Some.ensures (NameThen-last c.args.bytes.now n f e) in
    absurd (grind arith)
