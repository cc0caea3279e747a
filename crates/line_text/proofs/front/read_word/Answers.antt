use Rattle.std.proofs.Common.{◌∷◌, arith}
use Rattle.line_text.proofs.Digits.{name_once, NameThen-word}
use Rattle.line_text.proofs.front.read_word.Goals as goal

pub returns-in_default-after : goal.returns-in_default-after
returns-in_default-after c name rest h =
    let r = name_once c.args.bytes.now c.in-Some.node name c.in-Some.rest.now (32 ∷ rest) c.in-Some.ensures (NameThen-word c.args.bytes.now name rest h) in
    c.in_default-after.ensures rest (grind arith)
