use Rattle.line_text.proofs.Prelude.{arith, target_text}
use Rattle.line_text.proofs.Digits.{word_once, WordThen-from}
use Rattle.line_text.proofs.command.read_point.Goals as goal

pub returns-in_default-read_target : goal.returns-in_default-read_target
returns-in_default-read_target c v w f e =
    let r = word_once c.args.bytes.now c.in-Some.node v c.in-Some.rest.now (target_text w) c.in-Some.ensures (WordThen-from c.args.bytes.now v (target_text w) f.0 e) in
    c.in_default-read_target.ensures w f.1 (grind arith)
