use Rattle.line_text.proofs.Prelude.{arith, number_text}
use Rattle.line_text.proofs.Digits.{word_once, WordThen-from}
use Rattle.line_text.proofs.command.read_pair.Goals as goal

pub returns-in_default-read_last : goal.returns-in_default-read_last
returns-in_default-read_last c v w f e =
    let r = word_once c.args.bytes.now c.in-Some.a v c.in-Some.rest.now (number_text w) c.in-Some.ensures (WordThen-from c.args.bytes.now v (number_text w) f.0 e) in
    c.in_default-read_last.ensures w f.1 (grind arith)
