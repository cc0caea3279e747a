use Rattle.line_text.proofs.Prelude.{arith, bool_text}
use Rattle.line_text.proofs.Digits.{word_once, WordThen-from}
use Rattle.line_text.proofs.command.read_flag.Goals as goal

pub returns-in_default-read_bool : goal.returns-in_default-read_bool
returns-in_default-read_bool c v w f e =
    let r = word_once c.args.bytes.now c.in-Some.node v c.in-Some.rest.now (bool_text w) c.in-Some.ensures (WordThen-from c.args.bytes.now v (bool_text w) f e) in
    c.in_default-read_bool.ensures w tt (grind arith)
