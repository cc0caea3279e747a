use Rattle.std.proofs.Common.{◌≡◌, length, arith}
use Rattle.entry_grammar.proofs.JoinedWords.{none_empty}
use Rattle.entry_grammar.proofs.token.read_list.Goals as goal

pub returns-then-is_empty : goal.returns-then-is_empty
returns-then-is_empty g c =
    let none : length c.args.bytes.now ≡ 0 = grind arith in
    none_empty g.W.Token.text g.W.Token.fits c.requires.some c.args.bytes.now none
