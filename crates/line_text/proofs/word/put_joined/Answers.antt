use Rattle.std.proofs.Common.{◌<◌, length, arith}
use Rattle.line_text.proofs.TextGrowth.{left_joined}
use Rattle.line_text.proofs.word.put_joined.Goals as goal

pub returns-clause-ok : goal.returns-clause-ok
returns-clause-ok g c =
    let some : 0 < length c.args.words.now = grind arith in
    left_joined g.W.Word.text c.args.words.now c.args.out.now.items c.put_each.new.out.items c.pop.new.self.items _ some c.in_ok-put_each.ensures.ok c.put_each.new.out.ok.0 c.pop.ensures.rest
