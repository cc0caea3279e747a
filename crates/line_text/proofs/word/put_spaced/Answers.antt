use Rattle.line_text.proofs.TextGrowth.{left_spaced}
use Rattle.line_text.proofs.word.put_spaced.Goals as goal

pub returns-clause-ok : goal.returns-clause-ok
returns-clause-ok g c =
    left_spaced g.W.Word.text c.args.words.now c.args.out.now.items c.push.new.self.items c.put_each.new.out.items c.pop.new.self.items _ c.in_ok-push.ensures.items c.in_ok-put_each.ensures.ok c.put_each.new.out.ok.0 c.pop.ensures.rest
