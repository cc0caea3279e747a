use Rattle.std.proofs.Common.{◌≡◌, List, [], ◌∷◌, ◌++◌, sym, subst, arith}
use Rattle.entry_grammar.proofs.JoinedWords.{SoFar, SoFar-more}
use Rattle.entry_grammar.proofs.token.read_many.Goals as goal

pub loop-word-preserved : goal.loop-word-preserved
loop-word-preserved g c =
    let next : c.in-Some.behind_word.now ≡ 32 ∷ c.in-Some-behind.next.now = grind arith in
    let items : c.push.new.self.items ≡ c.loop-word.words.items ++ c.in-Some.word ∷ [] = grind (arith, c.in_ok-push.ensures.items) in
    subst (λ (ws : List g.row.W.Denot). SoFar g.W.Token.text g.W.Token.fits c.args.bytes.now ws c.in-Some-behind.next.now) (sym items) (SoFar-more c.requires.read_back c.loop-word.invariant c.in-Some.ensures next)
