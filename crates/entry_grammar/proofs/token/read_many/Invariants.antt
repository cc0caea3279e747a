use Rattle.std.proofs.Common.{length}
use Rattle.entry_grammar.proofs.JoinedWords.{SoFar}
use Rattle.entry_grammar.proofs.token.read_many.Given as goal

abbrev pub invariant-loop-word : goal.invariant-loop-word
invariant-loop-word g l = SoFar g.W.Token.text g.W.Token.fits l.bytes l.words.items l.rest

abbrev pub decreases-loop-word : goal.decreases-loop-word
decreases-loop-word g l = length l.rest
