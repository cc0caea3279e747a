use Rattle.line_text.proofs.Prelude.{◌≡◌, ◌++◌, length, AllByRecursion, Extends, space_ended}
use Rattle.line_text.proofs.word.put_each.Given as goal

abbrev pub invariant-loop-left : goal.invariant-loop-left
invariant-loop-left g l = record {
  text : l.out.items ++ space_ended g.W.Word.text l.left ≡ l.fn.out.items ++ space_ended g.W.Word.text l.words;
  fit : AllByRecursion g.W.Word.fits l.left → AllByRecursion g.W.Word.fits l.words;
  begun : Extends l.fn.out.items l.out.items;
}

abbrev pub decreases-loop-left : goal.decreases-loop-left
decreases-loop-left g l = length l.left
