use Rattle.line_text.proofs.Prelude.{◌≡◌, ◌++◌, ◌+◌, ◌*◌, ◌≤◌, take, AllByRecursion, space_ended}
use Rattle.line_text.proofs.word.put_words.Given as goal

abbrev pub invariant-loop-word : goal.invariant-loop-word
invariant-loop-word g l = record {
  text : take l.end l.room ≡ take l.at l.fn.room ++ space_ended g.W.Word.text (take l.word-index l.words);
  within : l.end ≤ l.at + 24 * l.word-index;
  fit : AllByRecursion g.W.Word.fits (take l.word-index l.words);
}
