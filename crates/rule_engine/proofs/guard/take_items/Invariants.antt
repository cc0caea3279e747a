use Rattle.rule_engine.proofs.Prelude.{◌≡◌, take, length, AreMarks, is_named}
use Rattle.rule_engine.proofs.NodeMarks.{AreTaken}
use Rattle.rule_engine.proofs.guard.take_items.Given as goal

abbrev pub invariant-loop-place : goal.invariant-loop-place
invariant-loop-place g l = record {
  taken : AreTaken g.R.Rules.table l.state.state l.items l.place l.gathered.whole l.gathered.moves.items;
  marks : AreMarks (is_named (take l.place l.items)) l.chosen;
  len : length l.chosen ≡ length l.fn.chosen;
}
