use Rattle.reply_checker.proofs.Prelude.{◌≡◌, ℕ, None, cond, take, length, ruled_at, is_mover}
use Rattle.reply_checker.proofs.choices.ChosenItems.take_movers.Given as goal

abbrev pub invariant-loop-made : goal.invariant-loop-made
invariant-loop-made l = record {
  len : length l.self ≡ length l.fn.self;
  out : (v : ℕ) → ruled_at l.self v ≡ cond (is_mover (take l.made-index l.moves) v) None (ruled_at l.fn.self v);
}
