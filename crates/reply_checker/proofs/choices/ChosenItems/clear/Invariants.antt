use Rattle.reply_checker.proofs.Prelude.{◌≡◌, ℕ, None, cond, take, length, ruled_at, is_item_node}
use Rattle.reply_checker.proofs.choices.ChosenItems.clear.Given as goal

abbrev pub invariant-loop-item : goal.invariant-loop-item
invariant-loop-item l = record {
  len : length l.self ≡ length l.fn.self;
  out : (v : ℕ) → ruled_at l.self v ≡ cond (is_item_node (take l.item-index l.items) v) None (ruled_at l.fn.self v);
}
