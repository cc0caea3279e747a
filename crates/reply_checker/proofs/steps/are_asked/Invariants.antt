use Rattle.reply_checker.proofs.Prelude.{◌≡◌, true, take, list_all, table_of, item_at, is_move_by}
use Rattle.reply_checker.proofs.steps.are_asked.Given as goal

abbrev pub invariant-loop-made : goal.invariant-loop-made
invariant-loop-made l = list_all (λ m. is_move_by (table_of l.rules) l.net.state (item_at l.chosen m.node) m) (take l.made-index l.moves) ≡ true
