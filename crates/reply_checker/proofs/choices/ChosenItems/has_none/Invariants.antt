use Rattle.reply_checker.proofs.Prelude.{◌≡◌, true, take, is_none, list_all, ruled_at}
use Rattle.reply_checker.proofs.choices.ChosenItems.has_none.Given as goal

abbrev pub invariant-loop-item : goal.invariant-loop-item
invariant-loop-item l = list_all (λ i. is_none (ruled_at l.self i.node)) (take l.item-index l.items) ≡ true
