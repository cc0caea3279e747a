use Rattle.reply_checker.proofs.Prelude.{◌≡◌, [], take, drop, length, table_of, HasChosenItems}
use Rattle.rule_machine.specs.Refuse as refuse
use Rattle.reply_checker.proofs.steps.items_refusal.Given as goal

abbrev pub invariant-loop-item : goal.invariant-loop-item
invariant-loop-item l = record {
  same : refuse.items_refusal (table_of l.rules) l.net.state (take l.item-index l.items) (drop l.item-index l.items) ≡ refuse.items_refusal (table_of l.rules) l.net.state [] l.items;
  held : HasChosenItems (table_of l.rules) l.net.state l.chosen (take l.item-index l.items);
  len : length l.chosen ≡ length l.fn.chosen;
}
