use Rattle.reply_checker.proofs.Prelude.{rules, of_calls, always_returns_same, ascending_by, is_before}
use Rattle.reply_checker.proofs.steps.are_ascending.Goals as goal

pub returns : goal.returns
returns c = ascending_by c.args.moves.now c.is_sorted_by.result (c.is_sorted_by.ensures.cases is_before (always_returns_same _ _ _ (λ a r f called. search (rules, of_calls))))
