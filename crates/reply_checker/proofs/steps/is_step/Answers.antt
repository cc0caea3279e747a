use Rattle.reply_checker.proofs.Prelude.{sym, ◌∙◌, table_of, step_from_tests, tests_from_step}
use Rattle.reply_checker.proofs.Table.{within_from_all}
use Rattle.reply_checker.proofs.steps.is_step.Goals as goal

pub returns-then-are_ascending-clause-value : goal.returns-then-are_ascending-clause-value
returns-then-are_ascending-clause-value c =
    let t = table_of c.args.rules in
    let s = c.args.net.now.state in
    let items = c.args.items.now in
    let moves = c.args.moves.now in (
      λ e. step_from_tests t s items moves (c.are_ascending.ensures.0 c.if-are_ascending.true) (sym c.are_of_items.ensures.value ∙ e),
      λ step. c.are_of_items.ensures.value ∙ tests_from_step t s items moves _ step,
    )

pub returns-else-are_ascending-clause-within : goal.returns-else-are_ascending-clause-within
returns-else-are_ascending-clause-within c = within_from_all (table_of c.args.rules) c.args.net.now.state c.args.chosen.now c.args.items.now c.requires.held
