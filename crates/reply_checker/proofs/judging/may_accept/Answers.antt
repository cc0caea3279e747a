use Rattle.reply_checker.proofs.Prelude.{subst, Does, table_of, followed}
use Rattle.reply_checker.proofs.StepMoves.{no_moves}
use Rattle.reply_checker.proofs.Table.{within_from_all}
use Rattle.reply_checker.specs.ReplyVerdicts.{items_of}
use Rattle.reply_checker.proofs.judging.may_accept.Goals as goal

pub returns-in_default-clause-value : goal.returns-in_default-clause-value
returns-in_default-clause-value c =
    let t = table_of c.args.rules in
    let s = c.args.counted.now.net.state in
    let reply = c.args.reply.now in (
      λ yes. absurd cc,
      λ right. absurd (no_moves t s c.args.spent c.in-Step.choice reply _ c.in_default.not-Moves (subst (λ e. Does t s c.args.spent e reply (followed s e reply)) c.in-Step.is right)),
    )

pub returns-in_default-clause-within : goal.returns-in_default-clause-within
returns-in_default-clause-within c = within_from_all (table_of c.args.rules) c.args.counted.now.net.state c.args.chosen.now (items_of c.args.event.now) c.requires.held
