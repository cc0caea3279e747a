use Rattle.reply_checker.proofs.Prelude.{◌∙◌, calls_by}
use Rattle.reply_checker.proofs.EnabledNodes.{any_in_first, any_in_last}
use Rattle.reply_checker.proofs.callers.caller_from.Goals as goal

pub returns-in-Some-clause-some : goal.returns-in-Some-clause-some
returns-in-Some-clause-some c = any_in_last (calls_by c.args.rules c.args.net.now.state c.args.v) c.args.start c.args.row.now c.in-Some.ensures.some

pub returns-in-None-clause-some : goal.returns-in-None-clause-some
returns-in-None-clause-some c =
    c.first_caller-in-None.ensures.some ∙ any_in_first (calls_by c.args.rules c.args.net.now.state c.args.v) c.args.start c.args.row.now c.in-None.ensures.some
