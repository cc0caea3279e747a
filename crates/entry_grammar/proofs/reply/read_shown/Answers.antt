use Rattle.entry_grammar.proofs.Replies.{no_shown}
use Rattle.entry_grammar.proofs.reply.read_shown.Goals as goal

pub returns-in_err-refusal : goal.returns-in_err-refusal
returns-in_err-refusal c = rw c.from_residual.ensures (λ q f e. no_shown c.args.bytes.now c.in-Some.words.now c.in-Some.ensures c.in_err-refusal.ensures q f e)
