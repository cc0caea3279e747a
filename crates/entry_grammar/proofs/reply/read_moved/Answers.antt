use Rattle.std.proofs.Common.{arith}
use Rattle.entry_grammar.proofs.Replies.{no_moved}
use Rattle.entry_grammar.proofs.TokensOnce.{move_words}
use Rattle.entry_grammar.proofs.reply.read_moved.Goals as goal

pub returns-in_default-read_refusal : goal.returns-in_default-read_refusal
returns-in_default-read_refusal c q f e = no_moved c.args.bytes.now c.in-Some.words.now c.in-Some.ensures c.in_default-read_refusal.ensures q f e

pub read_words-requires : goal.read_words-requires
read_words-requires c = (omega arith, move_words)
