use Rattle.std.proofs.Common.{arith}
use Rattle.entry_grammar.proofs.TokensOnce.{enabled_words, pair_words, some_enabled, some_pair}
use Rattle.entry_grammar.proofs.reply.read_reply.Goals as goal

pub read_list-requires : goal.read_list-requires
read_list-requires c = (omega arith, (some_enabled, enabled_words))

pub read_list-requires-in-Matching : goal.read_list-requires-in-Matching
read_list-requires-in-Matching c = (omega arith, (some_pair, pair_words))
