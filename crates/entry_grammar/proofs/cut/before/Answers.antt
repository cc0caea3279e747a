use Rattle.entry_grammar.proofs.Prelude.{strip_suffix_is, Decides-eqb}
use Rattle.entry_grammar.proofs.cut.before.Goals as goal

pub returns : goal.returns
returns c = strip_suffix_is Decides-eqb c.args.bytes.now c.args.back.now c.strip_suffix.result c.strip_suffix.ensures.cases
