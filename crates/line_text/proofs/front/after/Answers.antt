use Rattle.line_text.proofs.Prelude.{strip_prefix_is, Decides-eqb}
use Rattle.line_text.proofs.front.after.Goals as goal

pub returns : goal.returns
returns c = strip_prefix_is Decides-eqb c.args.bytes.now c.args.front.now c.strip_prefix.result c.strip_prefix.ensures.cases
