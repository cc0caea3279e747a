use Rattle.entry_grammar.proofs.CountsOnce.{field_reads}
use Rattle.entry_grammar.proofs.counts.read_field.Goals as goal

pub returns : goal.returns
returns c = field_reads c.args.bytes.now c.args.name.now c.in_ok-digits.digits.now c.read_up_to.result c.in_ok-digits.ensures c.read_up_to.ensures
