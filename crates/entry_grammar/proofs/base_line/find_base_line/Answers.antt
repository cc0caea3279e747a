use Rattle.entry_grammar.proofs.BaseLines.{no_place, no_base}
use Rattle.entry_grammar.proofs.base_line.find_base_line.Goals as goal

pub returns-in_err-node : goal.returns-in_err-node
returns-in_err-node c = rw c.from_residual.ensures (no_place c.args.line.now c.in-Some.rest.now c.in-Some.ensures c.in_err-node.ensures)

pub returns-in_err-numbers : goal.returns-in_err-numbers
returns-in_err-numbers c = rw c.from_residual-in_err-numbers.ensures (no_base c.args.line.now c.in-Some-after-2.rest.now c.in-Some-after-2.ensures c.in_err-numbers.ensures)
