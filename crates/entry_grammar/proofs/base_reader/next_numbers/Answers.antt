use Rattle.entry_grammar.proofs.Prelude.{Base}
use Rattle.entry_grammar.proofs.FirstLines.{line_starts, starts_once}
use Rattle.entry_grammar.proofs.base_reader.next_numbers.Goals as goal

pub returns-in_default : goal.returns-in_default
returns-in_default c q more h = c.in_default.ensures (Base q) more (line_starts Base h)

pub returns-in_err-numbers : goal.returns-in_err-numbers
returns-in_err-numbers c = rw c.from_residual.ensures (λ q more h. c.in_err-numbers.ensures q (starts_once c.in-Some.ensures (line_starts Base h)))
