use Rattle.entry_grammar.proofs.FirstLines.{no_start, bad_start, a_start}
use Rattle.entry_grammar.proofs.base_reader.next_line.Goals as goal

pub returns-in_err-text : goal.returns-in_err-text
returns-in_err-text c = rw c.from_residual.ensures (no_start c.args.bytes.now c.in_err-text.ensures.line)

pub returns-in-Ok : goal.returns-in-Ok
returns-in-Ok c = a_start c.args.bytes.now c.in_ok-text.text.now c.in_ok-text.rest.now c.in-Ok.line c.in_ok-text.ensures.line c.in-Ok.ensures.ok

pub returns-in-Err : goal.returns-in-Err
returns-in-Err c = bad_start c.args.bytes.now c.in_ok-text.text.now c.in_ok-text.rest.now c.in_ok-text.ensures.line c.in-Err.ensures.not_a_line.1
