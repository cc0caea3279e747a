use Rattle.std.proofs.Common.{take, arith}
use Rattle.byte_streams.proofs.FirstLines.{first_line-none, first_line-then, line_found, line_whole}
use Rattle.byte_streams.proofs.lines.split_line.Goals as goal

pub returns-in_default-clause-line : goal.returns-in_default-clause-line
returns-in_default-clause-line c = line_whole c.args.bytes.now (λ j below. c.in_default.ensures j (omega arith) below)

pub returns-in_default-clause-first : goal.returns-in_default-clause-first
returns-in_default-clause-first c = first_line-none c.args.bytes.now (line_whole c.args.bytes.now (λ j below. c.in_default.ensures j (omega arith) below))

pub returns-clause-line : goal.returns-clause-line
returns-clause-line c = line_found c.args.bytes.now c.in-Some.len c.in-Some.ensures

pub returns-clause-first : goal.returns-clause-first
returns-clause-first c = first_line-then c.args.bytes.now (take c.in-Some.len c.args.bytes.now) _ (line_found c.args.bytes.now c.in-Some.len c.in-Some.ensures)
