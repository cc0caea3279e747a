use Rattle.entry_grammar.proofs.BaseOnce.{base_once, breaks_once, base_unbroken}
use Rattle.entry_grammar.proofs.law.one_base.Goals as goal

pub returns-clause-base : goal.returns-clause-base
returns-clause-base c = base_once

pub returns-clause-line : goal.returns-clause-line
returns-clause-line c = breaks_once

pub returns-clause-whole : goal.returns-clause-whole
returns-clause-whole c = base_unbroken
