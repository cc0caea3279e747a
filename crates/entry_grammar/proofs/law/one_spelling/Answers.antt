use Rattle.entry_grammar.proofs.Entries.{spells_entry_once}
use Rattle.entry_grammar.proofs.Headers.{spells_header_once}
use Rattle.entry_grammar.proofs.BaseLines.{spells_base_line_once}
use Rattle.entry_grammar.proofs.law.one_spelling.Goals as goal

pub returns-clause-entry : goal.returns-clause-entry
returns-clause-entry c = spells_entry_once

pub returns-clause-header : goal.returns-clause-header
returns-clause-header c = spells_header_once

pub returns-clause-base : goal.returns-clause-base
returns-clause-base c = spells_base_line_once
