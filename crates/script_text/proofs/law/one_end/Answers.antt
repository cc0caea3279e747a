use Rattle.script_text.proofs.Once.{says_once, lines_once}
use Rattle.script_text.proofs.law.one_end.Goals as goal

pub returns-clause-command : goal.returns-clause-command
returns-clause-command c = says_once

pub returns-clause-run : goal.returns-clause-run
returns-clause-run c = lines_once
