use Rattle.script_text.proofs.Lengths.{long_says_nothing}
use Rattle.script_text.proofs.law.long_line.Goals as goal

pub returns : goal.returns
returns c = long_says_nothing
