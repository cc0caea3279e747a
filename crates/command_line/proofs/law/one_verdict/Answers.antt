use Rattle.command_line.proofs.OneVerdict.{verdict_once}
use Rattle.command_line.proofs.law.one_verdict.Goals as goal

pub returns : goal.returns
returns c = verdict_once
