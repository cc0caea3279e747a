use Rattle.audit_parts.proofs.ContinuedRuns.{continued_judged}
use Rattle.audit_parts.proofs.PartLaws.{joined_judged}
use Rattle.audit_parts.proofs.verdicts.join.Goals as goal

pub returns-clause-judged : goal.returns-clause-judged
returns-clause-judged c = joined_judged c.args.first c.args.second c.args.lines c.join_numbers.result c.join_numbers.ensures.joined

pub returns-clause-continued : goal.returns-clause-continued
returns-clause-continued c = continued_judged c.args.first c.args.second c.args.lines c.join_numbers.result c.join_numbers.ensures.joined
