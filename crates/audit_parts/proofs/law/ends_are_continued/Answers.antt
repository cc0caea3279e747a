use Rattle.audit_parts.proofs.ContinuedRuns.{end_bases_are_accepted}
use Rattle.audit_parts.proofs.law.ends_are_continued.Goals as goal

pub returns-clause-base : goal.returns-clause-base
returns-clause-base c = end_bases_are_accepted
