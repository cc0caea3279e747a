use Rattle.containment_laws.proofs.AtRest.{rest_is, rest_from, all_rest, rest_is_stable}
use Rattle.containment_laws.proofs.law.stable_is_rest.Goals as goal

pub returns-clause-rests : goal.returns-clause-rests
returns-clause-rests c uses_flags s good stable v = rest_from uses_flags s v (all_rest uses_flags s good stable v)

pub returns-clause-stable : goal.returns-clause-stable
returns-clause-stable c uses_flags s good rests = rest_is_stable uses_flags s good (λ v has. rest_is uses_flags s v good (rests v has))
