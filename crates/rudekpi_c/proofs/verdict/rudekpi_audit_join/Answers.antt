use Rattle.std.proofs.Common.{inl, refl}
use Rattle.rudekpi_c.proofs.JoinedVerdicts.{was_joined}
use Rattle.rudekpi_c.proofs.verdict.rudekpi_audit_join.Goals as goal

pub returns : goal.returns
returns c =
    inl (refl, was_joined c.args.lines c.args.verdict.now c.args.next.now c.verdict_of.result c.in-Some.value c.in-Some-found_in.value c.in-Some-join.value (c.in-Some.ensures.0, c.in-Some-found_in.ensures.0) c.in-Some.ensures.1 c.in-Some-found_in.ensures.1 c.verdict_of.ensures c.in-Some-join.ensures.joined c.in-Some-join.ensures.judged c.in-Some-join.ensures.continued)
