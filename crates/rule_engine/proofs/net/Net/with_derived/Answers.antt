use Rattle.rule_engine.proofs.Prelude.{◌+◌, ◌∙◌, ap, false, length, length-replicate}
use Rattle.rule_engine.proofs.net.Net.with_derived.Goals as goal

pub invariant_of-result : goal.invariant_of-result
invariant_of-result g c = (
  record { budget = c.requires.budget; counts = tt },
  (c.requires.derived, ap length c.in_ok-chosen.ensures ∙ length-replicate (c.capacity.result + 1) false ∙ ap (λ n. n + 1) c.capacity.ensures.size),
)
