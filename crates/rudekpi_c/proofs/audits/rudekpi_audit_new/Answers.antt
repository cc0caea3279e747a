use Rattle.std.proofs.Common.{◌∙◌, Some, inl, refl, ap}
use Rattle.rudekpi_c.proofs.audits.rudekpi_audit_new.Goals as goal

pub returns : goal.returns
returns c = inl (refl, record { audit = c.new.result; is = c.put.ensures ∙ ap (λ a. Some a) c.in-Ok.ensures.ok; fed = c.new.ensures.fed; found = c.new.ensures.well })
