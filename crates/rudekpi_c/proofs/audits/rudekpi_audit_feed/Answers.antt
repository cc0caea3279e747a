use Rattle.std.proofs.Common.{◌∙◌, Some, sym, ap}
use Rattle.rudekpi_c.proofs.AuditCalls.{was_fed_piece}
use Rattle.rudekpi_c.proofs.audits.rudekpi_audit_feed.Goals as goal

pub returns : goal.returns
returns c =
    was_fed_piece c.args.piece.now c.deref_mut.result.now c.feed-found.new.self c.status_of.result c.feed-found.result c.args.slot.now.handle.value c.put.new.self.handle.value
    (c.in-Some.ensures.some ∙ ap (λ a. Some a) (sym c.deref_mut.ensures.value)) c.put.ensures c.feed-found.ensures.fed c.feed-found.ensures.told c.feed-found.ensures.for_good c.status_of.ensures
