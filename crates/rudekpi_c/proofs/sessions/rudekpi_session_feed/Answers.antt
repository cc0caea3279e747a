use Rattle.std.proofs.Common.{◌∙◌, ◌+◌, ◌-◌, ◌^◌, Some, sym, ap, subst}
use Rattle.std.specs.Prelude.{min}
use Rattle.rudekpi_c.specs.declared.session.Session.{Session}
use Rattle.rudekpi_c.specs.Slot.{IsPutBack}
use Rattle.rudekpi_c.proofs.LineCalls.{was_fed}
use Rattle.rudekpi_c.proofs.sessions.rudekpi_session_feed.Goals as goal

pub returns : goal.returns
returns c =
    let did = c.feed-done.ensures in
    let same = sym c.deref_mut.ensures.value in
    let number = c.saturating_add-line_number in
    let back = subst (λ (s : Session). IsPutBack (record s { lines = number.result }) c.put_back.new.self.handle.value) c.deref_mut-2.ensures.value c.put_back.ensures in
    was_fed c.feed-done.result c.deref_mut.result.now c.feed-done.new.self (c.in-Some.ensures.some ∙ ap (λ (s : Session). Some s) same)
    (number.ensures ∙ ap (λ (s : Session). min (s.lines + 1) (2 ^ 64 - 1)) (c.deref.ensures ∙ same)) did.ends did.silent did.same back c.status_of.ensures
