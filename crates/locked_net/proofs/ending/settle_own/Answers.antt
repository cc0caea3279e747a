use Rattle.locked_net.proofs.Prelude.{refl, sym, subst, JournalView, kept_of, IsPartNoted, book_of, setting_of}
use Rattle.locked_net.proofs.ClerkNotes.{part_noted, holds_at_ok, holds_at_err}
use Rattle.locked_net.proofs.ending.settle_own.Goals as goal

pub returns-clause-noted : goal.returns-clause-noted
returns-clause-noted g c =
    let journal = c.into_noted-journal.result.0 in
    let begin = rw c.deref.ensures.value at (c.if-not-all_begin.ensures.yes refl) in
    let own = part_noted (setting_of g.R.Rules.table c.args.net) (book_of c.args.net) (kept_of journal) c.into_noted-journal.result.1 c.args.clerks.items c.into_noted-journal.ensures.published begin in
    holds_at_ok (λ (h : JournalView). IsPartNoted (setting_of g.R.Rules.table c.args.net) (kept_of h) c.args.clerks.items) journal c.settle_clerks.result own c.settle_clerks.ensures.same

pub returns-clause-back_noted : goal.returns-clause-back_noted
returns-clause-back_noted g c =
    let journal = c.into_noted-journal.result.0 in
    let begin = rw c.deref.ensures.value at (c.if-not-all_begin.ensures.yes refl) in
    let own = part_noted (setting_of g.R.Rules.table c.args.net) (book_of c.args.net) (kept_of journal) c.into_noted-journal.result.1 c.args.clerks.items c.into_noted-journal.ensures.published begin in
    holds_at_err c.settle_clerks.result c.settle_clerks.ensures.back c.settle_clerks.ensures.back (λ unsettled same _ why. rw same own)
