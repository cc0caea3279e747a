use Rattle.step_log.proofs.Prelude.{◌≡◌, ◌∙◌, ap, refl, sym, subst, last_number, kept_of, JournalView, Some}
use Rattle.rule_engine.specs.PreparedEvents.{NetView}
use Rattle.step_log.proofs.KeptRounds.{counted_here}
use Rattle.step_log.specs.JournalRounds.{IsCountedJournal}
use Rattle.step_log.specs.JournalViews.{kept_at}
use Rattle.step_log.proofs.journal.Journal.count_rounds.Goals as goal

pub invariant_of-self-2 : goal.invariant_of-self-2
invariant_of-self-2 g c =
    let t = g.R.Rules.table in
    let weight = g.R.Rules.NODE_WEIGHT in
    let j = c.self.inside in
    let last : c.len-last.result ≡ last_number (kept_at j.net j.base j.entries.items j.limit j.present) = c.len-last.ensures.number ∙ ap (λ (held : JournalView). last_number (kept_of held)) (sym c.self.view_is) in
    subst (λ (n : NetView). IsCountedJournal t weight (kept_at n j.base j.entries.items j.limit j.present) j.epochs.over.items j.epochs.begun (Some c.len-last.result) n.counting) (sym c.in_ok-count_rounds.ensures.ok)
    (counted_here t weight _ _ _ _ _ c.len-last.result _ last refl c.self.invariant)
