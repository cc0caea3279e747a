use Rattle.step_log.proofs.Prelude.{◌≡◌, ◌∙◌, ℕ, Some, refl, ap, sym, subst, arith, Base, base_of, BeginsAt, charge_bound, JournalView, kept_of, may_begin_again, RetainedLog, last_number, moment_in}
use Rattle.step_log.proofs.KeptRounds.{counted_again}
use Rattle.step_log.proofs.LogGrowth.{fresh_is_journal}
use Rattle.step_log.proofs.journal.Journal.checkpoint.Goals as goal

pub invariant_of-self : goal.invariant_of-self
invariant_of-self g c =
    let laws = g.R.Rules.laws in
    let t = g.R.Rules.table in
    let weight = g.R.Rules.NODE_WEIGHT in
    let j = c.self.inside in
    let kept : RetainedLog = record { state = j.net.state; spent = j.net.spent; base = j.base; entries = j.entries.items; limit = j.limit; present = j.present } in
    let new : RetainedLog = record kept { base = Some c.in_ok-base.base; entries = c.new-entries.result.items } in
    let k = c.self.invariant.journal.is_kept in
    let number : c.len-number.result ≡ last_number kept = c.len-number.ensures.number ∙ ap (λ (held : JournalView). last_number (kept_of held)) (sym c.self.view_is) in
    let is : c.in_ok-base.base ≡ base_of (last_number kept) (moment_in kept) = c.in_ok-base.ensures.base ∙ ap (λ (n : ℕ). base_of n (moment_in kept)) number in
    let last = ap (λ (b : Base). b.number) is in
    let begins = subst (λ (b : Base). BeginsAt t (charge_bound weight) kept.state.network.size kept.present (Some b) (moment_in kept)) (sym is)
    (may_begin_again t weight laws.table laws.charged laws.no_update kept.state.network.size kept.present (last_number kept) kept.base k.start k.begins kept.entries (moment_in kept) k.run) in
    counted_again t weight kept new _ _ _ _ _ _ c.self.invariant refl c.new-entries.ensures.items last c.new-epochs.ensures.over c.new-epochs.ensures.begun
    (fresh_is_journal t weight new _ _ c.new-entries.ensures.items c.new-epochs.ensures.over c.new-epochs.ensures.begun begins k.size (omega (arith, last, k.room)) k.limit c.in_ok-base.ensures.few)
