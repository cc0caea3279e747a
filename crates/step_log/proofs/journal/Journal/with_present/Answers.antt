use Rattle.step_log.proofs.Prelude.{◌≤◌, ◌∙◌, ℕ, None, ap, sym, arith, Moment, beginning_with, RetainedLog, max_entries}
use Rattle.step_log.proofs.KeptRounds.{counted_before}
use Rattle.step_log.proofs.LogGrowth.{fresh_is_journal}
use Rattle.step_log.proofs.journal.Journal.with_present.Goals as goal

pub invariant_of-result : goal.invariant_of-result
invariant_of-result g c =
    let t = g.R.Rules.table in
    let weight = g.R.Rules.NODE_WEIGHT in
    let net = c.in_ok-with_present.field-0 in
    let made = c.in_ok-with_present.ensures in
    let limit = c.min.result in
    let within : limit ≤ max_entries = grind (arith, c.min.ensures) in
    let kept : RetainedLog = record { state = net.state; spent = net.spent; base = None; entries = c.new.result.items; limit = limit; present = c.args.present } in
    let size = ap (λ (m : Moment). m.state.network.size) made.ok in
    let begins = made.ok ∙ ap (λ (n : ℕ). beginning_with n c.args.present) (sym size) in
    let starts = c.new-2.ensures.begun in
    counted_before t weight kept _ _ _ c.new.ensures.items c.new-2.ensures.over starts
    (fresh_is_journal t weight kept _ _ c.new.ensures.items c.new-2.ensures.over starts begins (omega (arith, size, made.small)) (omega arith) within tt)
