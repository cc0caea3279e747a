use Rattle.step_log.proofs.Prelude.{◌≤◌, ◌∙◌, ℕ, Some, ap, refl, sym, subst, arith, max_entries, Base, Moment, RetainedLog, base_of}
use Rattle.rule_machine.specs.Network.{Network}
use Rattle.rule_engine.specs.EventReplies.{IsWithinBudget}
use Rattle.rule_engine.specs.PreparedEvents.{NetView}
use Rattle.step_log.proofs.KeptRounds.{counted_before}
use Rattle.step_log.proofs.LogGrowth.{fresh_is_journal}
use Rattle.step_log.proofs.journal.Journal.of_net.Goals as goal

pub invariant_of-result : goal.invariant_of-result
invariant_of-result g c =
    let t = g.R.Rules.table in
    let weight = g.R.Rules.NODE_WEIGHT in
    let limit = c.max.result in
    let there : Moment = record { state = c.args.net.state; spent = c.args.net.spent } in
    let kept : RetainedLog = record { state = there.state; spent = there.spent; base = Some c.in_ok-base.base; entries = c.new.result.items; limit = limit; present = c.nodes-present.result } in
    let within : limit ≤ max_entries = grind (arith, c.max.ensures, c.min.ensures, c.requires) in
    let names = c.capacity.ensures.size ∙ ap (λ (n : Network). n.size) c.store-2.ensures.network in
    let made = c.in_ok-base.ensures.base in
    let number = ap (λ (b : Base). b.number) made in
    let room : c.in_ok-base.base.number ≤ limit = grind (arith, number, c.max.ensures) in
    let budget = subst (λ (n : NetView). IsWithinBudget t weight (record { state = n.state; spent = n.spent })) c.net.view_is c.net.invariant.0.budget in
    let lines = made ∙ ap (λ (n : ℕ). base_of n there) (sym number) in
    counted_before t weight kept _ _ _ c.new.ensures.items c.new-2.ensures.over c.new-2.ensures.begun
    (fresh_is_journal t weight kept _ _ c.new.ensures.items c.new-2.ensures.over c.new-2.ensures.begun
    (record { is_state = budget.is_state; size_is = refl; lines = lines; unflagged = budget.unflagged; within = budget.within }) (omega (arith, names, c.capacity.ensures.few)) room within c.in_ok-base.ensures.few)
