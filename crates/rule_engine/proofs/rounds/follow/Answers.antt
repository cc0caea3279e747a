use Rattle.rule_engine.proofs.Prelude.{◌∙◌, ap, arith, subst, sym, Some, IsReady, CountsRounds, answers_keep, counting_in, moment, next_counting, ◌<◌, AreLeaversNoted}
use Rattle.rule_engine.proofs.CountedRounds.{count_after, counts_after, counts_to}
use Rattle.rule_engine.proofs.rounds.follow.Goals as goal

pub returns-in-Some : goal.returns-in-Some
returns-in-Some g c m event next is good answers spent ready noted it =
    let laws = g.R.Rules.laws in
    let t = g.R.Rules.table in
    let reply = c.args.reply.now in
    let below : c.args.spent < 4294967296 = omega arith in
    let at_hand = subst (λ o. IsReady reply o) c.in-Some.is ready in
    let left = subst (λ o. AreLeaversNoted reply o c.args.enabled.now c.args.removals.now) c.in-Some.is noted in
    let counted = subst (λ o. CountsRounds t m o) c.in-Some.is it in (
      counts_after t m (moment next c.args.spent) event reply c.in-Some.counter c.follow.new.self
          (answers_keep t laws.table m.state good m.spent event reply next answers) answers spent below at_hand c.follow.ensures.few
          (counts_to t c.args.enabled.now c.args.removals.now m event reply next c.in-Some.counter c.follow.new.self answers is left c.follow.ensures.counted) counted,
      ap (λ n. Some n) (count_after t c.args.enabled.now c.args.removals.now m (moment next c.args.spent) event reply c.in-Some.counter c.follow.new.self answers spent below at_hand is left c.follow.ensures.count counted)
          ∙ sym (ap (λ o. next_counting t reply next (counting_in t m.state o)) c.in-Some.is),
    )
