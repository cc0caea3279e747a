use Rattle.step_log.proofs.Prelude.{rules, ◌≡◌, length, refl, subst, ◌∙◌, arith, kept_of, receipt_count, entry_count, greatest_base, base_number, AreReceiptMarks}
use Rattle.step_log.proofs.ReceiptMarks.{settles, place_within}
use Rattle.step_log.proofs.settling.settled_with.Goals as goal

pub stranger-requires : goal.stranger-requires
stranger-requires g c =
    let within = place_within c.args.start (kept_of c.args.journal.now) c.args.clerks.now c.loop-clerk.clerk c.in-Some.place c.in-Some.ensures in
    omega (arith, within, c.if-not-has_count.ensures.0 refl, c.count_entries-len.ensures.small)

pub returns-clause-settled : goal.returns-clause-settled
returns-clause-settled g c =
    let kept = kept_of c.args.journal.now in
    let all : c.loop-clerk.clerk ≡ length c.args.clerks.now = omega (arith, c.loop-clerk-test.false, c.loop-clerk.auto.clerk-end) in
    let counted : receipt_count c.args.clerks.now ≡ entry_count c.args.start kept = c.if-not-has_count.ensures.0 refl ∙ c.count_entries-len.ensures.count in
    let based : base_number kept.base ≡ greatest_base c.args.start c.args.clerks.now = search rules in
    settles c.args.start kept c.args.clerks.now c.loop-clerk.taken counted based
    (subst (λ k. AreReceiptMarks c.args.start kept c.args.clerks.now k 0 c.loop-clerk.taken) all c.loop-clerk.invariant)
