use Rattle.step_log.proofs.Prelude.{◌≡◌, length, refl, ap, subst, arith, slice_get_read, kept_of, IsEntryAbove, AreReceiptMarks}
use Rattle.step_log.proofs.ReceiptMarks.{standing, place_more_from, clerk_more, stranger_found_from}
use Rattle.step_log.proofs.settling.first_stranger.Goals as goal

pub returns-then-taken-number : goal.returns-then-taken-number
returns-then-taken-number g c =
    let here = standing c.args.clerks.now c.args.clerk c.loop-place.place c.index-clerks-clerk.result c.list-receipt-items.result.now c.receipt-item.result c.requires.inside c.index-clerks-clerk.is c.list-receipt-items.ensures.receipts c.loop-place-test.true c.receipt-item.is in
    stranger_found_from c.args.start (kept_of c.args.journal.now) c.args.clerks.now c.args.clerk c.loop-place.place c.loop-place.taken c.receipt-item.result c.number_or_zero-first.result c.number_or_zero-first.ensures c.loop-place.invariant here c.if-taken-number.true

pub bounds-taken-number-in-loop-place : goal.bounds-taken-number-in-loop-place
bounds-taken-number-in-loop-place g c =
    let entry : IsEntryAbove c.args.start (kept_of c.args.journal.now) c.receipt-item.result = c.if-not-is_entry.ensures.0 refl in
    omega (arith, entry.numbered, entry.within, c.number_or_zero-first.ensures, c.loop-place.invariant.size)

pub loop-place-preserved : goal.loop-place-preserved
loop-place-preserved g c =
    let here = standing c.args.clerks.now c.args.clerk c.loop-place.place c.index-clerks-clerk.result c.list-receipt-items.result.now c.receipt-item.result c.requires.inside c.index-clerks-clerk.is c.list-receipt-items.ensures.receipts c.loop-place-test.true c.receipt-item.is in
    place_more_from c.args.start (kept_of c.args.journal.now) c.args.clerks.now c.args.clerk c.loop-place.place c.loop-place.taken c.receipt-item.result c.number_or_zero-first.result c.number_or_zero-first.ensures c.loop-place.invariant here (c.if-not-is_entry.ensures.0 refl) c.if-taken-number.false

pub returns : goal.returns
returns g c =
    let of_clerk = slice_get_read c.args.clerks.now (length c.args.clerks.now) c.args.clerk c.index-clerks-clerk.result refl c.requires.inside c.index-clerks-clerk.is in
    let same : length c.list-receipt-items.result.now ≡ length c.index-clerks-clerk.result.receipts = ap length c.list-receipt-items.ensures.receipts in
    let all : c.loop-place.place ≡ length c.index-clerks-clerk.result.receipts = omega (arith, same, c.loop-place-test.false, c.loop-place.auto.place-end) in
    clerk_more c.args.start (kept_of c.args.journal.now) c.args.clerks.now c.args.clerk c.index-clerks-clerk.result c.loop-place.taken of_clerk c.list-receipt-items.ensures.rise
    (subst (λ place. AreReceiptMarks c.args.start (kept_of c.args.journal.now) c.args.clerks.now c.args.clerk place c.loop-place.taken) all c.loop-place.invariant)
