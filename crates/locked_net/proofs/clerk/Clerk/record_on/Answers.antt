use Rattle.locked_net.proofs.Prelude.{◌≡◌, ◌∷◌, ◌++◌, [], None, Some, Ok, refl, sym, ap, ◌∙◌, subst, List, Receipt, ClerkView, next_receipt, seen_by, call_fault, RecordsEvent, each, HeldCall}
use Rattle.locked_net.proofs.ReceiptAddition.{front_free, is_clerk_after}
use Rattle.locked_net.proofs.ClerkCalls.{recorded_call}
use Rattle.locked_net.proofs.clerk.Clerk.record_on.Goals as goal

pub invariant_of-self-2 : goal.invariant_of-self-2
invariant_of-self-2 g c =
    let log = c.args.published.now.log in
    let inside = c.self.inside in
    let old : ClerkView = record { receipts = inside.receipts.items; note = inside.note; base = inside.base } in
    let told = c.in_ok-recorded.ensures in
    let free : call_fault (seen_by old) log ≡ None = subst (λ (v : ClerkView). call_fault (seen_by v) log ≡ None) (sym c.self.view_is) c.requires.free in
    is_clerk_after g.R.Rules.table log c.record.new.self.log c.args.event c.in_ok-recorded.recorded.note old.receipts c.record.new.receipts.items (Some c.in_ok-recorded.recorded.note) inside.base c.self.invariant.rise (front_free old log free) told.log told.note.0
    (told.receipt ∙ ap (λ (rs : List Receipt). rs ++ next_receipt g.R.Rules.table log c.args.event ∷ []) c.in_ok-reserve.ensures.items) refl told.note.2

pub returns-clause-call : goal.returns-clause-call
returns-clause-call g c =
    let published = c.args.published.now in
    let inside = c.self.inside in
    let old : ClerkView = record { receipts = inside.receipts.items; note = inside.note; base = inside.base } in
    let new : ClerkView = record { receipts = c.record.new.receipts.items; note = Some c.in_ok-recorded.recorded.note; base = inside.base } in
    let told = c.in_ok-recorded.ensures in
    let free : call_fault (seen_by old) published.log ≡ None = subst (λ (v : ClerkView). call_fault (seen_by v) published.log ≡ None) (sym c.self.view_is) c.requires.free in
    subst (λ (v : ClerkView). HeldCall each published c.record.new.self v new (Ok c.in_ok-recorded.recorded.reply)) c.self.view_is
    (recorded_call g.R.Rules.table published c.record.new.self old new c.args.event c.in_ok-recorded.recorded.reply c.in_ok-recorded.recorded.note told.key free told.log told.note.0 told.note.1
    (told.receipt ∙ ap (λ (rs : List Receipt). rs ++ next_receipt g.R.Rules.table published.log c.args.event ∷ []) c.in_ok-reserve.ensures.items) refl refl)

pub returns-clause-recorded : goal.returns-clause-recorded
returns-clause-recorded g c =
    let told = c.in_ok-recorded.ensures in
    let new = c.record.new.receipts.items in
    subst (λ (v : ClerkView). RecordsEvent g.R.Rules.table c.args.published.now.log c.record.new.self.log v.receipts new c.args.event c.in_ok-recorded.recorded.reply) c.self.view_is
    (record {
      log = told.log;
      receipt = told.receipt ∙ ap (λ (rs : List Receipt). rs ++ next_receipt g.R.Rules.table c.args.published.now.log c.args.event ∷ []) c.in_ok-reserve.ensures.items;
      reply_is = told.reply;
    })
