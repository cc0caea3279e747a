use Rattle.locked_net.proofs.Prelude.{ap, BoardName, seen_by, book_of, setting_of, each}
use Rattle.locked_net.proofs.ClerkCalls.{called}
use Rattle.locked_net.proofs.ChosenEvents.{keeps_call, refuses}
use Rattle.locked_net.proofs.clerk.Clerk.call.Goals as goal

pub returns-clause-call : goal.returns-clause-call
returns-clause-call g c =
    let told = c.call-answer in
    called each (book_of c.args.net.now) c.hold-held.result told.new.self c.args.self.now told.new.clerk told.result (ap (λ (n : BoardName). n.book) c.hold-held.ensures.name) told.ensures.call

pub returns-clause-receipt : goal.returns-clause-receipt
returns-clause-receipt g c =
    let told = c.call-answer in
    keeps_call g.R.Rules.table c.hold-held.result.log told.new.self.log c.args.self.now told.new.clerk.receipts c.args.event told.result told.ensures.admitted told.ensures.recorded

pub returns-clause-refused : goal.returns-clause-refused
returns-clause-refused g c =
    refuses (setting_of g.R.Rules.table c.args.net.now) (seen_by c.args.self.now) c.hold-held.result.log c.call-answer.result c.hold-held.ensures.own c.call-answer.ensures.admitted
