use Rattle.locked_net.proofs.Prelude.{ap, BoardName, Step, seen_by, book_of, setting_of, each}
use Rattle.locked_net.proofs.ClerkCalls.{called}
use Rattle.locked_net.proofs.ChosenEvents.{keeps_judged, refuses_step, some_workers}
use Rattle.locked_net.proofs.clerk.Clerk.step_with.Goals as goal

pub returns-clause-call : goal.returns-clause-call
returns-clause-call g c =
    let told = c.step-answer in
    called each (book_of c.args.net.now) c.hold-held.result told.new.self c.args.self.now told.new.clerk told.result (ap (λ (n : BoardName). n.book) c.hold-held.ensures.name) told.ensures.call

pub returns-clause-receipt : goal.returns-clause-receipt
returns-clause-receipt g c =
    let told = c.step-answer in
    keeps_judged g.R.Rules.table c.hold-held.result.log told.new.self.log c.args.self.now told.new.clerk.receipts (Step c.args.choice) c.args.workers told.result told.ensures.admitted told.ensures.recorded

pub returns-clause-some : goal.returns-clause-some
returns-clause-some g c = some_workers _ c.args.workers c.step-answer.result c.step-answer.ensures.admitted

pub returns-clause-refused : goal.returns-clause-refused
returns-clause-refused g c =
    refuses_step (setting_of g.R.Rules.table c.args.net.now) (seen_by c.args.self.now) c.args.workers c.hold-held.result.log c.step-answer.result c.hold-held.ensures.own c.step-answer.ensures.admitted
