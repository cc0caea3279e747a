use Rattle.locked_net.proofs.Prelude.{ap, BoardName, seen_by, book_of, setting_of, some_of}
use Rattle.locked_net.proofs.ClerkCalls.{called}
use Rattle.locked_net.proofs.ChosenEvents.{keeps_step, refuses, takes}
use Rattle.locked_net.specs.ChosenEvents.{ByDaemon}
use Rattle.locked_net.proofs.clerk.Clerk.drive_with.Goals as goal

pub returns-clause-call : goal.returns-clause-call
returns-clause-call g c =
    let told = c.drive-answer in
    called some_of (book_of c.args.net.now) c.hold-held.result told.new.self c.args.self.now told.new.clerk told.result (ap (λ (n : BoardName). n.book) c.hold-held.ensures.name) told.ensures.call

pub returns-clause-step : goal.returns-clause-step
returns-clause-step g c =
    let told = c.drive-answer in
    keeps_step g.R.Rules.table c.hold-held.result.log told.new.self.log c.args.self.now told.new.clerk _ told.result told.ensures.admitted told.ensures.step

pub returns-clause-chosen : goal.returns-clause-chosen
returns-clause-chosen g c =
    let told = c.drive-answer in
    takes (setting_of g.R.Rules.table c.args.net.now) (λ _. ByDaemon g.D.Daemon.chooses g.R.Rules.table c.args.daemon.now told.new.daemon) c.hold-held.result told.new.self c.args.self.now told.new.clerk told.result c.hold-held.ensures.own told.ensures.admitted told.ensures.chosen told.ensures.call

pub returns-clause-refused : goal.returns-clause-refused
returns-clause-refused g c =
    refuses (setting_of g.R.Rules.table c.args.net.now) (seen_by c.args.self.now) c.hold-held.result.log c.drive-answer.result c.hold-held.ensures.own c.drive-answer.ensures.admitted
