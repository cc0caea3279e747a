use Rattle.locked_net.proofs.Prelude.{ap, IsNone, ◌≡◌, ◌↔◌, node_count, BoardName, seen_by, book_of, setting_of, some_of}
use Rattle.locked_net.proofs.ClerkCalls.{called}
use Rattle.locked_net.proofs.ChosenEvents.{finds_none, keeps_fault, refuses, takes}
use Rattle.locked_net.specs.ChosenEvents.{ByInjector}
use Rattle.locked_net.proofs.clerk.Clerk.fault_with.Goals as goal

pub returns-clause-call : goal.returns-clause-call
returns-clause-call g c =
    let told = c.fault-answer in
    called some_of (book_of c.args.net.now) c.hold-held.result told.new.self c.args.self.now told.new.clerk told.result (ap (λ (n : BoardName). n.book) c.hold-held.ensures.name) told.ensures.call

pub returns-clause-register : goal.returns-clause-register
returns-clause-register g c =
    let told = c.fault-answer in
    keeps_fault g.R.Rules.table c.hold-held.result.log told.new.self.log c.args.self.now told.new.clerk _ told.result told.ensures.admitted told.ensures.register

pub returns-clause-drawn : goal.returns-clause-drawn
returns-clause-drawn g c =
    let told = c.fault-answer in
    takes (setting_of g.R.Rules.table c.args.net.now) (λ _. ByInjector g.G.Rng.stream g.R.Rules.table c.args.injector.now told.new.injector) c.hold-held.result told.new.self c.args.self.now told.new.clerk told.result c.hold-held.ensures.own told.ensures.admitted told.ensures.drawn told.ensures.call

pub returns-clause-none : goal.returns-clause-none
returns-clause-none g c =
    let told = c.fault-answer in
    takes (setting_of g.R.Rules.table c.args.net.now) (λ answer s _. IsNone answer ↔ (node_count s.network ≡ 0)) c.hold-held.result told.new.self c.args.self.now told.new.clerk told.result c.hold-held.ensures.own told.ensures.admitted
    (finds_none g.R.Rules.table c.hold-held.result.log _ c.args.self.now.receipts told.new.clerk.receipts told.result told.ensures.drawn told.ensures.none) told.ensures.call

pub returns-clause-refused : goal.returns-clause-refused
returns-clause-refused g c =
    refuses (setting_of g.R.Rules.table c.args.net.now) (seen_by c.args.self.now) c.hold-held.result.log c.fault-answer.result c.hold-held.ensures.own c.fault-answer.ensures.admitted
