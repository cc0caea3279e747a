use Rattle.locked_net.proofs.Prelude.{◌≡◌, ◌+◌, length, ap, ◌∙◌, IsTrue, present, pointer, partner_in, dropped, BoardName, ReaderView}
use Rattle.locked_net.proofs.BoardReads.{looked, shown_by, absent, shows}
use Rattle.locked_net.proofs.board_reader.BoardReader.look.Goals as goal

pub returns-in_default-found-clause-run : goal.returns-in_default-found-clause-run
returns-in_default-found-clause-run g c =
    let some = c.in-Some.ensures in
    let look = looked g.R.Rules.table _ c.args.self.now c.look.new.self.name c.place.result c.args.v c.look.new.self.list c.in-Some.field-0.found c.self.view_is some.kept.1 c.place.ensures.same some.law some.found in
    shows g.R.Rules.table c.args.self.now.name.extent c.look.new.self.list (λ _. Unit {0}) look.run (λ _ _. tt)

pub returns-in_default-found-clause-unknown : goal.returns-in_default-found-clause-unknown
returns-in_default-found-clause-unknown g c =
    let some = c.in-Some.ensures in
    absent g.R.Rules.table c.args.self.now.name.extent c.args.v c.look.new.self.list c.in-Some.field-0.found
    (looked g.R.Rules.table _ c.args.self.now c.look.new.self.name c.place.result c.args.v c.look.new.self.list c.in-Some.field-0.found c.self.view_is some.kept.1 c.place.ensures.same some.law some.found) c.in_default-found.not-Some

pub returns-clause-run : goal.returns-clause-run
returns-clause-run g c =
    let some = c.in-Some.ensures in
    let look = looked g.R.Rules.table _ c.args.self.now c.look.new.self.name c.place.result c.args.v c.look.new.self.list c.in-Some.field-0.found c.self.view_is some.kept.1 c.place.ensures.same some.law some.found in
    shows g.R.Rules.table c.args.self.now.name.extent c.look.new.self.list (λ _. Unit {0}) look.run (λ _ _. tt)

pub returns-clause-present : goal.returns-clause-present
returns-clause-present g c =
    let some = c.in-Some.ensures in
    shown_by g.R.Rules.table _ c.args.self.now c.look.new.self.name c.place.result c.args.v c.look.new.self.list c.in-Some.field-0.found c.in-Some-found.registers (λ s. IsTrue (present s.network c.args.v)) c.self.view_is some.kept.1 c.place.ensures.same c.place.ensures.named.0 some.law some.found c.in-Some-found.is (λ s is. is.present_is)

pub returns-clause-pointer : goal.returns-clause-pointer
returns-clause-pointer g c =
    let some = c.in-Some.ensures in
    shown_by g.R.Rules.table _ c.args.self.now c.look.new.self.name c.place.result c.args.v c.look.new.self.list c.in-Some.field-0.found c.in-Some-found.registers (λ s. c.in-Some-found.registers.0 ≡ pointer s c.args.v) c.self.view_is some.kept.1 c.place.ensures.same c.place.ensures.named.0 some.law some.found c.in-Some-found.is (λ s is. is.pointer_is)

pub returns-clause-partner : goal.returns-clause-partner
returns-clause-partner g c =
    let some = c.in-Some.ensures in
    shown_by g.R.Rules.table _ c.args.self.now c.look.new.self.name c.place.result c.args.v c.look.new.self.list c.in-Some.field-0.found c.in-Some-found.registers (λ s. c.in-Some-found.registers.1 ≡ partner_in s.registers.pointers c.args.v) c.self.view_is some.kept.1 c.place.ensures.same c.place.ensures.named.0 some.law some.found c.in-Some-found.is (λ s is. is.partner_is)

pub returns-clause-front : goal.returns-clause-front
returns-clause-front g c =
    let some = c.in-Some.ensures in
    some.front ∙ ap (λ (n : BoardName). dropped n.extent.base + length c.look.new.self.list) (some.kept.1 ∙ ap (λ (r : ReaderView). r.name) c.self.view_is)

pub returns-in_default-found-clause-unknown_front : goal.returns-in_default-found-clause-unknown_front
returns-in_default-found-clause-unknown_front g c =
    let some = c.in-Some.ensures in
    some.front ∙ ap (λ (n : BoardName). dropped n.extent.base + length c.look.new.self.list) (some.kept.1 ∙ ap (λ (r : ReaderView). r.name) c.self.view_is)
