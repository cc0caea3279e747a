use Rattle.locked_net.proofs.Prelude.{◌≡◌, ◌+◌, length, dropped, ap, ◌∙◌, subst, IsRun, BoardName, ReaderView}
use Rattle.locked_net.proofs.BoardReads.{shows}
use Rattle.locked_net.proofs.board_reader.BoardReader.front.Goals as goal

pub returns-clause-found : goal.returns-clause-found
returns-clause-found g c =
    let t = g.R.Rules.table in
    let list = c.front.new.self.list in
    let same : c.front.new.self.name ≡ c.args.self.now.name = c.in-Some.ensures.kept.1 ∙ ap (λ (r : ReaderView). r.name) c.self.view_is in
    shows t c.args.self.now.name.extent list (λ _. Unit {0}) (subst (λ (n : BoardName). IsRun t n.extent list) same c.in-Some.ensures.law) (λ _ _. tt)

pub returns-clause-front : goal.returns-clause-front
returns-clause-front g c =
    let some = c.in-Some.ensures in
    some.front ∙ ap (λ (n : BoardName). dropped n.extent.base + length c.front.new.self.list) (some.kept.1 ∙ ap (λ (r : ReaderView). r.name) c.self.view_is)
