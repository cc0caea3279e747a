use Rattle.std.proofs.Common.{◌≡◌, List, Option, ℕ, rules, subst}
use Rattle.std.specs.Prelude.{IfSome}
use Rattle.command_line.specs.ProgramEnds.{DoesTask}
use Rattle.command_line.specs.WriterStates.{heard}
use Rattle.command_line.proofs.program.perform_on.Goals as goal

pub returns-clause-does : goal.returns-clause-does
returns-clause-does g c =
    let left = g.Opened.Read.remaining in
    let out = g.Out.Write.contents in
    let faults = g.Faults.Write.contents in
    let told = c.perform-status in
    let mid = heard faults told.new.faults in
    let same : left c.new-reader.result.reader.now.file ≡ left c.args.opened = search rules in
    let does = subst (λ (l : Option (List ℕ)). IfSome l (λ input. DoesTask c.args.task input (out c.args.writer.now.writer) (out told.new.writer.writer) (faults c.args.faults.now.writer) mid told.result)) same told.ensures.does in
    (mid, does, c.add_note.ensures)
