use Rattle.std.specs.Prelude.{string_bytes}
use Rattle.command_line.specs.WriterStates.{heard}
use Rattle.command_line.proofs.ShownText.{some_shown}
use Rattle.command_line.proofs.program.show.Goals as goal

pub returns-clause-shown : goal.returns-clause-shown
returns-clause-shown g c =
    let out = g.Out.Write.contents in
    let told = g.Faults.Write.contents in
    some_shown string_bytes c.format.result (out c.args.writer.now.writer) (out c.show_made.new.writer.writer) (told c.args.faults.now.writer) (heard told c.show_made.new.faults) c.show_made.result c.show_made.ensures.shown c.show_made.ensures.memory
