use Rattle.transcript_view.specs.Views.{IsEpochTable}
use Rattle.command_line.specs.WriterStates.{heard}
use Rattle.command_line.proofs.Input.{from_input}
use Rattle.command_line.proofs.viewing.list_epochs.Goals as goal

pub returns-clause-shown : goal.returns-clause-shown
returns-clause-shown g c =
    let left = g.In.Read.remaining in
    let out = g.Out.Write.contents in
    let faults = g.Faults.Write.contents in
    from_input (λ text. text.items) (left c.args.reader.now.reader) c.read_text.result c.view_epochs_of-viewed.result (λ bytes view. IsEpochTable bytes view)
    (out c.args.writer.now.writer) (out c.tell_view.new.writer.writer) (faults c.args.faults.now.writer) (heard faults c.tell_view.new.faults) c.tell_view.result
    c.read_text.ensures.text c.view_epochs_of-viewed.ensures.read c.view_epochs_of-viewed.ensures.unread c.tell_view.ensures.told
