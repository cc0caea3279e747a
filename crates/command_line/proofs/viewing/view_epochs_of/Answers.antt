use Rattle.std.proofs.Common.{◌≡◌, ℕ, List, Ok, subst}
use Rattle.transcript_view.specs.Views.{IsEpochTable}
use Rattle.command_line.proofs.Input.{of_read}
use Rattle.command_line.proofs.LongLines.{table_of_all}
use Rattle.command_line.proofs.viewing.view_epochs_of.Goals as goal

pub returns-in-Ok-view_epochs-clause-read : goal.returns-in-Ok-view_epochs-clause-read
returns-in-Ok-view_epochs-clause-read c input =
    let text = c.in-Ok.text in
    let view = c.in-Ok-view_epochs.view in
    let read : c.args.read ≡ Ok text = cc in
    let shown = subst (λ (l : List ℕ). IsEpochTable l view) c.deref.ensures.value c.in-Ok-view_epochs.ensures in
    of_read (λ t. t.items) c.args.read text input (IsEpochTable input view) read (λ enough. table_of_all input text.items view enough shown)
