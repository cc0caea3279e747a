use Rattle.std.proofs.Common.{◌≡◌, ℕ, List, Ok, subst}
use Rattle.transcript_view.specs.Views.{IsPicture}
use Rattle.command_line.proofs.Input.{of_read}
use Rattle.command_line.proofs.LongLines.{picture_of_all}
use Rattle.command_line.proofs.viewing.view_picture_of.Goals as goal

pub returns-in-Ok-view_picture-clause-read : goal.returns-in-Ok-view_picture-clause-read
returns-in-Ok-view_picture-clause-read c input =
    let text = c.in-Ok.text in
    let view = c.in-Ok-view_picture.view in
    let read : c.args.read ≡ Ok text = cc in
    let shown = subst (λ (l : List ℕ). IsPicture l c.args.entry view) c.deref.ensures.value c.in-Ok-view_picture.ensures in
    of_read (λ t. t.items) c.args.read text input (IsPicture input c.args.entry view) read (λ enough. picture_of_all input text.items c.args.entry view enough shown)
