use Rattle.std.proofs.Common.{◌≡◌, Result, Ok, sym, subst}
use Rattle.byte_streams.specs.declared.input_fault.InputFault.{InputFault}
use Rattle.transcript_view.specs.declared.view.View.{View}
use Rattle.transcript_view.specs.declared.view.View.TheVariants.{TooFew, Forgotten}
use Rattle.command_line.specs.WriterStates.{heard}
use Rattle.command_line.specs.ViewEnds.{TellsView, too_few_line, forgotten_line}
use Rattle.command_line.proofs.MissingEntry.{missed}
use Rattle.command_line.proofs.viewing.tell_view.Goals as goal

pub returns-in-Ok-TooFew-clause-told : goal.returns-in-Ok-TooFew-clause-told
returns-in-Ok-TooFew-clause-told g c =
    let out = g.Out.Write.contents c.args.writer.now.writer in
    let before = g.Faults.Write.contents c.args.faults.now.writer in
    let after = heard g.Faults.Write.contents c.tell_missing.new.faults in
    let number = c.in-Ok-TooFew.number in
    let entries = c.in-Ok-TooFew.entries in
    let is = c.in-Ok-TooFew.is in
    let inner = c.in-Ok-TooFew.field-0-is in
    let viewed : c.args.viewed ≡ Ok (TooFew number entries) = cc in
    subst (λ (v : Result View InputFault). TellsView v out out before after c.tell_missing.result) (sym viewed)
    (missed (λ l. l.items) c.missing_line.result (too_few_line number entries) out before after c.tell_missing.result c.missing_line.ensures c.tell_missing.ensures.told c.tell_missing.ensures.memory)

pub returns-in-Ok-Forgotten-clause-told : goal.returns-in-Ok-Forgotten-clause-told
returns-in-Ok-Forgotten-clause-told g c =
    let out = g.Out.Write.contents c.args.writer.now.writer in
    let before = g.Faults.Write.contents c.args.faults.now.writer in
    let after = heard g.Faults.Write.contents c.tell_missing-in-Ok-Forgotten.new.faults in
    let number = c.in-Ok-Forgotten.number in
    let base = c.in-Ok-Forgotten.base in
    let is = c.in-Ok-Forgotten.is in
    let inner = c.in-Ok-Forgotten.field-0-is in
    let viewed : c.args.viewed ≡ Ok (Forgotten number base) = cc in
    subst (λ (v : Result View InputFault). TellsView v out out before after c.tell_missing-in-Ok-Forgotten.result) (sym viewed)
    (missed (λ l. l.items) c.missing_line-in-Ok-Forgotten.result (forgotten_line number base) out before after c.tell_missing-in-Ok-Forgotten.result c.missing_line-in-Ok-Forgotten.ensures c.tell_missing-in-Ok-Forgotten.ensures.told c.tell_missing-in-Ok-Forgotten.ensures.memory)
