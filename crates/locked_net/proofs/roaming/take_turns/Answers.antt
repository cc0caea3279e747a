use Rattle.locked_net.proofs.Prelude.{length, ⊎_elim, ◌≡◌, ◌<◌, None, ap, subst, arith, Option, PublishedLog, noted, setting_of}
use Rattle.std.specs.Result.{result_err}
use mathlib.Core.List.{IsPrefix}
use Rattle.locked_net.proofs.Turns.{ends_shown, ends_apart, has_note}
use Rattle.locked_net.proofs.roaming.take_turns.Goals as goal
use Rattle.locked_net.proofs.roaming.take_turns.Goals.{then-no_note, else-no_note+else-receipts-before}

pub returns-clause-turns : goal.returns-clause-turns
returns-clause-turns g c =
    let setting = setting_of g.R.Rules.table c.args.config.now.net.now in
    let turns = c.args.config.now.turns in
    let old = c.args.clerk.now in
    let told = c.take_all-answer in
    let mid = told.new.clerk in
    let shown = noted told.new.observer.note in
    elim c.if-no_note.branch [
      | then-no_note w ↦
          ends_shown setting shown turns old mid w.show.new.clerk c.if-no_note.clerk (result_err told.result) w.clerk-is w.show.ensures.receipts w.show.ensures.base
          (subst (λ (o : Option PublishedLog). IsPrefix (noted o) (noted w.show.new.clerk.note)) w.noted.ensures.note w.show.ensures.other) told.ensures.turns
      | else-no_note+else-receipts-before w ↦
          let before = ap length c.receipts-before.ensures.receipts in
          let now = ap length w.receipts.ensures.receipts in
          ends_apart setting shown turns old mid c.if-no_note.clerk (result_err told.result) w.clerk-is
          (λ own.
          ⊎_elim (λ (none : old.note ≡ None). has_note c.note.result c.is_none-no_note.result old.note _ c.note.ensures.note c.is_none-no_note.ensures w.if-no_note.false none)
          (λ (more : length old.receipts < length mid.receipts). absurd (omega (arith, more, before, now, w.if-receipts-before.false))) own)
          told.ensures.turns
    ]
