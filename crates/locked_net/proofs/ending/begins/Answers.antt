use Rattle.locked_net.proofs.Prelude.{Option, refl, sym, subst, PublishedLog, noted}
use mathlib.Core.List.{IsPrefix}
use Rattle.locked_net.proofs.ending.begins.Goals as goal

pub returns-in-None-clause-yes : goal.returns-in-None-clause-yes
returns-in-None-clause-yes c _ =
    subst (λ (note : Option PublishedLog). IsPrefix (noted note) c.args.last.now.log) (sym c.in-None.ensures.note) (c.args.last.now.log, refl)
