use Rattle.locked_net.proofs.Prelude.{ap, ◌∙◌, ReaderView}
use Rattle.locked_net.proofs.net.LockedNet.reader.Goals as goal

pub returns-in-Ok-clause-seen : goal.returns-in-Ok-clause-seen
returns-in-Ok-clause-seen g c =
    let own = c.hold-held.ensures.own in
    let seen = c.in-Ok.ensures.seen in
    let same = c.over.ensures in
    (c.hold-held.result.log, own, ap (λ (r : ReaderView). r.list) same ∙ seen.0, ap (λ (r : ReaderView). r.learnt) same ∙ seen.1)
