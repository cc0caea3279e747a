use Rattle.std.proofs.Common.{◌≡◌, ◌+◌, sym, ◌∙◌, ap, length}
use Rattle.snapshots.proofs.MarkAddition.{adds_moves}
use Rattle.snapshots.proofs.history.History.add.Goals as goal

pub compare_exchange-found-requires : goal.compare_exchange-found-requires
compare_exchange-found-requires g c =
    let h = c.args.self.now.head_is in
    let same = c.again-seen.ensures in
    let book = ap (λ s. s.book) same ∙ sym (ap (λ w. w.book) h) in
    let offer = c.plain-offer.ensures in
    let pen = c.no_pen-pen.ensures in
    let count = c.args.self.now.front.count in
    let len : length c.again-seen.result.log ≡ count + 1 = ap (λ s. length s.log) same ∙ c.args.self.now.front.counted in (
      ap (λ w. w.tracked) h,
      book,
      pen.0 ∙ book,
      offer.0,
      rw (ap (λ w. w.key) h, pen.1, offer.3 ∙ c.requires.state) (adds_moves c.again-seen.result.log c.plain-offer.result.ask count len),
    )
