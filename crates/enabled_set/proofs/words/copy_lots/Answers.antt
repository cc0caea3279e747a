use Rattle.enabled_set.proofs.Prelude.{◌≡◌, ◌+◌, ◌*◌, ◌≤◌, ◌<◌, ◌⊎◌, ℕ, ◌∙◌, ap, arith, inl, inr, ⊎_elim, cases_lt, is_bit_on, get_or, length, min}
use Rattle.enabled_set.proofs.PlainBits.{lot_copied, lot_passed}
use Rattle.enabled_set.proofs.words.copy_lots.Goals as goal
use Rattle.enabled_set.proofs.words.copy_lots.Goals.{then-counts-lot-ne0, else-counts-lot-ne0}

pub loop-lot-preserved : goal.loop-lot-preserved
loop-lot-preserved c =
    let so_far = c.loop-lot.invariant in
    elim c.if-counts-lot-ne0.branch [
      | then-counts-lot-ne0 w ↦
          let ends : (w.min-end.result ≡ 64 * c.loop-lot.lot + 64) ⊎ (length c.args.other.now ≤ w.min-end.result) = grind (arith, cases_lt) in
          let same = lot_copied c.loop-lot.words w.copy.new.words c.args.other.now c.loop-lot.lot w.min-end.result (λ i from. so_far.off i (omega (arith, so_far.near, from))) w.copy.ensures.copied w.copy.ensures.others ends so_far.same in
          grind (arith, w.copy.ensures.others)
      | else-counts-lot-ne0 w ↦
          let same = lot_passed c.loop-lot.words c.args.other.now c.loop-lot.lot (λ i from. so_far.off i (omega (arith, so_far.near, from))) (λ v from low. c.requires.counted c.loop-lot.lot v w.if-counts-lot-ne0.false from low) so_far.same in
          grind arith
    ]
