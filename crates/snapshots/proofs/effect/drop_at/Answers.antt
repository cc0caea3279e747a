use Rattle.snapshots.proofs.Prelude.{◌≡◌, ◌∙◌, ap, get_or, set, unless_at}
use Rattle.snapshots.proofs.Passes.{passed, passed_next, passed_more}
use Rattle.snapshots.proofs.effect.drop_at.Goals as goal

pub loop-pointer-preserved : goal.loop-pointer-preserved
loop-pointer-preserved c =
    let cut = unless_at c.args.v in
    let old = c.args.row.now in
    let k = c.loop-pointer.pointer-index in
    let pointer = c.pointer-item.result in
    let here : get_or c.loop-pointer.row k pointer ≡ get_or old k pointer = ap (λ ps. get_or ps k pointer) c.loop-pointer.invariant ∙ passed_next cut old k pointer in
    ap (λ ps. set ps k c.unless_at.result) c.loop-pointer.invariant
    ∙ ap (set (passed cut old k) k) (c.unless_at.ensures ∙ ap cut here)
    ∙ passed_more cut old k pointer c.loop-pointer-test.true
