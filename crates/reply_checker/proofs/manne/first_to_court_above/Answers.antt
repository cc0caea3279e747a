use Rattle.reply_checker.proofs.Prelude.{◌≡◌, ◌+◌, ◌&&◌, ◌∷◌, ◌∙◌, ℕ, Bool, true, false, find, drop, nat_lt, sym, ap, arith, drop_more, may_court}
use Rattle.reply_checker.proofs.manne.first_to_court_above.Goals as goal
use Rattle.reply_checker.proofs.manne.first_to_court_above.Goals.{else-lt-via-then-lt+else-may_court, else-lt-via-else-lt}

pub returns-then-may_court : goal.returns-then-may_court
returns-then-may_court c =
    let p : ℕ → Bool = λ x. may_court c.args.net.now.state c.args.v x && nat_lt c.args.w x in
    let xs = c.neighbours-x-items.result.now in
    let x = c.x-item.result in
    let passes : p x ≡ true = grind arith in
    let front = ap (find p) (drop_more xs c.loop-x.x-index x c.loop-x-test.true ∙ ap (λ y. y ∷ drop (c.loop-x.x-index + 1) xs) (sym c.x-item.is)) in
    let all = ap (find p) c.neighbours-x-items.ensures.all in
    let so_far = c.loop-x.invariant in
    grind arith

pub loop-x-preserved : goal.loop-x-preserved
loop-x-preserved c =
    let p : ℕ → Bool = λ x. may_court c.args.net.now.state c.args.v x && nat_lt c.args.w x in
    let xs = c.neighbours-x-items.result.now in
    let x = c.x-item.result in
    let fails : p x ≡ false = elim c.else-lt.branch [ else-lt-via-then-lt+else-may_court w ↦ grind arith | else-lt-via-else-lt w ↦ grind arith ] in
    let front = ap (find p) (drop_more xs c.loop-x.x-index x c.loop-x-test.true ∙ ap (λ y. y ∷ drop (c.loop-x.x-index + 1) xs) (sym c.x-item.is)) in
    let so_far = c.loop-x.invariant in
    grind arith
