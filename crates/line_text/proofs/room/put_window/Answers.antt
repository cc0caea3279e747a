use Rattle.std.proofs.Common.{◌≤◌, ◌++◌, take, length, List, ℕ, ap, ◌∙◌, arith}
use Rattle.line_text.proofs.Windows.{take-put_mid_part}
use Rattle.line_text.proofs.room.put_window.Goals as goal

pub returns-clause-text : goal.returns-clause-text
returns-clause-text c =
    let few : c.args.count ≤ length c.put_whole.new.place = omega (arith, c.put_whole.ensures.len) in
    take-put_mid_part c.args.at _ c.args.count c.args.room.now c.put_whole.new.place few (omega arith) ∙ ap (λ (w : List ℕ). take c.args.at c.args.room.now ++ take c.args.count w) c.put_whole.ensures.same
