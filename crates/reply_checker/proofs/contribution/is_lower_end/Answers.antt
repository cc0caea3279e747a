use Rattle.reply_checker.proofs.Prelude.{◌∙◌, refl, sym, arith, points}
use Rattle.reply_checker.proofs.NodeCounts.{below_test}
use Rattle.reply_checker.proofs.Pairs.{lower_end, no_lower_end}
use Rattle.reply_checker.proofs.contribution.is_lower_end.Goals as goal

pub returns-then-lt : goal.returns-then-lt
returns-then-lt c =
    let below = below_test c.args.v c.in-Some.w in
    let end = lower_end c.args.net.now.state c.args.v c.in-Some.w c.registers.ensures.sound c.requires (sym c.pointer.ensures ∙ c.in-Some.is) c.points.result (sym c.points.ensures) in
    grind arith

pub returns-else-lt : goal.returns-else-lt
returns-else-lt c =
    let below = below_test c.args.v c.in-Some.w in
    let end = lower_end c.args.net.now.state c.args.v c.in-Some.w c.registers.ensures.sound c.requires (sym c.pointer.ensures ∙ c.in-Some.is) (points c.args.net.now.state.registers c.in-Some.w c.args.v) refl in
    grind arith

pub returns-in-None : goal.returns-in-None
returns-in-None c = sym (no_lower_end c.args.net.now.state c.args.v (sym c.pointer.ensures ∙ c.in-None.is))
