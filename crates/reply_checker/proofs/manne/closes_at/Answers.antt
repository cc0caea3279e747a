use Rattle.std.proofs.Common.{arith}
use Rattle.reply_checker.proofs.NodeCounts.{below_test}
use Rattle.reply_checker.proofs.Pairs.{manne_closing}
use Rattle.reply_checker.proofs.manne.closes_at.Goals as goal
use Rattle.reply_checker.proofs.manne.closes_at.Goals.{then-lt, else-lt}

pub returns-then-not-flag : goal.returns-then-not-flag
returns-then-not-flag c =
    let below = below_test c.args.v c.args.w in
    let closing = manne_closing c.args.net.now.state c.args.v c.args.w c.requires.sound c.requires.at in
    elim c.if-lt.branch [ then-lt x ↦ grind arith | else-lt x ↦ grind arith ]

pub returns-else-not-flag : goal.returns-else-not-flag
returns-else-not-flag c =
    let below = below_test c.args.v c.args.w in
    let closing = manne_closing c.args.net.now.state c.args.v c.args.w c.requires.sound c.requires.at in
    elim c.if-lt.branch [ then-lt x ↦ grind arith | else-lt x ↦ grind arith ]
