use Rattle.reply_checker.proofs.Prelude.{◌∙◌, ◌||◌, is_none, sym, ap, is_at}
use Rattle.reply_checker.proofs.Pairs.{neighbour_asks}
use Rattle.reply_checker.proofs.totals.asks.Goals as goal

pub returns-in-Some : goal.returns-in-Some
returns-in-Some c =
    let s = c.args.net.now.state in
    c.eq.ensures ∙ sym (neighbour_asks s c.args.v c.args.w c.registers.ensures.sound c.requires.linked ∙ ap (λ o. is_none o || is_at o c.args.w) (sym c.pointer.ensures ∙ c.in-Some.is))

pub returns-in-None : goal.returns-in-None
returns-in-None c =
    let s = c.args.net.now.state in
    sym (neighbour_asks s c.args.v c.args.w c.registers.ensures.sound c.requires.linked ∙ ap (λ o. is_none o || is_at o c.args.w) (sym c.pointer.ensures ∙ c.in-None.is))
