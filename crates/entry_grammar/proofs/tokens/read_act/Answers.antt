use Rattle.entry_grammar.proofs.Prelude.{◌++◌, ap, ◌∙◌, arith, act_word}
use Rattle.entry_grammar.proofs.TokensOnce.{act_begins, act_by_first}
use Rattle.entry_grammar.proofs.tokens.read_act.Goals as goal

pub returns-in_err-act : goal.returns-in_err-act
returns-in_err-act c = rw c.from_residual.ensures (λ act rest e.
    let first = act_begins act c.args.bytes.now rest e in
    c.in_err-act.ensures act (grind arith))

pub returns-in_err-rest : goal.returns-in_err-rest
returns-in_err-rest c = rw c.from_residual-in_err-rest.ensures (λ act rest e.
    let first = act_begins act c.args.bytes.now rest e in
    let same = act_by_first act c.in_ok-act.act (grind arith) in
    c.in_err-rest.ensures rest (e ∙ ap (λ a. act_word a ++ rest) same))
