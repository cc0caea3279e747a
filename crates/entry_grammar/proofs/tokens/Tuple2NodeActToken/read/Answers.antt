use Rattle.entry_grammar.proofs.Prelude.{◌≡◌, ◌++◌, sym, ◌∙◌, append_assoc, arith, true≢false, act_word}
use Rattle.entry_grammar.proofs.TokensOnce.{act_first, marked_once}
use Rattle.entry_grammar.proofs.tokens.Tuple2NodeActToken.read.Goals as goal

pub returns-in_err-act : goal.returns-in_err-act
returns-in_err-act c = rw c.from_residual.ensures (λ x rest h.
    let r = marked_once 58 c.in-Some.node x.0 c.in-Some.word.now (act_word x.1 ++ rest) (λ h. omega (arith, h.1)) c.in-Some.ensures.0 h.fits (sym c.in-Some.ensures.1 ∙ h.is ∙ simp append_assoc) in
    c.in_err-act.ensures x.1 rest (grind arith))

pub returns-then-not-ends : goal.returns-then-not-ends
returns-then-not-ends c x rest h =
    let r = marked_once 58 c.in-Some.node x.0 c.in-Some.word.now (act_word x.1 ++ rest) (λ h. omega (arith, h.1)) c.in-Some.ensures.0 h.fits (sym c.in-Some.ensures.1 ∙ h.is ∙ simp append_assoc) in
    let word : act_word c.in_ok-act.act ++ c.in_ok-act.rest.now ≡ act_word x.1 ++ rest = grind arith in
    let s = act_first c.in_ok-act.act x.1 c.in_ok-act.rest.now rest word in
    let end = h.ends in
    true≢false (sym (c.ends.ensures.1 (grind arith)) ∙ c.if-not-ends.true)
