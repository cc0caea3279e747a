use Rattle.entry_grammar.proofs.Prelude.{sym, ◌∙◌, append_assoc, arith, true≢false}
use Rattle.entry_grammar.proofs.TokensOnce.{ends_digit, pair_rest}
use Rattle.entry_grammar.proofs.tokens.EdgeToken.read.Goals as goal

pub returns-then-not-ends : goal.returns-then-not-ends
returns-then-not-ends c p rest h =
    let same = pair_rest 45 c.args.bytes.now c.in-Some.pair p c.in-Some.rest.now rest (λ h. omega (arith, h.0)) c.in-Some.ensures (record { fits = h.fits; ends = ends_digit rest h.ends; is = h.is ∙ simp append_assoc }) in
    let end = h.ends in
    true≢false (sym (c.ends.ensures.1 (grind arith)) ∙ c.if-not-ends.true)
