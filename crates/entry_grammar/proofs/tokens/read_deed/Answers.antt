use Rattle.entry_grammar.proofs.Prelude.{◌≡◌, ◌∷◌, ◌++◌, Some, sym, ◌∙◌, append_assoc, arith, true≢false, act_word, deed_text, number_text}
use Rattle.entry_grammar.proofs.TokensOnce.{deed_back, ends_wish}
use Rattle.entry_grammar.proofs.tokens.read_deed.Goals as goal

pub returns-then-not-ends-2 : goal.returns-then-not-ends-2
returns-then-not-ends-2 c act target rest h =
    let found = c.in-Some-read_name.ensures in
    let behind = c.in-Some-read_name.rest.now in
    let whole = append_assoc (act_word c.in_ok-act.act) (62 ∷ number_text c.in-Some-read_name.target) behind in
    let is : deed_text c.in_ok-act.act (Some c.in-Some-read_name.target) ++ behind ≡ deed_text act target ++ rest = grind arith in
    let same = deed_back.once (c.in_ok-act.act, Some c.in-Some-read_name.target) (act, target) behind rest (tt, found.fits) (tt, h.fits) found.ends (ends_wish target rest h.ends) is in
    let end = h.ends in
    true≢false (sym (c.ends-2.ensures.1 (grind arith)) ∙ c.if-not-ends-2.true)
