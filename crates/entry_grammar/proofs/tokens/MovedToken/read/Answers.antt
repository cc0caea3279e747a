use Rattle.entry_grammar.proofs.Prelude.{◌++◌, sym, ◌∙◌, append_assoc, arith, deed_text}
use Rattle.entry_grammar.proofs.TokensOnce.{marked_once}
use Rattle.entry_grammar.proofs.tokens.MovedToken.read.Goals as goal

pub returns-in_default-read_deed : goal.returns-in_default-read_deed
returns-in_default-read_deed c m rest h =
    let r = marked_once 58 c.in-Some.node m.node c.in-Some.deed.now (deed_text m.act m.target ++ rest) (λ h. omega (arith, h.1)) c.in-Some.ensures.0 h.fits.0 (sym c.in-Some.ensures.1 ∙ h.is ∙ simp append_assoc) in
    c.in_default-read_deed.ensures m.act m.target rest (record { fits = h.fits.1; ends = h.ends; is = grind arith })
