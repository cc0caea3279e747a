use Rattle.entry_grammar.proofs.Prelude.{common_steps, ◌≡◌, ◌++◌, sym, ◌∙◌, arith, number_text, name_once}
use Rattle.entry_grammar.proofs.TokensOnce.{marked_once}
use Rattle.entry_grammar.proofs.tokens.read_pair.Goals as goal

pub returns-in_default-read_name : goal.returns-in_default-read_name
returns-in_default-read_name c p rest h =
    let r = marked_once c.args.mark c.in-Some.low p.0 c.in-Some.name.now (number_text p.1 ++ rest) c.requires c.in-Some.ensures.0 h.fits.0 (sym c.in-Some.ensures.1 ∙ h.is) in
    c.in_default-read_name.ensures p.1 rest (record { fits = h.fits.1; ends = h.ends; is = grind arith })

pub returns-then-ge : goal.returns-then-ge
returns-then-ge c p rest h =
    let r = marked_once c.args.mark c.in-Some.low p.0 c.in-Some.name.now (number_text p.1 ++ rest) c.requires c.in-Some.ensures.0 h.fits.0 (sym c.in-Some.ensures.1 ∙ h.is) in
    let s = name_once _ c.in-Some-read_name.high p.1 _ rest c.in-Some-read_name.ensures (record { fits = h.fits.1; ends = h.ends; is = grind arith }) in
    let low : c.in-Some.low ≡ p.0 = r.0 in
    let high : c.in-Some-read_name.high ≡ p.1 = s.0 in
    grind (arith, common_steps, low, high, h.fits.2, c.if-ge.true, c.ge.ensures)
