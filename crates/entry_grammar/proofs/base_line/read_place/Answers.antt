use Rattle.entry_grammar.proofs.Prelude.{sym, ◌∙◌, arith, registers_text}
use Rattle.entry_grammar.proofs.TokensOnce.{marked_once}
use Rattle.entry_grammar.proofs.base_line.read_place.Goals as goal

pub returns-in_err-target : goal.returns-in_err-target
returns-in_err-target c = rw c.from_residual.ensures (λ p f e.
    let read = c.in-Some.ensures in
    let r = marked_once 32 c.in-Some.node p.0 c.in-Some.rest.now (registers_text p.1 p.2) (λ h. omega (arith, h.0)) read.0 f.0 (sym read.1 ∙ e) in
    c.in_err-target.ensures p.1 p.2 f.1 (grind arith))
