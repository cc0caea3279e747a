use Rattle.entry_grammar.proofs.Prelude.{◌∷◌, arith, name_once}
use Rattle.entry_grammar.proofs.tokens.read_marked.Goals as goal

pub returns-in_err-rest : goal.returns-in_err-rest
returns-in_err-rest c = rw c.from_residual.ensures (λ n rest f e.
    let r = name_once c.args.bytes.now c.in-Some.node n c.in-Some.marked.now (c.args.mark ∷ rest) c.in-Some.ensures (record { fits = f; ends = c.requires; is = e }) in
    c.in_err-rest.ensures rest (grind arith))
