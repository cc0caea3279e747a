use Rattle.entry_grammar.proofs.Prelude.{◌≡◌, sym, ◌∙◌, arith, place_line}
use Rattle.entry_grammar.proofs.FirstLines.{line_starts, starts_once}
use Rattle.entry_grammar.proofs.base_reader.next_node.Goals as goal

pub returns-in_default : goal.returns-in_default
returns-in_default c place more above h = c.in_default.ensures (place_line place) more (line_starts place_line h)

pub returns-in_err-place : goal.returns-in_err-place
returns-in_err-place c = rw c.from_residual.ensures (λ place more above h. c.in_err-place.ensures place (starts_once c.in-Some.ensures (line_starts place_line h)))

pub returns-then-name-last : goal.returns-then-name-last
returns-then-name-last c place more above h =
    let line = sym c.in_ok-place.ensures ∙ starts_once c.in-Some.ensures (line_starts place_line h) in
    let same : c.in_ok-place.place.node ≡ place.node = cc in
    omega (arith, same, above, c.name.ensures.same, c.if-name-last.true)
