use Rattle.entry_grammar.proofs.Prelude.{◌≡◌, sym, subst, ◌∙◌, IsEdgeAbove, Link}
use Rattle.entry_grammar.proofs.FirstLines.{line_starts, starts_once}
use Rattle.entry_grammar.proofs.base_reader.next_edge.Goals as goal

pub returns-in_default : goal.returns-in_default
returns-in_default c edge more above h = c.in_default.ensures (Link edge) more (line_starts Link h)

pub returns-in_err-edge : goal.returns-in_err-edge
returns-in_err-edge c = rw c.from_residual.ensures (λ edge more above h. c.in_err-edge.ensures edge (starts_once c.in-Some.ensures (line_starts Link h)))

pub returns-then-not-is_above : goal.returns-then-not-is_above
returns-then-not-is_above c edge more above h =
    let line = sym c.in_ok-edge.ensures ∙ starts_once c.in-Some.ensures (line_starts Link h) in
    let same : edge ≡ c.in_ok-edge.edge = cc in
    c.if-not-is_above.ensures (subst (IsEdgeAbove c.args.last) same above)
