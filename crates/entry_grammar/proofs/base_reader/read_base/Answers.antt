use Rattle.entry_grammar.proofs.Prelude.{◌≡◌, ℕ, ◌+◌, subst, sym, ◌∙◌, BreaksAt, EdgesBreak, BadLine}
use Rattle.entry_grammar.proofs.BaseBreaks.{by_error, first_breaks, node_breaks, edge_breaks}
use Rattle.entry_grammar.proofs.base_reader.read_base.Goals as goal

same_line : (j k : ℕ) → BadLine j ≡ BadLine k → j ≡ k
same_line j k e = cc

pub returns-in_default-clause-bad : goal.returns-in_default-clause-bad
returns-in_default-clause-bad c k e = subst (BreaksAt c.args.bytes.now) (same_line 1 k e) (first_breaks c.args.bytes.now c.in_default.ensures)

pub returns-in_err-nodes-clause-bad : goal.returns-in_err-nodes-clause-bad
returns-in_err-nodes-clause-bad c =
    by_error c.from_residual.result _ _ c.from_residual.ensures.1 (λ fault q k is.
    node_breaks c.args.bytes.now c.in-Some.numbers c.in-Some.rest.now k c.in-Some.ensures (c.in_err-nodes.ensures.bad k (sym q ∙ is)))

pub returns-in_err-edges-clause-bad : goal.returns-in_err-edges-clause-bad
returns-in_err-edges-clause-bad c =
    let nodes = c.in_ok-nodes.ensures in
    by_error c.from_residual-in_err-edges.result _ _ c.from_residual-in_err-edges.ensures.1 (λ fault q k is.
    edge_breaks c.args.bytes.now c.in-Some.numbers c.in-Some.rest.now c.in_ok-nodes.nodes.items c.in_ok-nodes.rest.now k c.in-Some.ensures nodes.read nodes.all
    (subst (λ (n : ℕ). EdgesBreak c.in_ok-nodes.rest.now c.in-Some.numbers.edges (n + 2) k) c.from.ensures (c.in_err-edges.ensures.bad k (sym q ∙ is))))
