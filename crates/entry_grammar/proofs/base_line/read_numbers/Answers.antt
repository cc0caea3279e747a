use Rattle.entry_grammar.proofs.Prelude.{◌∙◌, ◌∷◌, codes, append-nil, field_text, []}
use Rattle.entry_grammar.proofs.CountsOnce.{behind}
use Rattle.entry_grammar.proofs.base_line.read_numbers.Goals as goal

pub returns-in_err-spent : goal.returns-in_err-spent
returns-in_err-spent c = rw c.from_residual-in_err-spent.ensures (λ q f e.
    let spent = behind (codes "spent=", q.spent) ((codes "nodes=", q.nodes) ∷ (codes "edges=", q.edges) ∷ []) c.in_ok-number.ensures f.0 e in
    c.in_err-spent.ensures q.spent _ (record { fits = f.1; is = spent }))

pub returns-in_err-nodes : goal.returns-in_err-nodes
returns-in_err-nodes c = rw c.from_residual-in_err-nodes.ensures (λ q f e.
    let spent = behind (codes "spent=", q.spent) ((codes "nodes=", q.nodes) ∷ (codes "edges=", q.edges) ∷ []) c.in_ok-number.ensures f.0 e in
    let nodes = behind (codes "nodes=", q.nodes) ((codes "edges=", q.edges) ∷ []) c.in_ok-spent.ensures f.1 spent in
    c.in_err-nodes.ensures q.nodes _ (record { fits = f.2; is = nodes }))

pub returns-in_err-edges : goal.returns-in_err-edges
returns-in_err-edges c = rw c.from_residual-in_err-edges.ensures (λ q f e.
    let spent = behind (codes "spent=", q.spent) ((codes "nodes=", q.nodes) ∷ (codes "edges=", q.edges) ∷ []) c.in_ok-number.ensures f.0 e in
    let nodes = behind (codes "nodes=", q.nodes) ((codes "edges=", q.edges) ∷ []) c.in_ok-spent.ensures f.1 spent in
    let edges = behind (codes "edges=", q.edges) [] c.in_ok-nodes.ensures f.2 nodes in
    c.in_err-edges.ensures q.edges f.3 (edges ∙ append-nil (field_text (codes "edges=", q.edges))))
