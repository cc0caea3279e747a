use Rattle.entry_grammar.proofs.Prelude.{◌∙◌, drop, codes, append-nil, field_text, fields_of}
use Rattle.entry_grammar.proofs.CountsOnce.{behind}
use Rattle.entry_grammar.proofs.counts.read_counts.Goals as goal

pub returns-in_err-edges : goal.returns-in_err-edges
returns-in_err-edges c = rw c.from_residual-in_err-edges.ensures (λ q f e.
    let edges = behind (codes "edges=", q.edges) (drop 2 (fields_of q)) c.in_ok-nodes.ensures f.0 e in
    c.in_err-edges.ensures q.edges _ (record { fits = f.1; is = edges }))

pub returns-in_err-pairs : goal.returns-in_err-pairs
returns-in_err-pairs c = rw c.from_residual-in_err-pairs.ensures (λ q f e.
    let edges = behind (codes "edges=", q.edges) (drop 2 (fields_of q)) c.in_ok-nodes.ensures f.0 e in
    let pairs = behind (codes "pairs=", q.pairs) (drop 3 (fields_of q)) c.in_ok-edges.ensures f.1 edges in
    c.in_err-pairs.ensures q.pairs _ (record { fits = f.2; is = pairs }))

pub returns-in_err-enabled : goal.returns-in_err-enabled
returns-in_err-enabled c = rw c.from_residual-in_err-enabled.ensures (λ q f e.
    let edges = behind (codes "edges=", q.edges) (drop 2 (fields_of q)) c.in_ok-nodes.ensures f.0 e in
    let pairs = behind (codes "pairs=", q.pairs) (drop 3 (fields_of q)) c.in_ok-edges.ensures f.1 edges in
    let enabled = behind (codes "enabled=", q.enabled) (drop 4 (fields_of q)) c.in_ok-pairs.ensures f.2 pairs in
    c.in_err-enabled.ensures q.enabled _ (record { fits = f.3; is = enabled }))

pub returns-in_err-charge : goal.returns-in_err-charge
returns-in_err-charge c = rw c.from_residual-in_err-charge.ensures (λ q f e.
    let edges = behind (codes "edges=", q.edges) (drop 2 (fields_of q)) c.in_ok-nodes.ensures f.0 e in
    let pairs = behind (codes "pairs=", q.pairs) (drop 3 (fields_of q)) c.in_ok-edges.ensures f.1 edges in
    let enabled = behind (codes "enabled=", q.enabled) (drop 4 (fields_of q)) c.in_ok-pairs.ensures f.2 pairs in
    let charge = behind (codes "charge=", q.charge) (drop 5 (fields_of q)) c.in_ok-enabled.ensures f.3 enabled in
    c.in_err-charge.ensures q.charge _ (record { fits = f.4; is = charge }))

pub returns-in_err-spent : goal.returns-in_err-spent
returns-in_err-spent c = rw c.from_residual-in_err-spent.ensures (λ q f e.
    let edges = behind (codes "edges=", q.edges) (drop 2 (fields_of q)) c.in_ok-nodes.ensures f.0 e in
    let pairs = behind (codes "pairs=", q.pairs) (drop 3 (fields_of q)) c.in_ok-edges.ensures f.1 edges in
    let enabled = behind (codes "enabled=", q.enabled) (drop 4 (fields_of q)) c.in_ok-pairs.ensures f.2 pairs in
    let charge = behind (codes "charge=", q.charge) (drop 5 (fields_of q)) c.in_ok-enabled.ensures f.3 enabled in
    let spent = behind (codes "spent=", q.spent) (drop 6 (fields_of q)) c.in_ok-charge.ensures f.4 charge in
    c.in_err-spent.ensures q.spent f.5 (spent ∙ append-nil (field_text (codes "spent=", q.spent))))
