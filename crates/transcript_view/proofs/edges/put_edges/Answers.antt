use Rattle.transcript_view.proofs.Prelude.{◌≡◌, ◌++◌, ◌∷◌, [], ◌-◌, ◌∙◌, ap, Bool, List, ℕ, filter, arith, range_with_len, flat_map, present, some_iff_at, edge_lines_at}
use Rattle.transcript_view.proofs.Names.{names_more}
use Rattle.transcript_view.proofs.edges.put_edges.Goals as goal

pub loop-name-preserved : goal.loop-name-preserved
loop-name-preserved c =
    let here : ℕ → Bool = present c.args.net.now.state.network in
    let f : ℕ → List ℕ = edge_lines_at c.args.net.now.state in
    let old = c.args.out.now.items in
    let n = c.loop-name.name in
    let so_far = old ++ flat_map f (filter here (range_with_len 1 (n - 1))) in
    let named : c.unwrap-v.result ≡ n = some_iff_at _ _ _ _ c.new.ensures c.unwrap-v.ensures in
    c.in_ok-put_edges_if_present.ensures
    ∙ ap (λ (l : List ℕ). l ++ flat_map f (filter here (c.unwrap-v.result ∷ []))) c.loop-name.invariant
    ∙ ap (λ (k : ℕ). so_far ++ flat_map f (filter here (k ∷ []))) named
    ∙ names_more here f old n (omega arith)
