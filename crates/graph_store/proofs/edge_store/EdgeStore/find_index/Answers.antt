use Rattle.graph_store.proofs.Prelude.{subst, ◌∙◌, IsGapFor, IsPlaceOf}
use Rattle.graph_store.proofs.edge_store.EdgeStore.find_index.Goals as goal

pub returns : goal.returns
returns c =
    record {
      gap = λ apart. subst (λ l. IsGapFor l c.args.w c.find_index.result) c.neighbours.ensures.all (c.find_index.ensures.gap (c.neighbours.ensures.found c.args.w ∙ apart));
      place = λ there. subst (λ l. IsPlaceOf l c.args.w c.find_index.result) c.neighbours.ensures.all (c.find_index.ensures.place (c.neighbours.ensures.found c.args.w ∙ there));
    }
