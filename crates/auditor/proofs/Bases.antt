-- Bytes begin with the lines of a base, or these break off at some line.
use Rattle.auditor.proofs.Prelude.{◌≡◌, ℕ, zero, suc, ◌+◌, ◌<◌, List, [], ◌∷◌, ◌++◌, length, refl, subst, ◌∙◌, append_assoc, arith, NodeRecord, Base, lines_with_ends, node_record_text, link_text, IsOrderedPair, AreCounts, BaseNumbers, Starts, IsEdgeAbove, IsPlace, IsShaped, BreaksAt, base_lines, numbers_text, NodesRead, NodesSoFar, EdgesSoFar, lines_break, no_lines, one_more, first_breaks, node_breaks, edge_breaks}

-- neither is so
record Neither (bytes : List ℕ) : Type 0 where
  no_base : (base : Base) (more : List ℕ) → IsShaped base → bytes ≡ base_lines base ++ more → ⊥
  unbroken : (k : ℕ) → BreaksAt bytes k → ⊥

abbrev base_from : BaseNumbers → List NodeRecord → List (ℕ × ℕ) → Base
base_from q places edges = record { number = q.number; spent = q.spent; nodes = places; edges = edges }

-- all lines were read
base_is : (bytes : List ℕ) (q : BaseNumbers) (rest : List ℕ) (places : List NodeRecord) (left : List ℕ) (edges : List (ℕ × ℕ)) (behind : List ℕ) → length places ≡ q.nodes → length edges ≡ q.edges → bytes ≡ numbers_text q ++ 10 ∷ rest → rest ≡ lines_with_ends node_record_text places ++ left → left ≡ lines_with_ends link_text edges ++ behind → bytes ≡ base_lines (base_from q places edges) ++ behind
base_is bytes q rest places left edges behind nodes links first second third =
    first ∙ simp (second, third, nodes, links, append_assoc)

whole_base : (bytes : List ℕ) (q : BaseNumbers) (rest : List ℕ) (places : List NodeRecord) (left : List ℕ) (edges : List (ℕ × ℕ)) (behind : List ℕ) (last : ℕ × ℕ) → Neither bytes → Starts AreCounts numbers_text bytes q rest → NodesRead rest places left → length places ≡ q.nodes → EdgesSoFar left edges behind q.edges last → ⊥
whole_base bytes q rest places left edges behind last neither starts read all so_far =
    neither.no_base (base_from q places edges) behind (record {
      number = starts.fits.0;
      spent = starts.fits.1;
      nodes = omega (arith, starts.fits.2, all);
      edges = omega (arith, starts.fits.3, so_far.count_is);
      places = read.fit;
      links = so_far.read.fit;
      nodes_rise = read.rise;
      edges_rise = so_far.read.rise;
    }) (base_is bytes q rest places left edges behind all so_far.count_is starts.is read.is so_far.read.is)

walk_edges : (fuel : ℕ) (bytes : List ℕ) (q : BaseNumbers) (rest : List ℕ) (places : List NodeRecord) (left : List ℕ) (edges : List (ℕ × ℕ)) (behind : List ℕ) (count : ℕ) (last : ℕ × ℕ) → Neither bytes → Starts AreCounts numbers_text bytes q rest → NodesRead rest places left → length places ≡ q.nodes → EdgesSoFar left edges behind count last → count + fuel ≡ q.edges → ⊥
walk_edges zero bytes q rest places left edges behind count last neither starts read all so_far e =
    whole_base bytes q rest places left edges behind last neither starts read all (subst (λ (n : ℕ). EdgesSoFar left edges behind n last) (omega (arith, e)) so_far)
walk_edges (suc fuel) bytes q rest places left edges behind count last neither starts read all so_far e =
    let none : (edge : ℕ × ℕ) (more : List ℕ) → IsEdgeAbove last edge → Starts IsOrderedPair link_text behind edge more → ⊥ = λ edge more above found.
    walk_edges fuel bytes q rest places left (edges ++ edge ∷ []) more (count + 1) edge neither starts read all (one_more so_far edge more above found) (omega (arith, e)) in
    neither.unbroken _ (edge_breaks bytes q rest places left _ starts read all (lines_break so_far q.edges (q.nodes + 2) _ (omega (arith, e)) refl none))

walk_nodes : (fuel : ℕ) (bytes : List ℕ) (q : BaseNumbers) (rest : List ℕ) (places : List NodeRecord) (left : List ℕ) (count last : ℕ) → Neither bytes → Starts AreCounts numbers_text bytes q rest → NodesSoFar rest places left count last → count + fuel ≡ q.nodes → ⊥
walk_nodes zero bytes q rest places left count last neither starts so_far e =
    let all : length places ≡ q.nodes = omega (arith, e, so_far.count_is) in
    walk_edges q.edges bytes q rest places left [] left 0 (0, 0) neither starts so_far.read all (no_lines left) (omega arith)
walk_nodes (suc fuel) bytes q rest places left count last neither starts so_far e =
    let none : (place : NodeRecord) (more : List ℕ) → last < place.node → Starts IsPlace node_record_text left place more → ⊥ = λ place more above found.
    walk_nodes fuel bytes q rest (places ++ place ∷ []) more (count + 1) place.node neither starts (one_more so_far place more above found) (omega (arith, e)) in
    neither.unbroken _ (node_breaks bytes q rest _ starts (lines_break so_far q.nodes 2 _ (omega (arith, e)) refl none))

pub base_or_breaks : (bytes : List ℕ) → ((base : Base) (more : List ℕ) → IsShaped base → bytes ≡ base_lines base ++ more → ⊥) → ((k : ℕ) → BreaksAt bytes k → ⊥) → ⊥
base_or_breaks bytes no_base unbroken =
    let neither : Neither bytes = record { no_base = no_base; unbroken = unbroken } in
    unbroken 1 (first_breaks bytes (λ q rest starts. walk_nodes q.nodes bytes q rest [] rest 0 0 neither starts (no_lines rest) (omega arith)))
