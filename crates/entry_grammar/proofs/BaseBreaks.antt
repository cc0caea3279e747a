-- The first line at which a text departs from the lines of a base.
use Rattle.entry_grammar.proofs.Prelude.{◌≡◌, ℕ, zero, suc, ◌+◌, ◌<◌, ◌≤◌, List, ◌∷◌, ◌++◌, length, length-append, map, refl, sym, ap, ap₂, subst, ◌∙◌, append_assoc, arith, Result, Ok, Err, IfErr, IsErrAnd, AllByRecursion, flat_map-append, length-map, lines_with_ends, node_record_text, link_text, BaseLine, BaseNumbers, Base, Place, Link, IsOrderedPair, IsBaseLine, base_line_text, AreCounts, Starts, IsEdgeAbove, NodesRise, EdgesRise, IsPlace, node_key, place_line, EdgesFollow, NodesFollow, MayFollow, BreaksAt, numbers_text, last_key, NodesRead, NodesBreak, EdgesBreak, []}
use Rattle.rule_machine.specs.declared.base.NodeRecord.{NodeRecord as PlaceKept}
use Rattle.entry_grammar.proofs.Free.{all_both}

abbrev pub place_lines : List PlaceKept → List BaseLine
place_lines places = map place_line places

abbrev pub edge_lines : List (ℕ × ℕ) → List BaseLine
edge_lines edges = map (λ edge. Link edge) edges

-- their texts

pub ended_places : (places : List PlaceKept) → lines_with_ends base_line_text (place_lines places) ≡ lines_with_ends node_record_text places
ended_places [] = refl
ended_places (place ∷ places) = ap (λ (z : List ℕ). (node_record_text place ++ 10 ∷ []) ++ z) (ended_places places)

pub ended_edges : (edges : List (ℕ × ℕ)) → lines_with_ends base_line_text (edge_lines edges) ≡ lines_with_ends link_text edges
ended_edges [] = refl
ended_edges (edge ∷ edges) = ap (λ (z : List ℕ). (link_text edge ++ 10 ∷ []) ++ z) (ended_edges edges)

-- they fit

pub fit_places : (places : List PlaceKept) → AllByRecursion IsPlace places → AllByRecursion IsBaseLine (place_lines places)
fit_places [] f = tt
fit_places (place ∷ places) f = (f.0, fit_places places f.1)

pub fit_edges : (edges : List (ℕ × ℕ)) → AllByRecursion IsOrderedPair edges → AllByRecursion IsBaseLine (edge_lines edges)
fit_edges [] f = tt
fit_edges (edge ∷ edges) f = (f.0, fit_edges edges f.1)

pub fit_both : (xs ys : List BaseLine) → AllByRecursion IsBaseLine xs → AllByRecursion IsBaseLine ys → AllByRecursion IsBaseLine (xs ++ ys)
fit_both = all_both IsBaseLine

-- they follow, as far as they go

pub edges_follow : (left : ℕ) (last : ℕ × ℕ) (edges : List (ℕ × ℕ)) → length edges ≤ left → EdgesRise last edges → EdgesFollow left last (edge_lines edges)
edges_follow left last [] h r = tt
edges_follow zero last (edge ∷ edges) h r = absurd (omega (arith, h))
edges_follow (suc left) last (edge ∷ edges) h r = (r.0, edges_follow left edge edges (omega (arith, h)) r.1)

nodes_done : (edges last : ℕ) (lines : List BaseLine) → EdgesFollow edges (0, 0) lines → NodesFollow zero edges last lines
nodes_done edges last [] h = tt
nodes_done edges last (line ∷ lines) h = h

nodes_follow : (left edges last : ℕ) (places : List PlaceKept) → length places ≤ left → NodesRise last places → NodesFollow left edges last (place_lines places)
nodes_follow left edges last [] h r = tt
nodes_follow zero edges last (place ∷ places) h r = absurd (omega (arith, h))
nodes_follow (suc left) edges last (place ∷ places) h r = (r.0, nodes_follow left edges place.node places (omega (arith, h)) r.1)

pub all_follow : (left edges last : ℕ) (places : List PlaceKept) (lines : List BaseLine) → length places ≡ left → NodesRise last places → EdgesFollow edges (0, 0) lines → NodesFollow left edges last (place_lines places ++ lines)
all_follow zero edges last [] lines h r f = nodes_done edges last lines f
all_follow (suc left) edges last [] lines h r f = absurd (omega (arith, h))
all_follow zero edges last (place ∷ places) lines h r f = absurd (omega (arith, h))
all_follow (suc left) edges last (place ∷ places) lines h r f = (r.0, all_follow left edges place.node places lines (omega (arith, h)) r.1 f)

-- what follows them if some are missing

node_comes : (left edges last : ℕ) (places : List PlaceKept) (line : BaseLine) → length places < left → NodesFollow left edges last (place_lines places ++ line ∷ []) → (place : PlaceKept) × (line ≡ place_line place) × (last_key node_key last places < place.node)
node_comes zero edges last places line h f = absurd (omega (arith, h))
node_comes (suc left) edges last [] (Place node target flagged) h f = (record { node = node; target = target; flagged = flagged }, refl, f.0)
node_comes (suc left) edges last [] line h f = absurd f
node_comes (suc left) edges last (place ∷ places) line h f = node_comes left edges place.node places line (omega (arith, h)) f.1

edge_comes : (left : ℕ) (last : ℕ × ℕ) (edges : List (ℕ × ℕ)) (line : BaseLine) → length edges < left → EdgesFollow left last (edge_lines edges ++ line ∷ []) → (edge : ℕ × ℕ) × (line ≡ Link edge) × IsEdgeAbove (last_key (λ edge. edge) last edges) edge
edge_comes zero last edges line h f = absurd (omega (arith, h))
edge_comes (suc left) last [] (Link edge) h f = (edge, refl, f.0)
edge_comes (suc left) last [] line h f = absurd f
edge_comes (suc left) last (edge ∷ edges) line h f = edge_comes left edge edges line (omega (arith, h)) f.1

nodes_undone : (edges last : ℕ) (lines : List BaseLine) → NodesFollow zero edges last lines → EdgesFollow edges (0, 0) lines
nodes_undone edges last [] h = tt
nodes_undone edges last (line ∷ lines) h = h

past_nodes : (left edges last : ℕ) (places : List PlaceKept) (lines : List BaseLine) → length places ≡ left → NodesFollow left edges last (place_lines places ++ lines) → EdgesFollow edges (0, 0) lines
past_nodes zero edges last [] lines h f = nodes_undone edges last lines f
past_nodes (suc left) edges last [] lines h f = absurd (omega (arith, h))
past_nodes zero edges last (place ∷ places) lines h f = absurd (omega (arith, h))
past_nodes (suc left) edges last (place ∷ places) lines h f = past_nodes left edges place.node places lines (omega (arith, h)) f.1

-- ---- the first line that is not as it has to be

no_first : (bytes : List ℕ) → ((q : BaseNumbers) (more : List ℕ) → Starts AreCounts numbers_text bytes q more → ⊥) → (line : BaseLine) (more : List ℕ) → IsBaseLine line → MayFollow (line ∷ []) → bytes ≡ base_line_text line ++ 10 ∷ more → ⊥
no_first bytes none (Base q) more f m e = none q more (record { fits = f; is = e })
no_first bytes none line more f m e = m

-- it is that of the numbers
pub first_breaks : (bytes : List ℕ) → ((q : BaseNumbers) (more : List ℕ) → Starts AreCounts numbers_text bytes q more → ⊥) → BreaksAt bytes 1
first_breaks bytes none = record {
  lines = [];
  rest = bytes;
  is = refl;
  fit = tt;
  follow = tt;
  short = tt;
  number = refl;
  stops = no_first bytes none;
}

-- the text of the numbers, and then of other lines
text_behind : (bytes : List ℕ) (q : BaseNumbers) (rest lines more : List ℕ) → Starts AreCounts numbers_text bytes q rest → rest ≡ lines ++ more → bytes ≡ (numbers_text q ++ 10 ∷ []) ++ lines ++ more
text_behind bytes q rest lines more h e =
    h.is ∙ ap (λ (z : List ℕ). numbers_text q ++ 10 ∷ z) e
    ∙ sym (append_assoc (numbers_text q ++ 10 ∷ []) lines more ∙ append_assoc (numbers_text q) (10 ∷ []) (lines ++ more))

-- it is a node's
pub node_breaks : (bytes : List ℕ) (q : BaseNumbers) (rest : List ℕ) (k : ℕ) → Starts AreCounts numbers_text bytes q rest → NodesBreak rest q.nodes k → BreaksAt bytes k
node_breaks bytes q rest k h b =
    let few = b.few in
    let many : length (place_lines b.items) ≡ length b.items = length-map b.items place_line in
    record {
      lines = Base q ∷ place_lines b.items;
      rest = b.rest;
      is = text_behind bytes q rest (lines_with_ends base_line_text (place_lines b.items)) b.rest h (b.read.is ∙ ap (λ (z : List ℕ). z ++ b.rest) (sym (ended_places b.items)));
      fit = (h.fits, fit_places b.items b.read.fit);
      follow = nodes_follow q.nodes q.edges 0 b.items (omega (arith, few)) b.read.rise;
      short = omega (arith, few, many);
      number = b.number ∙ omega (arith, many);
      stops = λ line more f m e.
          let next = node_comes q.nodes q.edges 0 b.items line few m in
          b.stops next.0 more next.2 (record { fits = subst IsBaseLine next.1 f; is = e ∙ ap (λ (z : BaseLine). base_line_text z ++ 10 ∷ more) next.1 });
    }

-- it is an edge's
pub edge_breaks : (bytes : List ℕ) (q : BaseNumbers) (rest : List ℕ) (places : List PlaceKept) (left : List ℕ) (k : ℕ) → Starts AreCounts numbers_text bytes q rest → NodesRead rest places left → length places ≡ q.nodes → EdgesBreak left q.edges (q.nodes + 2) k → BreaksAt bytes k
edge_breaks bytes q rest places left k h read all b =
    let few = b.few in
    let nodes = place_lines places in
    let edges = edge_lines b.items in
    let many : length (nodes ++ edges) ≡ q.nodes + length b.items = length-append nodes edges ∙ ap₂ (λ (m n : ℕ). m + n) (length-map places place_line ∙ all) (length-map b.items (λ edge. Link edge)) in
    let texts : lines_with_ends base_line_text (nodes ++ edges) ≡ lines_with_ends node_record_text places ++ lines_with_ends link_text b.items =
    flat_map-append (λ line. base_line_text line ++ 10 ∷ []) nodes edges ∙ ap₂ (λ (x y : List ℕ). x ++ y) (ended_places places) (ended_edges b.items)
    in
    record {
      lines = Base q ∷ (nodes ++ edges);
      rest = b.rest;
      is =
          text_behind bytes q rest (lines_with_ends base_line_text (nodes ++ edges)) b.rest h
          (read.is ∙ ap (λ (z : List ℕ). lines_with_ends node_record_text places ++ z) b.read.is ∙ sym (append_assoc (lines_with_ends node_record_text places) (lines_with_ends link_text b.items) b.rest) ∙ ap (λ (z : List ℕ). z ++ b.rest) (sym texts));
      fit = (h.fits, fit_both nodes edges (fit_places places read.fit) (fit_edges b.items b.read.fit));
      follow = all_follow q.nodes q.edges 0 places edges all read.rise (edges_follow q.edges (0, 0) b.items (omega (arith, few)) b.read.rise);
      short = omega (arith, few, many);
      number = b.number ∙ omega (arith, many);
      stops = λ line more f m e.
          let behind = past_nodes q.nodes q.edges 0 places (edges ++ line ∷ []) all (subst (λ (z : List BaseLine). NodesFollow q.nodes q.edges 0 z) (append_assoc nodes edges (line ∷ [])) m) in
          let next = edge_comes q.edges (0, 0) b.items line few behind in
          b.stops next.0 more next.2 (record { fits = subst IsBaseLine next.1 f; is = e ∙ ap (λ (z : BaseLine). base_line_text z ++ 10 ∷ more) next.1 });
    }

-- what holds of the error that was met
pub by_error : {T E : Type 0} (r : Result T E) (Q P : E → Type 0) → IsErrAnd r Q → ((e : E) → Q e → P e) → IfErr r P
by_error (Ok x) Q P h f = tt
by_error (Err e) Q P h f = f e h
