-- A text begins with the lines of one base at most, and they break off at one line at most.
use Rattle.entry_grammar.proofs.Prelude.{◌≡◌, ℕ, zero, suc, ◌+◌, ◌⊎◌, inl, inr, List, [], ◌∷◌, ◌++◌, length, map, refl, sym, ap, ap₂, subst, ◌∙◌, append_assoc, arith, IsInRange, AllByRecursion, flat_map-append, length-map, append-nil, RuleSet, lines_with_ends, base_head, numbers_line, node_record_text, link_text, base_text, BaseLine, BaseNumbers, Base, Place, Link, IsBaseLine, base_line_text, IsShaped, base_lines, place_line, base_numbers, lines_of_base, EdgesFollow, NodesFollow, MayFollow, LacksLines, BreaksAt, lines_back}
use Rattle.std.proofs.lemmas.List.{length-append}
use Rattle.rule_machine.specs.declared.base.Base.{Base as BaseKept}
use Rattle.entry_grammar.proofs.Free.{mark_once}
use Rattle.entry_grammar.proofs.BaseBreaks.{all_follow, edges_follow, ended_edges, ended_places, fit_both, fit_edges, fit_places}
use Rattle.entry_grammar.proofs.BaseLines.{link_back, record_back, spells_base_line_once}
use Rattle.entry_grammar.proofs.FirstLines.{line_free}

-- ---- two lists of lines at the beginning of one text

abbrev text : List BaseLine → List ℕ
text lines = lines_with_ends base_line_text lines

-- one line and the rest
one_line : (line : BaseLine) (lines : List BaseLine) (x : List ℕ) → text (line ∷ lines) ++ x ≡ base_line_text line ++ 10 ∷ (text lines ++ x)
one_line line lines x = append_assoc (base_line_text line ++ 10 ∷ []) (text lines) x ∙ append_assoc (base_line_text line) (10 ∷ []) (text lines ++ x)

-- the second continues after the first
record GoesOn (ls ms : List BaseLine) (x y : List ℕ) : Type 0 where
  more : List BaseLine
  is : ms ≡ ls ++ more
  behind : x ≡ text more ++ y
  fit : AllByRecursion IsBaseLine more

goes_more : (a b : BaseLine) (ls ms : List BaseLine) (x y : List ℕ) → a ≡ b → GoesOn ls ms x y → GoesOn (a ∷ ls) (b ∷ ms) x y
goes_more a b ls ms x y same g = record { more = g.more; is = ap (λ l. l ∷ ms) (sym same) ∙ ap (λ l. a ∷ l) g.is; behind = g.behind; fit = g.fit }

meet : (ls ms : List BaseLine) (x y : List ℕ) → AllByRecursion IsBaseLine ls → AllByRecursion IsBaseLine ms → text ls ++ x ≡ text ms ++ y → GoesOn ls ms x y ⊎ GoesOn ms ls y x
meet [] ms x y f g e = inl (record { more = ms; is = refl; behind = e; fit = g })
meet (a ∷ ls) [] x y f g e = inr (record { more = a ∷ ls; is = refl; behind = sym e; fit = f })
meet (a ∷ ls) (b ∷ ms) x y f g e =
    let cut = mark_once 10 (base_line_text a) (base_line_text b) (text ls ++ x) (text ms ++ y) (line_free a f.0) (line_free b g.0) (sym (one_line a ls x) ∙ e ∙ one_line b ms y) in
    let same = spells_base_line_once (base_line_text a) a b (record { fits = f.0; is = refl }) (record { fits = g.0; is = cut.0 }) in
    go same (meet ls ms x y f.1 g.1 cut.1)
  where
    go : a ≡ b → GoesOn ls ms x y ⊎ GoesOn ms ls y x → GoesOn (a ∷ ls) (b ∷ ms) x y ⊎ GoesOn (b ∷ ms) (a ∷ ls) y x
    go same (inl h) = inl (goes_more a b ls ms x y same h)
    go same (inr h) = inr (goes_more b a ms ls y x (sym same) h)

-- ---- the first of lines that follow one another do so

edges_front : (left : ℕ) (last : ℕ × ℕ) (some more : List BaseLine) → EdgesFollow left last (some ++ more) → EdgesFollow left last some
edges_front left last [] more h = tt
edges_front zero last (line ∷ some) more h = h
edges_front (suc left) last (Link edge ∷ some) more h = (h.0, edges_front left edge some more h.1)
edges_front (suc left) last (line ∷ some) more h = h

nodes_front : (left edges last : ℕ) (some more : List BaseLine) → NodesFollow left edges last (some ++ more) → NodesFollow left edges last some
nodes_front left edges last [] more h = tt
nodes_front zero edges last (line ∷ some) more h = edges_front edges (0, 0) (line ∷ some) more h
nodes_front (suc left) edges last (Place node target flagged ∷ some) more h = (h.0, nodes_front left edges node some more h.1)
nodes_front (suc left) edges last (line ∷ some) more h = h

follow_front : (some more : List BaseLine) → MayFollow (some ++ more) → MayFollow some
follow_front [] more h = tt
follow_front (Base q ∷ some) more h = nodes_front q.nodes q.edges 0 some more h
follow_front (line ∷ some) more h = h

-- ---- the lines of a base

all_lines : (base : BaseKept) → IsShaped base → AllByRecursion IsBaseLine (lines_of_base base)
all_lines base is =
    ((is.number, is.spent, is.nodes, is.edges), fit_both (map place_line base.nodes) (map (λ edge. Link edge) base.edges) (fit_places base.nodes is.places) (fit_edges base.edges is.links))

pub lines_follow : (base : BaseKept) → IsShaped base → MayFollow (lines_of_base base)
lines_follow base is =
    all_follow (length base.nodes) (length base.edges) 0 base.nodes (map (λ edge. Link edge) base.edges) refl is.nodes_rise
    (edges_follow (length base.edges) (0, 0) base.edges (omega arith) is.edges_rise)

pub lines_text : (base : BaseKept) → text (lines_of_base base) ≡ base_lines base
lines_text base =
    ap (λ t. (numbers_line base ++ 10 ∷ []) ++ t)
    (flat_map-append (λ line. base_line_text line ++ 10 ∷ []) (map place_line base.nodes) (map (λ edge. Link edge) base.edges) ∙ ap₂ (λ (x y : List ℕ). x ++ y) (ended_places base.nodes) (ended_edges base.edges))

-- the text of a base is its head and these lines
pub base_text_is : (rules : RuleSet) (size : ℕ) (base : BaseKept) → base_text rules size base ≡ (base_head rules size ++ 10 ∷ []) ++ base_lines base
base_text_is rules size base =
    let head = base_head rules size ++ 10 ∷ [] in
    let counts = numbers_line base ++ 10 ∷ [] in
    append_assoc (head ++ counts) (lines_with_ends node_record_text base.nodes) (lines_with_ends link_text base.edges)
    ∙ append_assoc head counts (lines_with_ends node_record_text base.nodes ++ lines_with_ends link_text base.edges)

-- the lines after the first
abbrev tail_of : BaseKept → List BaseLine
tail_of base = map place_line base.nodes ++ map (λ edge. Link edge) base.edges

abbrev first_of : BaseKept → BaseLine
first_of base = Base (base_numbers base)

tail_len : (base : BaseKept) → length (tail_of base) ≡ length base.nodes + length base.edges
tail_len base =
    omega (arith, length-append {A = BaseLine}, length-map base.nodes place_line, length-map base.edges (λ edge. Link edge))

pub same_numbers : (p q : BaseNumbers) → Base p ≡ Base q → p ≡ q
same_numbers p q e = cc

-- the first line, and what follows it
first_line_is : (base : BaseKept) (rest : List ℕ) → base_lines base ++ rest ≡ numbers_line base ++ 10 ∷ (lines_with_ends node_record_text base.nodes ++ (lines_with_ends link_text base.edges ++ rest))
first_line_is base rest =
    let nodes = lines_with_ends node_record_text base.nodes in
    let edges = lines_with_ends link_text base.edges in
    append_assoc (numbers_line base ++ 10 ∷ []) (nodes ++ edges) rest ∙ append_assoc (numbers_line base) (10 ∷ []) ((nodes ++ edges) ++ rest) ∙ ap (λ (z : List ℕ). numbers_line base ++ 10 ∷ z) (append_assoc nodes edges rest)

pub base_once : (bytes : List ℕ) (a b : BaseKept) (x y : List ℕ) → IsShaped a → IsShaped b → bytes ≡ base_lines a ++ x → bytes ≡ base_lines b ++ y → (a ≡ b) × (x ≡ y)
base_once bytes a b x y f g d e =
    let fits_a : IsBaseLine (first_of a) = (f.number, f.spent, f.nodes, f.edges) in
    let fits_b : IsBaseLine (first_of b) = (g.number, g.spent, g.nodes, g.edges) in
    let cut = mark_once 10 (numbers_line a) (numbers_line b) (lines_with_ends node_record_text a.nodes ++ (lines_with_ends link_text a.edges ++ x)) (lines_with_ends node_record_text b.nodes ++ (lines_with_ends link_text b.edges ++ y)) (line_free (first_of a) fits_a) (line_free (first_of b) fits_b)
    (sym (first_line_is a x) ∙ sym d ∙ e ∙ first_line_is b y) in
    let line = spells_base_line_once (numbers_line a) (first_of a) (first_of b) (record { fits = fits_a; is = refl }) (record { fits = fits_b; is = cut.0 }) in
    let same = same_numbers (base_numbers a) (base_numbers b) line in
    let node_count = ap (λ (q : BaseNumbers). q.nodes) same in
    let edge_count = ap (λ (q : BaseNumbers). q.edges) same in
    let nodes = lines_back record_back (λ place r. tt) a.nodes b.nodes (lines_with_ends link_text a.edges ++ x) (lines_with_ends link_text b.edges ++ y) f.places g.places node_count cut.1 in
    let edges = lines_back link_back (λ edge r (h : IsInRange 48 57 10). omega (arith, h.0)) a.edges b.edges x y f.links g.links edge_count nodes.1 in
    (λ i. record { number = (same i).number; spent = (same i).spent; nodes = nodes.0 i; edges = edges.0 i }, edges.1)

-- ---- the break of lines

-- lines that may come next do not come at a break
not_behind : (bytes : List ℕ) (k : ℕ) (b : BreaksAt bytes k) (lines : List BaseLine) (y : List ℕ) → MayFollow lines → GoesOn b.lines lines b.rest y → lines ≡ b.lines
not_behind bytes k b lines y follow g = go g.more g.is g.behind g.fit
  where
    go : (more : List BaseLine) → lines ≡ b.lines ++ more → b.rest ≡ text more ++ y → AllByRecursion IsBaseLine more → lines ≡ b.lines
    go [] is behind fit = is ∙ append-nil b.lines
    go (line ∷ more) is behind fit =
        let next : (b.lines ++ line ∷ []) ++ more ≡ lines = append_assoc b.lines (line ∷ []) more ∙ sym is in
        absurd (b.stops line (text more ++ y) fit.0 (follow_front (b.lines ++ line ∷ []) more (subst MayFollow (sym next) follow)) (behind ∙ one_line line more y))

pub breaks_once : (bytes : List ℕ) (k l : ℕ) → BreaksAt bytes k → BreaksAt bytes l → k ≡ l
breaks_once bytes k l b c = go (meet b.lines c.lines b.rest c.rest b.fit c.fit (sym b.is ∙ c.is))
  where
    go : GoesOn b.lines c.lines b.rest c.rest ⊎ GoesOn c.lines b.lines c.rest b.rest → k ≡ l
    go (inl h) = b.number ∙ ap (λ ls. length ls + 1) (sym (not_behind bytes k b c.lines c.rest c.follow h)) ∙ sym c.number
    go (inr h) = b.number ∙ ap (λ ls. length ls + 1) (not_behind bytes l c b.lines b.rest b.follow h) ∙ sym c.number

-- a whole base is not short, and neither is what continues it
not_short : (base : BaseKept) (more : List BaseLine) → LacksLines (lines_of_base base ++ more) → ⊥
not_short base more short = omega (arith, short, length-append (tail_of base) more, tail_len base)

pub base_unbroken : (bytes : List ℕ) (base : BaseKept) (rest : List ℕ) (k : ℕ) → IsShaped base → bytes ≡ base_lines base ++ rest → BreaksAt bytes k → ⊥
base_unbroken bytes base rest k shaped e b =
    go (meet b.lines (lines_of_base base) b.rest rest b.fit (all_lines base shaped) (sym b.is ∙ e ∙ sym (ap (λ t. t ++ rest) (lines_text base))))
  where
    go : GoesOn b.lines (lines_of_base base) b.rest rest ⊎ GoesOn (lines_of_base base) b.lines rest b.rest → ⊥
    go (inl h) =
        let same = not_behind bytes k b (lines_of_base base) rest (lines_follow base shaped) h in
        not_short base [] (subst LacksLines (sym same ∙ sym (append-nil (lines_of_base base))) b.short)
    go (inr h) = not_short base h.more (subst LacksLines h.is b.short)
