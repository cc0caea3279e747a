-- Whole lines at the beginning of a text.
use Rattle.audit_parts.proofs.Prelude.{◌≡◌, ◌≢◌, ℕ, ◌≤◌, zero, suc, List, [], ◌∷◌, ◌++◌, get_or, map, refl, sym, ap, subst, ◌∙◌, append_assoc, arith, AllByRecursion, RuleSet, lines_with_ends, base_head, base_text, BaseLine, Head, Place, Link, IsFree, IsBaseLine, base_line_text, IsShaped, base_lines, place_line, lines_of_base, EdgesFollow, NodesFollow, MayFollow, cons_parts, line_free, fit_both, fit_edges, fit_places, base_text_is, lines_follow, lines_text, EndsLine}
use Rattle.rule_machine.specs.declared.base.Base.{Base as BaseKept}
use Rattle.entry_grammar.specs.declared.base_line.BaseLine.TheVariants.{Base}

-- what holds of each item of two lists holds of each item of both
pub all_both : {X : Type 0} (P : X → Type 0) (xs ys : List X) → AllByRecursion P xs → AllByRecursion P ys → AllByRecursion P (xs ++ ys)
all_both P [] ys f g = g
all_both P (x ∷ xs) ys f g = (f.0, all_both P xs ys f.1 g)

-- ---- whole lines

pub ends_tail : (b : ℕ) (x : List ℕ) → EndsLine (b ∷ x) → EndsLine x
ends_tail b [] h = tt
ends_tail b (c ∷ x) h = h

pub ends_behind : (x y : List ℕ) → EndsLine (x ++ y) → EndsLine y
ends_behind [] y h = h
ends_behind (b ∷ x) y h = ends_behind x y (ends_tail b (x ++ y) h)

pub ends_line : (line rest : List ℕ) → EndsLine rest → EndsLine (line ++ 10 ∷ rest)
ends_line [] [] h = refl
ends_line [] (c ∷ rest) h = h
ends_line (b ∷ []) rest h = ends_line [] rest h
ends_line (b ∷ c ∷ line) rest h = ends_line (c ∷ line) rest h

pub ends_both : (x y : List ℕ) → EndsLine x → EndsLine y → EndsLine (x ++ y)
ends_both [] y f g = g
ends_both (b ∷ []) [] f g = f
ends_both (b ∷ []) (c ∷ y) f g = g
ends_both (b ∷ c ∷ x) y f g = ends_both (c ∷ x) y f g

pub no_empty : (b : ℕ) (x : List ℕ) → b ∷ x ≡ [] → ⊥
no_empty b x e = absurd cc

-- without a line feed they are none
pub ends_free : (x : List ℕ) → EndsLine x → IsFree 10 x → x ≡ []
ends_free [] h f = refl
ends_free (b ∷ []) h f = absurd (f.0 h)
ends_free (b ∷ c ∷ x) h f = absurd (no_empty c x (ends_free (c ∷ x) h f.1))

-- ---- whole lines that are longer than a line

-- a text is passed: the lines begin with it, and what is left of them goes on at its end
pub record Skipped (text rest x z : List ℕ) : Type 0 where
  pub left : List ℕ
  pub is : x ≡ text ++ left
  pub lines : EndsLine left
  pub behind : rest ≡ left ++ z

pub skip_line : (line rest x z : List ℕ) → IsFree 10 line → EndsLine x → x ≢ [] → line ++ 10 ∷ rest ≡ x ++ z → Skipped (line ++ 10 ∷ []) rest x z
skip_line line rest [] z free ends some e = absurd (some refl)
skip_line [] rest (b ∷ x) z free ends some e =
    let p = cons_parts 10 b rest (x ++ z) e in
    record { left = x; is = ap (λ (c : ℕ). c ∷ x) (sym p.0); lines = ends_tail b x ends; behind = p.1 }
skip_line (a ∷ line) rest (b ∷ []) z free ends some e =
    absurd (free.0 ((cons_parts a b (line ++ 10 ∷ rest) z e).0 ∙ ends))
skip_line (a ∷ line) rest (b ∷ c ∷ x) z free ends some e =
    let p = cons_parts a b (line ++ 10 ∷ rest) ((c ∷ x) ++ z) e in
    let more = skip_line line rest (c ∷ x) z free.1 ends (no_empty c x) p.1 in
    record {
      left = more.left;
      is = ap (λ (d : ℕ). d ∷ c ∷ x) (sym p.0) ∙ ap (λ (l : List ℕ). a ∷ l) more.is;
      lines = more.lines;
      behind = more.behind;
    }

-- if the line begins with another byte than what follows the lines
pub skip_other : (line rest x z : List ℕ) → IsFree 10 line → EndsLine x → (line ++ 10 ∷ rest ≡ z → ⊥) → line ++ 10 ∷ rest ≡ x ++ z → Skipped (line ++ 10 ∷ []) rest x z
skip_other line rest [] z free ends other e = absurd (other e)
skip_other line rest (b ∷ x) z free ends other e = skip_line line rest (b ∷ x) z free ends (no_empty b x) e

-- two texts in turn
pub skip_both : (text more rest x z : List ℕ) (first : Skipped text (more ++ rest) x z) → Skipped more rest first.left z → Skipped (text ++ more) rest x z
skip_both text more rest x z first second = record {
  left = second.left;
  is = first.is ∙ ap (λ (l : List ℕ). text ++ l) second.is ∙ sym (append_assoc text more second.left);
  lines = second.lines;
  behind = second.behind;
}

-- ---- the lines of a base behind its head begin with another byte than a base

abbrev pub IsInner : BaseLine → Type 0
IsInner (Head rules size) = ⊥
IsInner line = Unit {0}

inner_other : (line : BaseLine) (more z : List ℕ) → IsInner line → base_line_text line ++ 10 ∷ more ≡ 109 ∷ z → ⊥
inner_other (Head rules size) more z inner e = inner
inner_other line more z inner e = omega (arith, ap (λ (l : List ℕ). get_or l 0 0) e)

edges_inner : (left : ℕ) (last : ℕ × ℕ) (lines : List BaseLine) → EdgesFollow left last lines → AllByRecursion IsInner lines
edges_inner left last [] h = tt
edges_inner (suc left) last (Link edge ∷ lines) h = (tt, edges_inner left edge lines h.1)
edges_inner left last (line ∷ lines) h = absurd h

nodes_inner : (left edges last : ℕ) (lines : List BaseLine) → NodesFollow left edges last lines → AllByRecursion IsInner lines
nodes_inner left edges last [] h = tt
nodes_inner zero edges last (line ∷ lines) h = edges_inner edges (0, 0) (line ∷ lines) h
nodes_inner (suc left) edges last (Place node target flagged ∷ lines) h = (tt, nodes_inner left edges node lines h.1)
nodes_inner (suc left) edges last (line ∷ lines) h = absurd h

pub follow_inner : (lines : List BaseLine) → MayFollow lines → AllByRecursion IsInner lines
follow_inner [] h = tt
follow_inner (Base q ∷ lines) h = (tt, nodes_inner q.nodes q.edges 0 lines h)
follow_inner (line ∷ lines) h = absurd h

-- so what begins as a base comes after them
pub skip_lines : (lines : List BaseLine) → AllByRecursion IsBaseLine lines → AllByRecursion IsInner lines → (rest x z : List ℕ) → EndsLine x → lines_with_ends base_line_text lines ++ rest ≡ x ++ 109 ∷ z → Skipped (lines_with_ends base_line_text lines) rest x (109 ∷ z)
skip_lines [] fit inner rest x z ends e = record { left = x; is = refl; lines = ends; behind = e }
skip_lines (line ∷ lines) fit inner rest x z ends e =
    let text = base_line_text line in
    let more = lines_with_ends base_line_text lines in
    let first = skip_other text (more ++ rest) x (109 ∷ z) (line_free line fit.0) ends (inner_other line (more ++ rest) z inner.0) (simp append_assoc at e) in
    skip_both (text ++ 10 ∷ []) more rest x (109 ∷ z) first (skip_lines lines fit.1 inner.1 rest first.left z first.lines first.behind)

-- ---- a base

pub base_fits : (base : BaseKept) → IsShaped base → AllByRecursion IsBaseLine (lines_of_base base)
base_fits base is =
    ((is.number, is.spent, is.nodes, is.edges), fit_both (map place_line base.nodes) (map (λ edge. Link edge) base.edges) (fit_places base.nodes is.places) (fit_edges base.edges is.links))

-- the head, and what follows it
pub base_behind : (rules : RuleSet) (size : ℕ) (base : BaseKept) (rest : List ℕ) → base_text rules size base ++ rest ≡ base_head rules size ++ 10 ∷ (base_lines base ++ rest)
base_behind rules size base rest =
    ap (λ (l : List ℕ). l ++ rest) (base_text_is rules size base)
    ∙ append_assoc (base_head rules size ++ 10 ∷ []) (base_lines base) rest
    ∙ append_assoc (base_head rules size) (10 ∷ []) (base_lines base ++ rest)

-- inside a base none begins
pub skip_base : (rules : RuleSet) (size : ℕ) (base : BaseKept) → size ≤ 65535 → IsShaped base → (rest x z : List ℕ) → EndsLine x → x ≢ [] → base_text rules size base ++ rest ≡ x ++ 109 ∷ z → Skipped (base_text rules size base) rest x (109 ∷ z)
skip_base rules size base few shaped rest x z ends some e =
    let head = base_head rules size in
    let lines = base_lines base in
    let first = skip_line head (lines ++ rest) x (109 ∷ z) (line_free (Head rules size) few) ends some (sym (base_behind rules size base rest) ∙ e) in
    let others = skip_lines (lines_of_base base) (base_fits base shaped) (follow_inner (lines_of_base base) (lines_follow base shaped)) rest first.left z first.lines (ap (λ (l : List ℕ). l ++ rest) (lines_text base) ∙ first.behind) in
    let both = skip_both (head ++ 10 ∷ []) lines rest x (109 ∷ z) first (subst (λ (l : List ℕ). Skipped l rest first.left (109 ∷ z)) (lines_text base) others) in
    subst (λ (l : List ℕ). Skipped l rest x (109 ∷ z)) (sym (base_text_is rules size base)) both
