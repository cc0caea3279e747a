-- The lines of a base after its first line (the head): their order, their text, and the first wrong
-- line of a text.
use Rattle.std.specs.Prelude.{◌≡◌, ℕ, zero, suc, ◌+◌, ◌<◌, ◌⊎◌, List, [], ◌∷◌, ◌++◌, length, map, IfSome}
use Rattle.std.specs.List.{AllByRecursion}
use Rattle.rule_machine.specs.declared.base.NodeRecord.{NodeRecord as PlaceKept}
use Rattle.rule_machine.specs.declared.base.Base.{Base as BaseKept}
use Rattle.line_text.specs.Words.{IsName, lines_with_ends}
use Rattle.line_text.specs.ReplyText.{IsCountValue}
use Rattle.line_text.specs.BaseText.{numbers_line, node_record_text, link_text}
use Rattle.entry_grammar.specs.declared.base_line.BaseLine.{BaseLine}
use Rattle.entry_grammar.specs.declared.base_line.BaseNumbers.{BaseNumbers}
use Rattle.entry_grammar.specs.declared.base_line.BaseLine.TheVariants.{Base, Place, Link}
use Rattle.entry_grammar.specs.Spelling.{IsOrderedPair, IsBaseLine, base_line_text}

-- `edge` comes after `last`: its lower end is above that of `last`, or the lower ends are equal and
-- its higher end is above
abbrev pub IsEdgeAbove : ℕ × ℕ → ℕ × ℕ → Type 0
IsEdgeAbove last edge = (last.0 < edge.0) ⊎ ((last.0 ≡ edge.0) × (last.1 < edge.1))

-- a node comes after one with this name
abbrev pub IsNodeAbove : ℕ → PlaceKept → Type 0
IsNodeAbove last place = last < place.node

abbrev pub node_key : PlaceKept → ℕ
node_key place = place.node

-- items ascend: the first comes after `last`, and each after the key of the one before it
abbrev pub AscendByKey : {K X : Type 0} → (K → X → Type 0) → (X → K) → K → List X → Type 0
AscendByKey above key last [] = Unit {0}
AscendByKey above key last (x ∷ xs) = above last x × AscendByKey above key (key x) xs

-- the nodes ascend by name, all above `last`
abbrev pub NodesRise : ℕ → List PlaceKept → Type 0
NodesRise last places = AscendByKey IsNodeAbove node_key last places

-- the edges ascend, all after `last`
abbrev pub EdgesRise : ℕ × ℕ → List (ℕ × ℕ) → Type 0
EdgesRise last edges = AscendByKey IsEdgeAbove (λ edge. edge) last edges

abbrev pub IsPlace : PlaceKept → Type 0
IsPlace place = IsName place.node × IfSome place.target IsName

-- a base whose lines can be read: its numbers fit their fields, and its nodes and edges have names and ascend
pub record IsShaped (base : BaseKept) : Type 0 where
  pub number : IsCountValue base.number
  pub spent : IsCountValue base.spent
  pub nodes : IsCountValue (length base.nodes)
  pub edges : IsCountValue (length base.edges)
  pub places : AllByRecursion IsPlace base.nodes
  pub links : AllByRecursion IsOrderedPair base.edges
  pub nodes_rise : NodesRise 0 base.nodes
  pub edges_rise : EdgesRise (0, 0) base.edges

-- The text of all lines of a base except its head. `one_base` proves that a text begins with those of at most
-- one base.
abbrev pub base_lines : BaseKept → List ℕ
base_lines base =
    (numbers_line base ++ 10 ∷ []) ++ (lines_with_ends node_record_text base.nodes ++ lines_with_ends link_text base.edges)

-- ---- the lines as values

abbrev pub place_line : PlaceKept → BaseLine
place_line place = Place place.node place.target place.flagged

abbrev pub base_numbers : BaseKept → BaseNumbers
base_numbers base = record { number = base.number; spent = base.spent; nodes = length base.nodes; edges = length base.edges }

abbrev pub lines_of_base : BaseKept → List BaseLine
lines_of_base base = Base (base_numbers base) ∷ (map place_line base.nodes ++ map (λ edge. Link edge) base.edges)

-- the lines are at most `left` edges, which ascend and come after `last`
abbrev pub EdgesFollow : (left : ℕ) → (last : ℕ × ℕ) → List BaseLine → Type 0
EdgesFollow left last [] = Unit {0}
EdgesFollow (suc left) last (Link edge ∷ lines) = IsEdgeAbove last edge × EdgesFollow left edge lines
EdgesFollow left last (line ∷ lines) = ⊥

-- The lines are at most `left` nodes, which ascend and are above `last`. After exactly `left` nodes
-- there may be edges: at most `edges`, which ascend.
abbrev pub NodesFollow : (left edges last : ℕ) → List BaseLine → Type 0
NodesFollow left edges last [] = Unit {0}
NodesFollow zero edges last lines = EdgesFollow edges (0, 0) lines
NodesFollow (suc left) edges last (Place node target flagged ∷ lines) = (last < node) × NodesFollow left edges node lines
NodesFollow (suc left) edges last (line ∷ lines) = ⊥

-- the lines are the first lines of a base, perhaps not all: the numbers, the nodes, then the edges
abbrev pub MayFollow : List BaseLine → Type 0
MayFollow [] = Unit {0}
MayFollow (Base q ∷ lines) = NodesFollow q.nodes q.edges 0 lines
MayFollow (line ∷ lines) = ⊥

-- there are fewer lines than the base's numbers say
abbrev pub LacksLines : List BaseLine → Type 0
LacksLines [] = Unit {0}
LacksLines (Base q ∷ lines) = length lines < q.nodes + q.edges
LacksLines (line ∷ lines) = ⊥

-- Line k, counted from 1, is the first wrong line: the lines before line k are the first lines of a
-- base, but not all. The rest does not begin with a line, with its LF, that may come next.
pub record BreaksAt (bytes : List ℕ) (k : ℕ) : Type 0 where
  pub lines : List BaseLine
  pub rest : List ℕ
  pub is : bytes ≡ lines_with_ends base_line_text lines ++ rest
  pub fit : AllByRecursion IsBaseLine lines
  pub follow : MayFollow lines
  pub short : LacksLines lines
  pub number : k ≡ length lines + 1
  pub stops : (line : BaseLine) (more : List ℕ) → IsBaseLine line → MayFollow (lines ++ line ∷ []) → rest ≡ base_line_text line ++ 10 ∷ more → ⊥
