-- What the readers of a base's nodes and edges say of their bytes.
use Rattle.std.specs.Prelude.{◌≡◌, ℕ, ◌+◌, ◌<◌, List, [], ◌∷◌, ◌++◌, length}
use Rattle.std.specs.List.{AllByRecursion}
use Rattle.rule_machine.specs.declared.base.NodeRecord.{NodeRecord}
use Rattle.line_text.specs.Words.{lines_with_ends}
use Rattle.line_text.specs.BaseText.{node_record_text, link_text}
use Rattle.entry_grammar.specs.Spelling.{IsOrderedPair}
use Rattle.entry_grammar.specs.Parsing.{Starts}
use Rattle.entry_grammar.specs.BaseLines.{AscendByKey, IsEdgeAbove, IsNodeAbove, IsPlace, node_key}

-- the key of the last item; `last` if there are no items
abbrev pub last_key : {K X : Type 0} → (X → K) → K → List X → K
last_key key last [] = last
last_key key last (x ∷ xs) = last_key key (key x) xs

-- the bytes begin with the lines of these items, which ascend
pub record LinesRead {K X : Type 0} (fits : X → Type 0) (text : X → List ℕ) (above : K → X → Type 0) (key : X → K) (least : K) (bytes : List ℕ) (items : List X) (rest : List ℕ) : Type 0 where
  pub is : bytes ≡ lines_with_ends text items ++ rest
  pub fit : AllByRecursion fits items
  pub rise : AscendByKey above key least items

-- The bytes begin with fewer than `count` ascending items, of which the first is line `first`; then line k is
-- not an item that ascends further.
pub record LinesBreak {K X : Type 0} (fits : X → Type 0) (text : X → List ℕ) (above : K → X → Type 0) (key : X → K) (least : K) (bytes : List ℕ) (count first k : ℕ) : Type 0 where
  pub items : List X
  pub rest : List ℕ
  pub read : LinesRead fits text above key least bytes items rest
  pub few : length items < count
  pub number : k ≡ first + length items
  pub stops : (x : X) (more : List ℕ) → above (last_key key least items) x → Starts fits text rest x more → ⊥

-- the nodes; the first node is line 2
abbrev pub NodesRead : List ℕ → List NodeRecord → List ℕ → Type 0
NodesRead bytes places rest = LinesRead IsPlace node_record_text IsNodeAbove node_key 0 bytes places rest

abbrev pub NodesBreak : List ℕ → ℕ → ℕ → Type 0
NodesBreak bytes count k = LinesBreak IsPlace node_record_text IsNodeAbove node_key 0 bytes count 2 k

-- the edges
abbrev pub EdgesRead : List ℕ → List (ℕ × ℕ) → List ℕ → Type 0
EdgesRead bytes edges rest = LinesRead IsOrderedPair link_text IsEdgeAbove (λ edge. edge) (0, 0) bytes edges rest

abbrev pub EdgesBreak : List ℕ → ℕ → ℕ → ℕ → Type 0
EdgesBreak bytes count first k = LinesBreak IsOrderedPair link_text IsEdgeAbove (λ edge. edge) (0, 0) bytes count first k
