-- The lines of a base. Each ends with an LF.
use Rattle.std.specs.Prelude.{ℕ, List, [], ◌∷◌, ◌++◌, length, codes}
use Rattle.rule_machine.specs.declared.base.NodeRecord.{NodeRecord}
use Rattle.rule_machine.specs.declared.base.Base.{Base}
use Rattle.rule_machine.specs.declared.rule_set.RuleSet.{RuleSet}
use Rattle.rule_machine.specs.Tables.{rules_word}
use Rattle.line_text.specs.Words.{number_text, lines_with_ends, joined_texts}
use Rattle.line_text.specs.ReplyText.{field_text}
use Rattle.line_text.specs.EventText.{pair_text, target_text, bool_text}

-- the rule set, and the number of names
abbrev pub base_head : RuleSet → ℕ → List ℕ
base_head rules size = codes "matching2 " ++ rules_word rules ++ codes " " ++ number_text size

-- the fields of a base's second line: how many entries led to the base, the moves spent, and the
-- numbers of nodes and edges; each field except the first has a name
abbrev pub base_fields : ℕ → ℕ → ℕ → ℕ → List (List ℕ × ℕ)
base_fields number spent nodes edges =
    (codes "", number) ∷ (codes "spent=", spent) ∷ (codes "nodes=", nodes) ∷ (codes "edges=", edges) ∷ []

abbrev pub base_counts : ℕ → ℕ → ℕ → ℕ → List ℕ
base_counts number spent nodes edges = codes "base " ++ joined_texts field_text (base_fields number spent nodes edges)

-- the line with the four numbers of a base
abbrev pub numbers_line : Base → List ℕ
numbers_line base = base_counts base.number base.spent (length base.nodes) (length base.edges)

-- a node, its pointer, and its flag
abbrev pub node_record_text : NodeRecord → List ℕ
node_record_text place = codes "node " ++ number_text place.node ++ codes " " ++ target_text place.target ++ codes " " ++ bool_text place.flagged

-- an edge, by its lower and its higher end
abbrev pub link_text : ℕ × ℕ → List ℕ
link_text edge = codes "edge " ++ pair_text edge.0 edge.1

-- all lines of a base of `size` names
abbrev pub base_text : RuleSet → ℕ → Base → List ℕ
base_text rules size base =
    (base_head rules size ++ 10 ∷ []) ++ (numbers_line base ++ 10 ∷ []) ++ lines_with_ends node_record_text base.nodes ++ lines_with_ends link_text base.edges
