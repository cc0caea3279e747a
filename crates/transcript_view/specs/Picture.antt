-- The picture of a state: a Graphviz graph, with a line for each node and each edge.
use Rattle.std.specs.Prelude.{ℕ, Bool, true, false, List, [], ◌++◌, Option, None, Some, filter, nat_lt, codes}
use Rattle.std.specs.List.{flat_map}
use Rattle.rule_machine.specs.declared.act.Act.{Act}
use Rattle.rule_machine.specs.declared.rule_set.RuleSet.{RuleSet}
use Rattle.rule_machine.specs.Network.{Network, names, neighbours}
use Rattle.rule_machine.specs.State.{State, points, married}
use Rattle.rule_machine.specs.RuleTable.{RuleTable, rule_at}
use Rattle.rule_machine.specs.Tables.{table_of}
use Rattle.line_text.specs.Words.{number_text}
use Rattle.line_text.specs.ReplyText.{act_word}

-- the rule of an enabled node, as the second line of its label
abbrev pub rule_text : Option Act → List ℕ
rule_text None = []
rule_text (Some act) = codes "\\n" ++ act_word act

-- a married node is filled
abbrev pub fill_text : Bool → List ℕ
fill_text false = []
fill_text true = codes ", style=filled"

-- the line of a node
abbrev pub node_line : RuleTable → State → ℕ → List ℕ
node_line t s v =
    number_text v ++ codes " [label=\"" ++ number_text v ++ rule_text (rule_at t s v) ++ codes "\"" ++ fill_text (married s v) ++ codes "];\n"

-- The style of an edge, by whether its lower end and its higher end point along the edge: bold for a mutual
-- pair, an arrow for one pointer.
abbrev pub style_text : Bool → Bool → List ℕ
style_text true true = codes " [style=bold]"
style_text true false = codes " [dir=forward]"
style_text false true = codes " [dir=back]"
style_text false false = []

-- the line of the edge from a to the higher node b
abbrev pub edge_line : State → ℕ → ℕ → List ℕ
edge_line s a b =
    number_text a ++ codes " -- " ++ number_text b ++ style_text (points s.registers a b) (points s.registers b a) ++ codes ";\n"

-- the higher neighbours of a node, ascending
abbrev pub above : Network → ℕ → List ℕ
above net v = filter (nat_lt v) (neighbours net v)

-- the lines of the edges from a node to its higher neighbours, ascending
abbrev pub edge_lines_at : State → ℕ → List ℕ
edge_lines_at s v = flat_map (edge_line s v) (above s.network v)

-- the nodes' lines in ascending order, then the edges' lines, ascending by their lower ends
abbrev pub picture_of : RuleSet → State → List ℕ
picture_of rules s =
    codes "graph matching {\n" ++ flat_map (node_line (table_of rules) s) (names s.network) ++ flat_map (edge_lines_at s) (names s.network) ++ codes "}\n"
