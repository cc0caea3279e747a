-- The table of epochs: a header, and a line for each epoch in order.
use Rattle.std.specs.Prelude.{ℕ, List, ◌++◌, Option, None, Some, codes}
use Rattle.std.specs.List.{flat_map}
use Rattle.rule_machine.specs.declared.base.EpochStart.{EpochStart}
use Rattle.rule_machine.specs.declared.base.EpochStart.TheVariants.{At, Forgotten}
use Rattle.rule_machine.specs.declared.rule_set.RuleSet.{RuleSet}
use Rattle.line_text.specs.Words.{number_text}
use Rattle.auditor.specs.declared.epoch.CostedEpoch.{CostedEpoch}
use Rattle.auditor.specs.Epochs.{bound_of}

-- a number, and the separator after the number
abbrev pub cell : ℕ → List ℕ
cell n = number_text n ++ codes ","

-- the entry that began an epoch; none if the epoch began before the transcript's opening base
abbrev pub start_cell : EpochStart → List ℕ
start_cell (At number) = cell number
start_cell Forgotten = codes "-,"

-- the bound on what the epoch's disturbance added to the charge; none for the first epoch
abbrev pub cost_text : Option ℕ → List ℕ
cost_text None = codes "-"
cost_text (Some cost) = number_text cost

-- the entry that began the epoch, its moves, edges and nodes, its bound, the cost of its disturbance, and its
-- complete rounds
abbrev pub epoch_row : RuleSet → CostedEpoch → List ℕ
epoch_row rules row =
    start_cell row.epoch.start ++ cell row.epoch.moves ++ cell row.epoch.edges ++ cell row.epoch.nodes ++ cell (bound_of rules row.epoch) ++ cost_text row.cost ++ codes "," ++ number_text row.rounds ++ codes "\n"

abbrev pub epoch_table : RuleSet → List CostedEpoch → List ℕ
epoch_table rules rows = codes "start,moves,edges,nodes,bound,cost,rounds\n" ++ flat_map (epoch_row rules) rows
