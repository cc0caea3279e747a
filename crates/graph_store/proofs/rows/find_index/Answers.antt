use Rattle.graph_store.proofs.Prelude.{sym, ◌∙◌, true≢false}
use Rattle.graph_store.proofs.AscendingLists.{absent_at_gap, there_at_place}
use Rattle.graph_store.proofs.rows.find_index.Goals as goal

pub returns-in-Ok-clause-gap : goal.returns-in-Ok-clause-gap
returns-in-Ok-clause-gap c absent = absurd (true≢false (sym (there_at_place c.args.row.now c.args.name c.in-Ok.place c.in-Ok.ensures) ∙ absent))

pub returns-in-Err-clause-place : goal.returns-in-Err-clause-place
returns-in-Err-clause-place c there = absurd (true≢false (sym there ∙ absent_at_gap c.args.row.now c.args.name c.in-Err.gap c.in-Err.ensures))
