use Rattle.transcript_view.proofs.Prelude.{◌≡◌, ◌++◌, take, codes, flat_map, epoch_row}
use Rattle.transcript_view.proofs.table.epoch_table.Given as goal

abbrev pub invariant-loop-row : goal.invariant-loop-row
invariant-loop-row l = l.out.items ≡ codes "start,moves,edges,nodes,bound,cost,rounds\n" ++ flat_map (epoch_row l.epochs.rules) (take l.row-index l.epochs.list.items)
