use Rattle.suitor_index.proofs.EdgeAddition.{unlinked_told, first_turns, second_turns, edge_index}
use Rattle.suitor_index.proofs.changes.unlinked.Goals as goal

pub count_end-requires-clause-turns : goal.count_end-requires-clause-turns
count_end-requires-clause-turns g c = first_turns _ _ _ _ _ _ _ _ (unlinked_told _ _ _ _ _ _ c.requires.told)

pub count_end-requires-2-clause-turns : goal.count_end-requires-2-clause-turns
count_end-requires-2-clause-turns g c = second_turns _ _ _ _ _ _ _ _ (unlinked_told _ _ _ _ _ _ c.requires.told) _ c.count_end.ensures

pub returns : goal.returns
returns g c = edge_index _ _ _ _ _ _ _ _ (unlinked_told _ _ _ _ _ _ c.requires.told) _ _ c.count_end.ensures c.count_end-2.ensures
