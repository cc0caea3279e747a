use Rattle.net_state.proofs.Prelude.{◌≡◌, filter_map, range_with_len, place_in}
use Rattle.net_state.proofs.net.NetState.list_places.Given as goal

abbrev pub invariant-loop-below : goal.invariant-loop-below
invariant-loop-below l = l.places.items ≡ filter_map (place_in l.self.state) (range_with_len 1 l.below)
