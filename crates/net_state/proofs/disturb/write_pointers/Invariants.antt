use Rattle.net_state.proofs.Prelude.{◌≡◌, List, Bool, fold, drop, pointer_written}
use Rattle.net_state.proofs.disturb.write_pointers.Given as goal

abbrev pub invariant-loop-moved : goal.invariant-loop-moved
invariant-loop-moved g l = record {
  rest : fold pointer_written l.net.state.registers (drop l.moved-index l.moves) ≡ fold pointer_written l.fn.net.state.registers l.moves;
  network : l.net.state.network ≡ l.fn.net.state.network;
  fits : g.O.Observer.fits l.net l.observer;
  stays : (names : List Bool) → g.O.Observer.stays names l.fn.observer → g.O.Observer.stays names l.observer;
}
