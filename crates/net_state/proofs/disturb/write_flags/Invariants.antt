use Rattle.net_state.proofs.Prelude.{◌≡◌, List, Bool, fold, drop, flag_read}
use Rattle.net_state.proofs.disturb.write_flags.Given as goal

abbrev pub invariant-loop-moved : goal.invariant-loop-moved
invariant-loop-moved g l = record {
  rest : fold flag_read l.net.state.registers (drop l.moved-index l.moves) ≡ fold flag_read l.fn.net.state.registers l.moves;
  network : l.net.state.network ≡ l.fn.net.state.network;
  fits : g.O.Observer.fits l.net l.observer;
  stays : (names : List Bool) → g.O.Observer.stays names l.fn.observer → g.O.Observer.stays names l.observer;
}
