use Rattle.net_state.proofs.Prelude.{rules}
use Rattle.net_state.proofs.disturb.set_flag.Goals as goal

pub saw-requires : goal.saw-requires
saw-requires g c = (c.args.net.now, (search rules, c.requires.fits))
