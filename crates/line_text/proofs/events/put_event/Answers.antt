use Rattle.line_text.proofs.TextGrowth.{err_then}
use Rattle.line_text.proofs.events.put_event.Goals as goal

pub returns-in_ok-extend_from_slice-in-Link-clause-err : goal.returns-in_ok-extend_from_slice-in-Link-clause-err
returns-in_ok-extend_from_slice-in-Link-clause-err c = err_then _ _ _ _ _ c.in_ok-extend_from_slice-in-Link.ensures.items c.put_pair.ensures.err

pub returns-in_ok-extend_from_slice-in-Unlink-clause-err : goal.returns-in_ok-extend_from_slice-in-Unlink-clause-err
returns-in_ok-extend_from_slice-in-Unlink-clause-err c = err_then _ _ _ _ _ c.in_ok-extend_from_slice-in-Unlink.ensures.items c.put_pair-in-Unlink.ensures.err

pub returns-in_ok-extend_from_slice-in-Point-clause-err : goal.returns-in_ok-extend_from_slice-in-Point-clause-err
returns-in_ok-extend_from_slice-in-Point-clause-err c = err_then _ _ _ _ _ c.in_ok-extend_from_slice-in-Point.ensures.items c.put_point.ensures.err

pub returns-in_ok-extend_from_slice-in-Flag-clause-err : goal.returns-in_ok-extend_from_slice-in-Flag-clause-err
returns-in_ok-extend_from_slice-in-Flag-clause-err c = err_then _ _ _ _ _ c.in_ok-extend_from_slice-in-Flag.ensures.items c.put_flag.ensures.err

pub returns-in_ok-extend_from_slice-in-Step-clause-err : goal.returns-in_ok-extend_from_slice-in-Step-clause-err
returns-in_ok-extend_from_slice-in-Step-clause-err c = err_then _ _ _ _ _ c.in_ok-extend_from_slice-in-Step.ensures.items c.put_spaced.ensures.err
