use Rattle.run_session.proofs.Prelude.{drawn_step}
use Rattle.run_session.proofs.Returned.{returned}
use Rattle.run_session.proofs.Silence.{drive_done_silent}
use Rattle.run_session.proofs.TurnProgress.{turns_done, turns_failed}
use Rattle.run_session.proofs.run.Run.drive.Goals as goal

pub returns-in_err-take_turns-clause-ends : goal.returns-in_err-take_turns-clause-ends
returns-in_err-take_turns-clause-ends g c =
    turns_failed drawn_step g.R.Rules.table _ _ _ _ _ _ _ c.take_turns.result _ c.from_residual.result c.daemon_of_seed-daemon.ensures c.in_err-take_turns.was (returned _ _ c.from_residual.ensures.1) c.take_turns.ensures.ends

pub returns-clause-ends : goal.returns-clause-ends
returns-clause-ends g c = turns_done drawn_step g.R.Rules.table _ _ _ _ _ _ _ c.take_turns.result _ c.daemon_of_seed-daemon.ensures c.in_ok-take_turns.was c.take_turns.ensures.ends

pub returns-clause-silent : goal.returns-clause-silent
returns-clause-silent g c =
    let laws = g.R.Rules.laws in
    drive_done_silent g.R.Rules.table g.R.Rules.NODE_WEIGHT laws.table laws.charged _ _ _ _ _ (returns-clause-ends g c) c.has_state.ensures
