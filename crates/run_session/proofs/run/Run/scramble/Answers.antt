use Rattle.run_session.proofs.Prelude.{drawn_fault}
use Rattle.run_session.proofs.Returned.{returned}
use Rattle.run_session.proofs.TurnProgress.{turns_done, turns_failed}
use Rattle.run_session.proofs.run.Run.scramble.Goals as goal

pub returns-in_err-take_turns-clause-ends : goal.returns-in_err-take_turns-clause-ends
returns-in_err-take_turns-clause-ends g c =
    turns_failed drawn_fault g.R.Rules.table _ _ _ _ _ _ _ c.take_turns.result _ c.from_residual.result c.injector_of_seed-injector.ensures c.in_err-take_turns.was (returned _ _ c.from_residual.ensures.1) c.take_turns.ensures.ends

pub returns-clause-ends : goal.returns-clause-ends
returns-clause-ends g c = turns_done drawn_fault g.R.Rules.table _ _ _ _ _ _ _ c.take_turns.result _ c.injector_of_seed-injector.ensures c.in_ok-take_turns.was c.take_turns.ensures.ends
