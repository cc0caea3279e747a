-- What a clerk can expect of a fault that a log explains.
use Rattle.locked_net.proofs.Prelude.{◌≡◌, ℕ, Some, arith, nat_tests, RetainedLog, CallFault, StepFault, call_fault, checkpoint_fault, ExplainsCallFault, ExplainsStep, MayAnswer, MayAnswerStep, MayRefuseCheckpoint}

pub may_answer : (seen : ℕ) (log : RetainedLog) (fault : CallFault) → ExplainsCallFault (call_fault seen log) fault → MayAnswer seen fault
may_answer seen log fault is = grind (arith, nat_tests)

-- if no node is enabled
pub may_be_behind : (seen : ℕ) (log : RetainedLog) (fault : CallFault) → checkpoint_fault seen log ≡ Some fault → MayAnswer seen fault
may_be_behind seen log fault is = grind (arith, nat_tests)

pub may_refuse_checkpoint : (seen : ℕ) (log : RetainedLog) (fault : CallFault) → ExplainsCallFault (checkpoint_fault seen log) fault → MayRefuseCheckpoint seen fault
may_refuse_checkpoint seen log fault is = grind (arith, nat_tests)

pub may_answer_step : (seen workers : ℕ) (log : RetainedLog) (fault : StepFault) → ExplainsStep (call_fault seen log) workers fault → MayAnswerStep seen workers fault
may_answer_step seen workers log fault is = grind (arith, nat_tests)
