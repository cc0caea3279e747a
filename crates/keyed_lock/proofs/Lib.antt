pub mod LockSteps
