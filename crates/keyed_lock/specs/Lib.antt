pub mod LockSteps
pub mod Locks
