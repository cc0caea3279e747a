-- The exit statuses: 0 done, 1 a refused transcript, 2 bad words or a bad line, 3 a failed read or write, 4
-- no memory, a full log, or failed workers.
use Rattle.std.specs.Prelude.{ℕ, ◌≢◌, ◌≤◌, Result, Ok, Err}
use Rattle.clap.specs.declared.error.kind.ErrorKind.{ErrorKind}
use Rattle.clap.specs.declared.error.kind.ErrorKind.TheVariants.{OutOfMemory}
use Rattle.std.specs.declared.io.ErrorKind as io
use Rattle.std.specs.declared.io.ErrorKind.TheVariants.{InvalidData}
use Rattle.script_run.specs.declared.fault.RunFault.{RunFault}
use Rattle.script_run.specs.declared.fault.RunFault.TheVariants.{BadLine, LogFull, Read, Write, Memory, Pool}

-- the status of a run's fault
abbrev pub run_status : RunFault → ℕ
run_status (BadLine _) = 2
run_status Read = 3
run_status Write = 3
run_status LogFull = 4
run_status Memory = 4
run_status (Pool _) = 4

-- the exit status of a run
abbrev pub ended_status : Result Unit RunFault → ℕ
ended_status (Ok _) = 0
ended_status (Err fault) = run_status fault

-- the status of bad words
abbrev pub words_status : ErrorKind → ℕ
words_status OutOfMemory = 4
words_status _ = 2

-- the status of words that could not be read
abbrev pub no_words_status : io.ErrorKind → ℕ
no_words_status InvalidData = 2
no_words_status _ = 4

-- one of 0 to 4
abbrev pub IsStatus : ℕ → Type 0
IsStatus n = n ≤ 4

-- one of 0 to 4, but not 1, which is the status of a refused transcript
abbrev pub IsRunStatus : ℕ → Type 0
IsRunStatus n = (n ≤ 4) × (n ≢ 1)
