-- The lines that report why the program ended early.
use Rattle.std.specs.Prelude.{ℕ, List, ◌++◌, codes}
use Rattle.std.specs.declared.io.ErrorKind as io
use Rattle.std.specs.declared.io.ErrorKind.TheVariants.{InvalidData}
use Rattle.line_text.specs.Words.{number_text}
use Rattle.script_run.specs.declared.fault.RunFault.{RunFault}
use Rattle.script_run.specs.declared.fault.RunFault.TheVariants.{BadLine, LogFull, Read, Write, Memory, Pool}
use Rattle.steal_pool.specs.declared.fault.PoolFault.{PoolFault}
use Rattle.steal_pool.specs.declared.fault.PoolFault.TheVariants as pool

-- the line of a fault of the workers, with its LF
abbrev pub pool_line : PoolFault → List ℕ
pool_line pool.ZeroWorkers = codes "! no workers\n"
pool_line pool.Thread = codes "! no thread\n"
pool_line pool.Memory = codes "! out of memory\n"

-- the text that reports a script's bad line: the line's number, and an LF
abbrev pub run_bad_line : ℕ → List ℕ
run_bad_line line = codes "! line " ++ (number_text line ++ codes ": not a command\n")

-- the line of a fault of a run, with its LF
abbrev pub run_fault_line : RunFault → List ℕ
run_fault_line (BadLine line) = run_bad_line line
run_fault_line LogFull = codes "! log full\n"
run_fault_line Read = codes "! read failed\n"
run_fault_line Write = codes "! write failed\n"
run_fault_line Memory = codes "! out of memory\n"
run_fault_line (Pool why) = pool_line why

-- a fault whose line has no number
abbrev pub IsLinelessRunFault : RunFault → Type 0
IsLinelessRunFault (BadLine line) = ⊥
IsLinelessRunFault fault = Unit {0}

-- the line that reports too many nodes for the start
abbrev pub bad_present_line : List ℕ
bad_present_line = codes "! bad present\n"

-- the line that reports words that could not be read
abbrev pub no_words_line : io.ErrorKind → List ℕ
no_words_line InvalidData = codes "! a word is not UTF-8\n"
no_words_line _ = run_fault_line Memory
