-- The lines that report a storm's fault.
use Rattle.std.specs.Prelude.{ℕ, List, [], ◌++◌, codes, Result, Ok, Err}
use Rattle.line_text.specs.Words.{number_text}
use Rattle.step_log.specs.declared.settle_fault.SettleFault.{SettleFault}
use Rattle.step_log.specs.declared.settle_fault.SettleFault.TheVariants as settle
use Rattle.storm_runner.specs.declared.fault.StormFault.{StormFault}
use Rattle.storm_runner.specs.declared.fault.StormFault.TheVariants.{TooManyScripts, BadLine, LogFull, Read, Write, Memory, Behind, Thread, Unsettled}

-- the text that reports a bad line: the numbers of its script and of the line, and an LF
abbrev pub storm_bad_line : ℕ → ℕ → List ℕ
storm_bad_line script line = (codes "! script " ++ number_text script) ++ ((codes " line " ++ number_text line) ++ codes ": not a command\n")

-- the line that reports receipts that do not account for a log
abbrev pub unsettled_line : SettleFault → List ℕ
unsettled_line settle.CountDiffers = codes "! settle refused: count-differs\n"
unsettled_line settle.BaseDiffers = codes "! settle refused: base-differs\n"
unsettled_line (settle.Stranger clerk place) = codes "! settle refused: stranger\n"
unsettled_line settle.Memory = codes "! out of memory\n"

-- the line of a fault, with its LF
abbrev pub storm_fault_line : StormFault → List ℕ
storm_fault_line TooManyScripts = codes "! too many scripts\n"
storm_fault_line (BadLine script line) = storm_bad_line script line
storm_fault_line LogFull = codes "! log full\n"
storm_fault_line Read = codes "! read failed\n"
storm_fault_line Write = codes "! write failed\n"
storm_fault_line Memory = codes "! out of memory\n"
storm_fault_line Behind = codes "! behind\n"
storm_fault_line Thread = codes "! no thread\n"
storm_fault_line (Unsettled why) = unsettled_line why

-- a fault whose line has no number
abbrev pub IsLinelessStormFault : StormFault → Type 0
IsLinelessStormFault (BadLine script line) = ⊥
IsLinelessStormFault fault = Unit {0}

-- what is written about the end of a storm
abbrev pub end_line : Result Unit StormFault → List ℕ
end_line (Ok done) = []
end_line (Err fault) = storm_fault_line fault
