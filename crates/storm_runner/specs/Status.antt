-- The exit statuses of a storm: 0 done, 1 receipts that do not account for the log, 2 a bad line or too many
-- scripts, 3 a failed read or write, 4 a full log, no memory, a clerk that is behind, or no thread.
use Rattle.std.specs.Prelude.{ℕ, Result, Ok, Err}
use Rattle.step_log.specs.declared.settle_fault.SettleFault.TheVariants as settle
use Rattle.storm_runner.specs.declared.fault.StormFault.{StormFault}
use Rattle.storm_runner.specs.declared.fault.StormFault.TheVariants.{TooManyScripts, BadLine, LogFull, Read, Write, Memory, Behind, Thread, Unsettled}

abbrev pub storm_status : StormFault → ℕ
storm_status TooManyScripts = 2
storm_status (BadLine script line) = 2
storm_status LogFull = 4
storm_status Read = 3
storm_status Write = 3
storm_status Memory = 4
storm_status Behind = 4
storm_status Thread = 4
storm_status (Unsettled settle.CountDiffers) = 1
storm_status (Unsettled settle.BaseDiffers) = 1
storm_status (Unsettled (settle.Stranger clerk place)) = 1
storm_status (Unsettled settle.Memory) = 4

abbrev pub end_status : Result Unit StormFault → ℕ
end_status (Ok done) = 0
end_status (Err fault) = storm_status fault
