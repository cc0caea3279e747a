-- The fault of a storm that each fault of its parts becomes.
use Rattle.locked_net.specs.declared.fault.CallFault.{CallFault}
use Rattle.locked_net.specs.declared.fault.CallFault.TheVariants as call
use Rattle.step_log.specs.declared.settle_fault.SettleFault.{SettleFault}
use Rattle.step_log.specs.declared.settle_fault.SettleFault.TheVariants as settle
use Rattle.script_text.specs.declared.fault.TextsFault.{TextsFault}
use Rattle.script_text.specs.declared.fault.TextsFault.TheVariants as texts
use Rattle.storm_runner.specs.declared.fault.StormFault.{StormFault}
use Rattle.storm_runner.specs.declared.fault.StormFault.TheVariants.{TooManyScripts, BadLine, LogFull, Read, Memory, Behind, Unsettled}

-- the fault of reading the scripts, as one of a storm
abbrev pub of_texts : TextsFault → StormFault
of_texts texts.TooManyScripts = TooManyScripts
of_texts (texts.BadLine script line) = BadLine script line
of_texts texts.Read = Read
of_texts texts.Memory = Memory

-- the fault of a clerk's call, as one of a storm
abbrev pub of_call : CallFault → StormFault
of_call (call.Behind front seen) = Behind
of_call call.LogFull = LogFull
of_call call.Memory = Memory

-- the fault of settling, as one of a storm
abbrev pub of_settle : SettleFault → StormFault
of_settle settle.CountDiffers = Unsettled settle.CountDiffers
of_settle settle.BaseDiffers = Unsettled settle.BaseDiffers
of_settle (settle.Stranger clerk place) = Unsettled (settle.Stranger clerk place)
of_settle settle.Memory = Memory
