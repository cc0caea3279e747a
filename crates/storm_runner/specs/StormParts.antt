-- How a storm begins, at the opening state or where a run ended, and how its parts fail.
use Rattle.std.specs.Prelude.{◌≡◌, ◌≢◌, ℕ, List, Option, None, Some}
use Rattle.std.specs.Io.KnownBytes.{Keeps}
use Rattle.byte_streams.specs.PartialOutput.{AppendsBeginning}
use Rattle.rule_machine.specs.declared.base.Base.{Base}
use Rattle.rule_machine.specs.Base.{base_of}
use Rattle.rule_machine.specs.RuleTable.{RuleTable}
use Rattle.rule_machine.specs.Tables.{table_of, weight_of}
use Rattle.script_run.specs.RunOptions.{OptionsView}
use Rattle.script_run.specs.Restarts.{options_at, restart_of}
use Rattle.script_run.specs.declared.restart.Restart.{Restart}
use Rattle.script_text.specs.declared.script.ScriptLine.{ScriptLine}
use Rattle.step_log.specs.RetainedLogs.{RetainedLog}
use Rattle.step_log.specs.declared.settle_fault.SettleFault.TheVariants as settle
use Rattle.storm_runner.specs.Outcome.{StormStart, WritesKept, start_setting}
use Rattle.storm_runner.specs.Storm.{IsUnsettledStorm}
use Rattle.storm_runner.specs.declared.fault.StormFault.{StormFault}
use Rattle.storm_runner.specs.declared.fault.StormFault.TheVariants.{Write, Memory, Unsettled}

-- the base before any entry; none without a restart
abbrev pub base_at_start : Option Restart → Option Base
base_at_start None = None
base_at_start (Some restart) = Some (base_of restart.number (record { state = restart.net.state; spent = restart.spent }))

abbrev pub start_of : OptionsView → Option Restart → StormStart
start_of asked restart = record { asked = asked; base = base_at_start restart }

-- the restart has these rules and these options
pub record GoesOnAs (t : RuleTable) (weight : ℕ) (asked : OptionsView) (restart : Restart) : Type 0 where
  pub table : table_of restart.rules ≡ t
  pub weight_is : weight_of restart.rules ≡ weight
  pub asked_is : asked ≡ options_at (restart_of restart)

-- scripts were played from this start, but left no log
abbrev pub FailsToPlay : RuleTable → StormStart → List (List ScriptLine) → StormFault → Type 0
FailsToPlay t at scripts Memory = Unit {0}
FailsToPlay t at scripts (Unsettled why) =
    (why ≢ settle.Memory) × IsUnsettledStorm (start_setting t at) scripts at.asked.roamers at.asked.turns why
FailsToPlay t at scripts _ = ⊥

-- the text of a kept log was not written to its end
abbrev pub FailsToWrite : Option (List ℕ) → Option (List ℕ) → OptionsView → RetainedLog → StormFault → Type 0
FailsToWrite old new asked kept Write = WritesKept (AppendsBeginning old new) asked kept
FailsToWrite old new asked kept Memory = Keeps old new
FailsToWrite old new asked kept _ = ⊥
