-- How a storm of scripts ends, and what it has written.
--
-- The scripts leave the log that a journal keeps: all of it, or the part after the last checkpoint. This log
-- is a run of the rule machine from the opening state or from a base. There is a clerk for each script and
-- for each roaming worker, and the clerks account for the whole log: each receipt is an entry, and each entry
-- has one clerk's receipt. The receipts of a script's clerk are what the script asks for, line after line, as
-- far as the script was played. The receipts of a worker's clerk are steps of one node, at most as many as
-- the worker has turns.
use Rattle.std.specs.Prelude.{◌≡◌, ◌≢◌, ℕ, ◌<◌, ◌⊎◌, List, [], length, map, Option, None, Some, Result, Ok, Err}
use Rattle.std.specs.Io.KnownBytes.{Appends, Keeps}
use Rattle.rule_machine.specs.declared.base.Base.{Base}
use Rattle.rule_machine.specs.Base.{base_of}
use Rattle.rule_machine.specs.RuleTable.{RuleTable}
use Rattle.rule_machine.specs.Tables.{table_of, weight_of}
use Rattle.byte_streams.specs.PartialOutput.{AppendsBeginning}
use Rattle.step_log.specs.RetainedLogs.{RetainedLog, IsRetainedRun}
use Rattle.locked_net.specs.declared.fault.CallFault.{CallFault}
use Rattle.locked_net.specs.declared.fault.CallFault.TheVariants as call
use Rattle.step_log.specs.declared.settle_fault.SettleFault.{SettleFault}
use Rattle.step_log.specs.declared.settle_fault.SettleFault.TheVariants as settle
use Rattle.locked_net.specs.Receipts.{base_number, receipts_of}
use Rattle.locked_net.specs.Settings.{Setting}
use Rattle.step_log.specs.Headline.{Headline}
use Rattle.script_text.specs.declared.script.ScriptLine.{ScriptLine}
use Rattle.storm_runner.specs.Storm.{IsStormResult, IsUnsettledStorm}
use Rattle.storm_runner.specs.RetainedText.{AreWritable, kept_text}
use Rattle.script_run.specs.Restarts.{RestartView, options_at}
use Rattle.script_run.specs.RunOptions.{OptionsView}
use Rattle.script_text.specs.Readers.{AllHold, FirstBadScript}
use Rattle.storm_runner.specs.declared.fault.StormFault.{StormFault}
use Rattle.storm_runner.specs.declared.fault.StormFault.TheVariants.{TooManyScripts, BadLine, LogFull, Read, Write, Memory, Behind, Thread, Unsettled}

-- what is asked of a storm, and the base at which its network begins; none for the opening state
pub record StormStart : Type 0 where
  pub asked : OptionsView
  pub base : Option Base

-- the start of a storm at the opening state
abbrev pub opening_start : OptionsView → StormStart
opening_start asked = record { asked = asked; base = None }

-- the start of a storm that goes on: names, nodes and base are those of the restart's network
abbrev pub resumed_start : RestartView → StormStart
resumed_start r = record {
  asked = options_at r;
  base = Some (base_of r.number (record { state = r.state; spent = r.spent }));
}

-- the setting of every log of a network with this start
abbrev pub start_setting : RuleTable → StormStart → Setting
start_setting t at =
    record { table = t; nodes = at.asked.nodes; present = at.asked.present; base = at.base; limit = at.asked.limit }

-- From this start, these scripts leave this kept log, with the names, nodes, limit and workers that were asked
-- for. The fault is the first that a script met, or, if no script met one, a fault that a worker met.
pub record Leaves (t : RuleTable) (weight : ℕ) (at : StormStart) (scripts : List (List ScriptLine)) (fault : Option CallFault) (kept : RetainedLog) : Type 0 where
  pub run : IsRetainedRun t weight kept
  pub nodes_are : kept.state.network.size ≡ at.asked.nodes
  pub present_is : kept.present ≡ at.asked.present
  pub limit_is : kept.limit ≡ at.asked.limit
  pub storm : IsStormResult (start_setting t at) kept scripts at.asked.roamers at.asked.turns fault
  pub headline : Headline (base_number at.base) t weight kept (map receipts_of storm.clerks)

-- the text of a kept log: the header or the lines of the base, and then the entries, numbered on
abbrev pub text_of : OptionsView → RetainedLog → List ℕ
text_of asked kept = kept_text asked.rules asked.nodes asked.present kept.state.network.size kept.base kept.entries

-- the entries of a kept log can be written, and P holds of the log's text
abbrev pub WritesKept : (List ℕ → Type 0) → OptionsView → RetainedLog → Type 0
WritesKept P asked kept = AreWritable kept.entries × P (text_of asked kept)

-- the scripts are those of the texts, they leave a kept log with this fault, and P holds of the log's text
abbrev pub LeavesText : RuleTable → ℕ → StormStart → List (Option (List ℕ)) → Option CallFault → (List ℕ → Type 0) → Type 0
LeavesText t weight at texts fault P =
    (scripts : List (List ScriptLine)) × (kept : RetainedLog) × AllHold texts scripts × Leaves t weight at scripts fault kept × WritesKept P at.asked kept

-- the scripts are those of the texts, and what they left does not settle, for this reason
abbrev pub LeavesUnsettled : RuleTable → StormStart → List (Option (List ℕ)) → SettleFault → Type 0
LeavesUnsettled t at texts why =
    (scripts : List (List ScriptLine)) × AllHold texts scripts × IsUnsettledStorm (start_setting t at) scripts at.asked.roamers at.asked.turns why

-- If the result is `Ok`, each script was played to its end, no worker met a fault, and the whole text was
-- written. If the first fault is returned, the whole text was written too. If the writer failed, a beginning
-- was written. If the receipts do not account for the log, or the scripts could not be read, nothing was
-- written. After `Memory`, either a script or a worker met it and the whole text was written, or nothing was
-- written.
abbrev pub EndsAllScripts : RuleTable → ℕ → StormStart → List (Option (List ℕ)) → Option (List ℕ) → Option (List ℕ) → Result Unit StormFault → Type 0
EndsAllScripts t weight at texts old new (Ok done) = LeavesText t weight at texts None (Appends old new)
EndsAllScripts t weight at texts old new (Err LogFull) = LeavesText t weight at texts (Some call.LogFull) (Appends old new)
EndsAllScripts t weight at texts old new (Err Behind) =
    (front : ℕ) × (seen : ℕ) × LeavesText t weight at texts (Some (call.Behind front seen)) (Appends old new)
EndsAllScripts t weight at texts old new (Err Memory) =
    LeavesText t weight at texts (Some call.Memory) (Appends old new) ⊎ Keeps old new
EndsAllScripts t weight at texts old new (Err Write) =
    (fault : Option CallFault) × LeavesText t weight at texts fault (AppendsBeginning old new)
EndsAllScripts t weight at texts old new (Err (Unsettled why)) = (why ≢ settle.Memory) × LeavesUnsettled t at texts why × Keeps old new
EndsAllScripts t weight at texts old new (Err TooManyScripts) = (64 < length texts) × Keeps old new
EndsAllScripts t weight at texts old new (Err (BadLine script line)) = FirstBadScript 1 texts script line × Keeps old new
EndsAllScripts t weight at texts old new (Err Read) = (texts ≢ []) × Keeps old new
EndsAllScripts t weight at texts old new (Err Thread) = ⊥

-- the storm of some texts, under the rule set of the options
abbrev pub IsStormOutcome : OptionsView → List (Option (List ℕ)) → Option (List ℕ) → Option (List ℕ) → Result Unit StormFault → Type 0
IsStormOutcome asked texts old new result = EndsAllScripts (table_of asked.rules) (weight_of asked.rules) (opening_start asked) texts old new result

-- the storm of some texts, on the network of a restart and under its rule set
abbrev pub IsResumedStorm : RestartView → List (Option (List ℕ)) → Option (List ℕ) → Option (List ℕ) → Result Unit StormFault → Type 0
IsResumedStorm r texts old new result = EndsAllScripts (table_of r.rules) (weight_of r.rules) (resumed_start r) texts old new result

-- the storm of the readers' texts, under the rules of a table, and what the writer has
abbrev pub EndsUnder : {In Out : Type 0} → RuleTable → ℕ → StormStart → (In → Option (List ℕ)) → List In → (Out → Option (List ℕ)) → Out → Out
    → Result Unit StormFault → Type 0
EndsUnder t weight at left readers got old new result = EndsAllScripts t weight at (map left readers) (got old) (got new) result
