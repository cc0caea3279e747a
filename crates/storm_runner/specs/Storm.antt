-- What scripts leave after they were played at once.
--
-- Each script has its own clerk, and so has each roaming worker. A clerk is its list of receipts, oldest
-- first; a script is its lines. A storm is over when log and clerks are settled: each entry has one clerk's
-- receipt, and each receipt is an entry. The receipts of a script's clerk are what the script asks for, line
-- after line: all of this, or a beginning if the script met a fault. The receipts of a worker's clerk are
-- steps of one node, at most one for each turn. A script's clerk has made a base exactly if a checkpoint of
-- the script was carried out; the base comes after the receipts before the checkpoint and before the later
-- ones. A worker's clerk has no base.
use Rattle.std.specs.Prelude.{◌≡◌, ℕ, ◌<◌, ◌≤◌, List, [], ◌∷◌, ◌++◌, Bool, true, false, IsTrue, length, map, Option, None, Some, IfSome}
use Rattle.std.specs.List.{All, list_any}
use Rattle.std.specs.Option.{is_some, option_or}
use Rattle.rule_machine.specs.declared.choice.Item.{Item}
use Rattle.rule_machine.specs.declared.act.Moved.{Moved}
use Rattle.rule_machine.specs.declared.event.Event.TheVariants.{Step}
use Rattle.rule_machine.specs.declared.reply.Reply.TheVariants.{Accepted, Moves}
use Rattle.rule_machine.specs.Run.{Entry}
use Rattle.fault_injector.specs.DrawnFaults.{is_register_fault}
use Rattle.step_log.specs.declared.receipt.Receipt.{Receipt}
use Rattle.step_log.specs.RetainedLogs.{RetainedLog}
use Rattle.seeded_turns.specs.DrawnEvents.{seeded_stream, drawn_step, drawn_fault}
use Rattle.script_text.specs.declared.command.Command.{Command}
use Rattle.script_text.specs.declared.command.Command.TheVariants.{Tell, Drive, Scramble, Checkpoint}
use Rattle.locked_net.specs.RetainedParts.{IsPartOfLog}
use Rattle.locked_net.specs.Receipts.{ClerkView, front_from, front_of, base_from, base_number, fresh, receipts_of}
use Rattle.locked_net.specs.Settings.{Setting}
use Rattle.step_log.specs.Settlements.{Settlement, Unsettles}
use Rattle.locked_net.specs.RoamResults.{IsLoneStep, MayEnd, FirstFault}
use Rattle.locked_net.specs.declared.fault.CallFault.{CallFault}
use Rattle.step_log.specs.declared.settle_fault.SettleFault.{SettleFault}
use Rattle.script_text.specs.declared.script.ScriptLine.{ScriptLine}
use Rattle.storm_runner.specs.Turns.{Scene, DrawnFrom, IsIdleBehind, IsQuiet, IsEmpty}

-- the receipt of a step whose reply is its moves
pub record IsOfStep (receipt : Receipt) : Type 0 where
  pub items : List Item
  pub moves : List Moved
  pub stepped : receipt.event ≡ Step items
  pub moved : receipt.reply ≡ Moves moves

-- the receipt of a write to a pointer or a flag
pub record IsOfFault (receipt : Receipt) : Type 0 where
  pub register : IsTrue (is_register_fault receipt.event)
  pub accepted : receipt.reply ≡ Accepted

-- The receipts of a command that was carried out: one for an event, none for a checkpoint, and one for each
-- turn, by the words of the seeded generator. The clerk's earlier receipts have numbers up to this number.
-- There are fewer turns than asked for only if, after the last of them, the daemon found no enabled node, or
-- the injector found no node.
abbrev pub IsFor : Scene → ℕ → Command → List Receipt → Type 0
IsFor scene front (Tell event) own = map (λ r. r.event) own ≡ event ∷ []
IsFor scene front (Drive turns) own =
    (length own ≤ turns.count) × DrawnFrom scene drawn_step (seeded_stream turns.seed) IsOfStep own × (length own < turns.count → IsIdleBehind IsQuiet scene front own)
IsFor scene front (Scramble turns) own =
    (length own ≤ turns.count) × DrawnFrom scene drawn_fault (seeded_stream turns.seed) IsOfFault own × (length own < turns.count → IsIdleBehind IsEmpty scene front own)
IsFor scene front Checkpoint own = own ≡ []

-- the receipts of a command that a fault ended early: none for an event or a checkpoint, and for turns fewer
-- than asked for
abbrev pub IsPartOf : Scene → Command → List Receipt → Type 0
IsPartOf scene (Tell event) own = own ≡ []
IsPartOf scene (Drive turns) own =
    (length own < turns.count) × DrawnFrom scene drawn_step (seeded_stream turns.seed) IsOfStep own
IsPartOf scene (Scramble turns) own =
    (length own < turns.count) × DrawnFrom scene drawn_fault (seeded_stream turns.seed) IsOfFault own
IsPartOf scene Checkpoint own = own ≡ []

-- the receipts are those of these lines in order, after this number
abbrev pub AreScriptReceipts : Scene → ℕ → List ScriptLine → List Receipt → Type 0
AreScriptReceipts scene front [] receipts = receipts ≡ []
AreScriptReceipts scene front (line ∷ lines) receipts =
    (own : List Receipt) × (rest : List Receipt) × (receipts ≡ own ++ rest) × IsFor scene front line.command own × AreScriptReceipts scene (front_from front own) lines rest

-- a checkpoint is among the lines
abbrev pub is_checkpoint : Command → Bool
is_checkpoint (Tell event) = false
is_checkpoint (Drive turns) = false
is_checkpoint (Scramble turns) = false
is_checkpoint Checkpoint = true

abbrev pub has_checkpoint : List ScriptLine → Bool
has_checkpoint lines = list_any (λ line. is_checkpoint line.command) lines

-- These receipts have numbers above the clerk's base, if the clerk has a base.
abbrev pub AreAbove : Option ℕ → List Receipt → Type 0
AreAbove base own = All (λ receipt. base_from base < receipt.seq) own

-- The last checkpoint among the lines returned this number, after the receipts of the lines before it and
-- before the receipts of the lines after it. The log's last entry then had this number: at least the greatest
-- that the clerk had seen, and below the number of each later receipt.
pub record IsLastCheckpoint (scene : Scene) (lines : List ScriptLine) (receipts : List Receipt) (number : ℕ) : Type 0 where
  pub before : List ScriptLine
  pub line : ScriptLine
  pub behind : List ScriptLine
  pub done : List Receipt
  pub rest : List Receipt
  pub splits : lines ≡ before ++ line ∷ behind
  pub made : line.command ≡ Checkpoint
  pub last : has_checkpoint behind ≡ false
  pub told : receipts ≡ done ++ rest
  pub earlier : AreScriptReceipts scene 0 before done
  pub later : AreScriptReceipts scene (front_of done) behind rest
  pub above : front_of done ≤ number
  pub below : AreAbove (Some number) rest

-- the receipts are those of the lines before a line that ended early, and of a part of that line. The clerk
-- has a base exactly if a checkpoint is among the lines before; then the base is that of the last checkpoint.
pub record StandsInPart (scene : Scene) (lines : List ScriptLine) (clerk : ClerkView) : Type 0 where
  pub before : List ScriptLine
  pub line : ScriptLine
  pub behind : List ScriptLine
  pub done : List Receipt
  pub part : List Receipt
  pub splits : lines ≡ before ++ line ∷ behind
  pub told : clerk.receipts ≡ done ++ part
  pub whole : AreScriptReceipts scene 0 before done
  pub broken : IsPartOf scene line.command part
  pub based : is_some clerk.base ≡ has_checkpoint before
  pub placed : IfSome clerk.base (IsLastCheckpoint scene before done)
  pub behind_base : AreAbove clerk.base part

-- A script was played to its end, and its clerk has a base exactly if the script has a checkpoint, then that
-- of the last one; or the script was played up to a fault.
abbrev pub MayEndScript : Scene → List ScriptLine → ClerkView → Option CallFault → Type 0
MayEndScript scene lines clerk None =
    AreScriptReceipts scene 0 lines clerk.receipts × (is_some clerk.base ≡ has_checkpoint lines) × IfSome clerk.base (IsLastCheckpoint scene lines clerk.receipts)
MayEndScript scene lines clerk (Some fault) = StandsInPart scene lines clerk

-- Each script was played by the clerk at its index. The fault is the first that a script met, in the order of
-- the scripts; there is no fault if each script was played to its end.
abbrev pub AllPlayed : Scene → List (List ScriptLine) → List ClerkView → Option CallFault → Type 0
AllPlayed scene = FirstFault (MayEndScript scene)

-- the receipts of a worker that roams for this many turns: steps of one node, at most one for each turn
abbrev pub IsRoaming : ℕ → List Receipt → Type 0
IsRoaming turns own = (length own ≤ turns) × All IsLoneStep own

-- Each worker took all its turns, or turns up to a fault that it met, each on a beginning of the log: in turn t
-- the node moved whose turn it was in the state there, or no node was enabled there. The fault is the first that
-- a worker met, in the order of the workers; there is no fault if each worker took all its turns.
abbrev pub AllRoamed : Setting → List Entry → ℕ → List ClerkView → Option CallFault → Type 0
AllRoamed setting log turns clerks = FirstFault (λ _ clerk. MayEnd setting log turns fresh clerk) clerks clerks

-- The clerks of a storm are one for each script, which played the script, and then one for each worker, which
-- roamed. The fault is the first that a script met, in the order of the scripts, or else the first that a worker
-- met.
pub record AllTold (scene : Scene) (scripts : List (List ScriptLine)) (roamers turns : ℕ) (clerks : List ClerkView) (fault : Option CallFault) : Type 0 where
  pub own : List ClerkView
  pub roaming : List ClerkView
  pub met : Option CallFault
  pub other : Option CallFault
  pub all : clerks ≡ own ++ roaming
  pub played : AllPlayed scene scripts own met
  pub as_many : length roaming ≡ roamers
  pub roamed : All (λ clerk. IsRoaming turns clerk.receipts) roaming
  pub unbased : All (λ clerk. clerk.base ≡ None) roaming
  pub first : fault ≡ option_or met other
  pub nobody : roamers ≡ 0 → other ≡ None
  pub ended : AllRoamed scene.setting scene.log turns roaming other

-- What these scripts leave with these workers, and the first fault. The clerks account for the kept log,
-- which is the part of a whole log after the last checkpoint. Each turn of a script or worker was taken on a
-- beginning of the whole log.
pub record IsStormResult (setting : Setting) (kept : RetainedLog) (scripts : List (List ScriptLine)) (roamers turns : ℕ) (fault : Option CallFault) : Type 0 where
  pub clerks : List ClerkView
  pub settled : Settlement (base_number setting.base) kept (map receipts_of clerks)
  pub part : IsPartOfLog setting kept
  pub told : AllTold (record { setting = setting; log = part.log.entries }) scripts roamers turns clerks fault

-- Why these scripts were not settled with these workers: what the clerks and the log above the base then were.
-- The scripts and workers were played as in a storm that settles.
pub record IsUnsettledStorm (setting : Setting) (scripts : List (List ScriptLine)) (roamers turns : ℕ) (why : SettleFault) : Type 0 where
  pub kept : RetainedLog
  pub clerks : List ClerkView
  pub fault : Option CallFault
  pub differs : Unsettles (base_number setting.base) kept (map receipts_of clerks) why
  pub part : IsPartOfLog setting kept
  pub told : AllTold (record { setting = setting; log = part.log.entries }) scripts roamers turns clerks fault
