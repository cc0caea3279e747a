-- What a command adds to a clerk's receipts, which clerk plays which script, and how workers roam beside the
-- scripts.
use Rattle.std.specs.Prelude.{◌≡◌, ◌≢◌, ◌↔◌, ℕ, ◌<◌, ◌≤◌, length, List, [], ◌∷◌, ◌++◌, Bool, true, false, Option, None, Some, Result, Ok, Err, IfErr, IsErrOf}
use Rattle.std.specs.List.{All}
use mathlib.Core.List.{IsPrefix}
use Rattle.rand_core.specs.Stream.{Stream}
use Rattle.rule_machine.specs.Run.{Entry}
use Rattle.seeded_turns.specs.DrawnEvents.{Draws}
use Rattle.step_log.specs.declared.receipt.Receipt.{Receipt}
use Rattle.locked_net.specs.ChosenEvents.{HoldsAll}
use Rattle.locked_net.specs.Receipts.{ClerkView, base_from, fresh, front_of, seen_by, greater_base, noted}
use Rattle.locked_net.specs.RoamResults.{FirstFault, MayEnd, roam_call_fault}
use Rattle.locked_net.specs.Settings.{Setting}
use Rattle.locked_net.specs.declared.fault.CallFault.{CallFault}
use Rattle.locked_net.specs.declared.fault.RoamFault.{RoamFault}
use Rattle.locked_net.specs.declared.fault.RoamFault.TheVariants as roam
use Rattle.script_text.specs.declared.command.Command.{Command}
use Rattle.script_text.specs.declared.command.Command.TheVariants.{Tell, Drive, Scramble, Checkpoint}
use Rattle.script_text.specs.declared.script.ScriptLine.{ScriptLine}
use Rattle.storm_runner.specs.Turns.{AreDrawn, DrawsNone, IsIdleBehind, IsTurn, Scene}
use Rattle.storm_runner.specs.Storm.{IsFor, IsPartOf, AreAbove, MayEndScript, AllPlayed, AllTold, IsRoaming}

-- the log as far as a clerk's note shows it
abbrev pub scene_of : Setting → ClerkView → Scene
scene_of setting clerk = record { setting = setting; log = noted clerk.note }

-- some receipts were added, and P holds of them
pub record AddsReceipts (P : List Receipt → Type 0) (old new : List Receipt) : Type 0 where
  pub own : List Receipt
  pub added : new ≡ old ++ own
  pub fits : P own

-- the command was carried out, or a fault ended it early, on the log that the clerk's note shows afterwards.
-- The new receipts come after the clerk's old base.
abbrev pub Plays : {A E : Type 0} → Setting → Command → ClerkView → ClerkView → Result A E → Type 0
Plays setting command old new (Ok done) = AddsReceipts (λ own. IsFor (scene_of setting new) (front_of old.receipts) command own × AreAbove old.base own) old.receipts new.receipts
Plays setting command old new (Err fault) = AddsReceipts (λ own. IsPartOf (scene_of setting new) command own × AreAbove old.base own) old.receipts new.receipts

-- A turn was taken with these words, and `left` are the words after those drawn. Its receipt was added, above
-- the clerk's base.
pub record AddsTurn (setting : Setting) (draws : Draws) (words left : Stream) (old new : ClerkView) : Type 0 where
  pub receipt : Receipt
  pub added : new.receipts ≡ old.receipts ++ receipt ∷ []
  pub above : base_from old.base < receipt.seq
  pub turn : IsTurn (scene_of setting new) draws words receipt left

-- No receipt was added, since words drew nothing after a log with all that the clerk has seen.
pub record FindsNothing (setting : Setting) (draws : Draws) (old : List Receipt) (new : ClerkView) : Type 0 where
  pub same : new.receipts ≡ old
  pub idle : IsIdleBehind (DrawsNone draws) (scene_of setting new) (front_of old) []

-- a clerk's turn that was taken, or for which nothing was found
abbrev pub EndsTurn : Setting → Draws → Stream → Stream → ClerkView → ClerkView → Bool → Type 0
EndsTurn setting draws words left old new true = AddsTurn setting draws words left old new
EndsTurn setting draws words left old new false = FindsNothing setting draws old.receipts new

-- This many turns were taken, by these words, after the clerk's old base. Fewer turns were taken only if
-- words drew nothing after the last of them, or if a fault ended them early.
abbrev pub TakesTurnsUpTo : {A E : Type 0} → Setting → Draws → Stream → ℕ → ClerkView → ClerkView → Result A E → Type 0
TakesTurnsUpTo setting draws words count old new (Ok done) = AddsReceipts
    (λ own. ((length own ≤ count) × AreDrawn (scene_of setting new) draws words own × (length own < count → IsIdleBehind (DrawsNone draws) (scene_of setting new) (front_of old.receipts) own)) × AreAbove old.base own)
    old.receipts new.receipts
TakesTurnsUpTo setting draws words count old new (Err fault) =
    AddsReceipts (λ own. ((length own < count) × AreDrawn (scene_of setting new) draws words own) × AreAbove old.base own) old.receipts new.receipts

-- The clerk's base after a command. After a checkpoint it is the greater of the old base and the length of a
-- log that has all that the clerk has seen. Any other command leaves the base unchanged.
abbrev pub IsBased : Setting → Command → ClerkView → ClerkView → Type 0
IsBased setting (Tell event) old new = new.base ≡ old.base
IsBased setting (Drive turns) old new = new.base ≡ old.base
IsBased setting (Scramble turns) old new = new.base ≡ old.base
IsBased setting Checkpoint old new =
    (number : ℕ) × HoldsAll setting (seen_by old) number × (new.base ≡ greater_base old.base (Some number))

-- each script was played by the clerk at its index, on the log that this clerk's note shows
abbrev pub AllStop : Setting → List (List ScriptLine) → List ClerkView → Option CallFault → Type 0
AllStop setting = FirstFault (λ script clerk. MayEndScript (scene_of setting clerk) script clerk)

-- The receipts of these clerks are of one log, which can be any log that begins with what their notes show.
-- Each script was played by the clerk at its index.
pub record PlayedOn (setting : Setting) (scripts : List (List ScriptLine)) (clerks : List ClerkView) (fault : Option CallFault) : Type 0 where
  pub each : (log : List Entry) → All (λ clerk. IsPrefix (noted clerk.note) log) clerks → AllPlayed (record { setting = setting; log = log }) scripts clerks fault

-- The same for all clerks of a storm: after the scripts' clerks come those that roamed.
pub record ToldOn (setting : Setting) (scripts : List (List ScriptLine)) (roamers turns : ℕ) (clerks : List ClerkView) (fault : Option CallFault) : Type 0 where
  pub each : (log : List Entry) → All (λ clerk. IsPrefix (noted clerk.note) log) clerks → AllTold (record { setting = setting; log = log }) scripts roamers turns clerks fault

-- ---- workers

-- Each clerk took all its turns, or turns up to a fault, each on a beginning of the log that its note shows. The
-- fault is the first that a clerk met, in the clerks' order.
abbrev pub AllRoamedOnNotes : Setting → ℕ → List ClerkView → Option CallFault → Type 0
AllRoamedOnNotes setting turns clerks = FirstFault (λ _ clerk. MayEnd setting (noted clerk.note) turns fresh clerk) clerks clerks

-- Fresh clerks have roamed for this many turns. No clerk made a base, `ZeroWorkers` comes exactly if there are no
-- clerks, and `Thread` never comes.
pub record RoamResultOfNew (setting : Setting) (turns : ℕ) (old new : List ClerkView) (ended : Result Unit RoamFault) : Type 0 where
  pub as_many : length new ≡ length old
  pub steps : All (λ clerk. IsRoaming turns clerk.receipts) new
  pub ends : AllRoamedOnNotes setting turns new (roam_call_fault ended)
  pub unbased : All (λ clerk. clerk.base ≡ None) new
  pub nobody : IsErrOf ended roam.ZeroWorkers ↔ (old ≡ [])
  pub thread : IfErr ended (λ fault. fault ≢ roam.Thread)
