-- The receipts and notes of clerks that roam.
--
-- A clerk that roams takes its turns one after another, each under one hold of the network's lock. Between
-- two turns any caller may have recorded anything. So each turn is taken on a log of its own, which is a run
-- of the rule machine, and the result of the turn is the result on this log. All these logs begin one log,
-- which the clerk's note shows afterwards; so they begin the log that settling finds.
use Rattle.std.specs.Prelude.{◌≡◌, ℕ, zero, suc, ◌<◌, ◌≤◌, ◌⊎◌, List, [], ◌∷◌, ◌++◌, length, take, drop, slice_get, Option, None, Some, Result, Ok, Err}
use Rattle.std.specs.List.{All}
use Rattle.std.specs.Option.{option_or}
use mathlib.Core.List.{IsPrefix}
use Rattle.rule_machine.specs.declared.act.Moved.{Moved}
use Rattle.rule_machine.specs.declared.reply.Reply.TheVariants.{Moves}
use Rattle.rule_machine.specs.Run.{Entry}
use Rattle.step_log.specs.declared.receipt.Receipt.{Receipt}
use Rattle.logbook.specs.Pages.{Book}
use Rattle.step_log.specs.RetainedLogs.{RetainedLog}
use Rattle.locked_net.specs.Settings.{Setting, IsLogIn}
use Rattle.locked_net.specs.Receipts.{ClerkView, HasNoteOf, base_from, front_of, noted, seen_by}
use Rattle.locked_net.specs.RoamTurns.{lone_step, receipts_of_turn, fault_of_turn, FaultInTurn}
use Rattle.locked_net.specs.declared.fault.CallFault.{CallFault}
use Rattle.locked_net.specs.declared.fault.CallFault.TheVariants as call_fault
use Rattle.locked_net.specs.declared.fault.RoamFault.{RoamFault}
use Rattle.locked_net.specs.declared.fault.RoamFault.TheVariants.{ZeroWorkers, Thread, Behind, LogFull, Memory}

-- ---- promises to a caller

-- The receipt of an accepted step of one node. The node may have moved to any target.
pub record IsLoneStep (receipt : Receipt) : Type 0 where
  pub node : ℕ
  pub move : Moved
  pub stepped : receipt.event ≡ lone_step node
  pub moved : receipt.reply ≡ Moves (move ∷ [])
  pub own : move.node ≡ node

-- A clerk has its old receipts, then at most `turns` new ones, each of an accepted step of one node.
pub record Roams (turns : ℕ) (old new : List Receipt) : Type 0 where
  pub own : List Receipt
  pub added : new ≡ old ++ own
  pub few : length own ≤ turns
  pub lone : All IsLoneStep own

-- the same for each of these clerks
abbrev pub AllRoam : ℕ → List ClerkView → List ClerkView → Type 0
AllRoam turns [] [] = Unit {0}
AllRoam turns (old ∷ olds) (new ∷ news) = Roams turns old.receipts new.receipts × AllRoam turns olds news
AllRoam turns olds news = ⊥

-- The same for each of the first 64 clerks; all other clerks are unchanged.
pub record RoamResult (turns : ℕ) (old new : List ClerkView) : Type 0 where
  pub workers : AllRoam turns (take 64 old) (take 64 new)
  pub others : drop 64 new ≡ drop 64 old

-- One of the first 64 clerks has seen `seen` entries, and met a log whose last number is less.
pub record IsBehind (clerks : List ClerkView) (front seen : ℕ) : Type 0 where
  pub clerk : ℕ
  pub view : ClerkView
  pub worker : clerk < 64
  pub has : slice_get clerks clerk ≡ Some view
  pub own : seen ≡ seen_by view
  pub fewer : front < seen

-- A clerk's note is unchanged or a note of this history. The clerk's base is unchanged, and each new receipt has
-- a number above it.
pub record KeepsNote (book : Book) (old new : ClerkView) : Type 0 where
  pub note : (new.note ≡ old.note) ⊎ HasNoteOf book new
  pub base : new.base ≡ old.base
  pub above : (own : List Receipt) × (new.receipts ≡ old.receipts ++ own) × All (λ receipt. base_from old.base < receipt.seq) own

-- the same for each of these clerks
abbrev pub AllKeepNotes : Book → List ClerkView → List ClerkView → Type 0
AllKeepNotes book [] [] = Unit {0}
AllKeepNotes book (old ∷ olds) (new ∷ news) = KeepsNote book old new × AllKeepNotes book olds news
AllKeepNotes book olds news = ⊥

-- what a fault says without a look at the log
abbrev pub MayMeetRoamFault : List ClerkView → RoamFault → Type 0
MayMeetRoamFault clerks ZeroWorkers = clerks ≡ []
MayMeetRoamFault clerks Thread = ⊥
MayMeetRoamFault clerks (Behind front seen) = IsBehind clerks front seen
MayMeetRoamFault clerks LogFull = Unit {0}
MayMeetRoamFault clerks Memory = Unit {0}

-- ---- turn by turn

-- A turn was taken without a fault on a log that begins `shown`. This log includes all entries of the clerk's
-- receipts, also if no node was enabled.
pub record TakesTurn (setting : Setting) (shown : List Entry) (turn : ℕ) (old new : List Receipt) : Type 0 where
  pub log : RetainedLog
  pub own : IsLogIn setting log
  pub begins : IsPrefix log.entries shown
  pub free : fault_of_turn setting.table (front_of old) log turn ≡ None
  pub added : new ≡ old ++ receipts_of_turn setting.table log turn

-- A turn met a fault on a log.
pub record MeetsFault (setting : Setting) (turn : ℕ) (clerk : ClerkView) (fault : CallFault) : Type 0 where
  pub log : RetainedLog
  pub own : IsLogIn setting log
  pub met : FaultInTurn setting.table (seen_by clerk) log turn fault

-- turns 0 to n - 1 were taken, for this number n
abbrev pub TakesTurns : Setting → List Entry → ℕ → List Receipt → List Receipt → Type 0
TakesTurns setting shown zero old new = new ≡ old
TakesTurns setting shown (suc turn) old new = (before : List Receipt) × TakesTurns setting shown turn old before × TakesTurn setting shown turn before new

-- Fewer turns were taken, and the next turn met a fault.
pub record BreaksOff (setting : Setting) (shown : List Entry) (turns : ℕ) (old new : ClerkView) (fault : CallFault) : Type 0 where
  pub turn : ℕ
  pub below : turn < turns
  pub taken : TakesTurns setting shown turn old.receipts new.receipts
  pub met : MeetsFault setting turn new fault

-- a clerk took all its turns, or took turns up to a fault
abbrev pub MayEnd : Setting → List Entry → ℕ → ClerkView → ClerkView → Option CallFault → Type 0
MayEnd setting shown turns old new None = TakesTurns setting shown turns old.receipts new.receipts
MayEnd setting shown turns old new (Some fault) = BreaksOff setting shown turns old new fault

-- The clerk had no note, or got a receipt. So its note is of the network in which it roamed.
abbrev pub HasOwnNote : ClerkView → ClerkView → Type 0
HasOwnNote old new = (old.note ≡ None) ⊎ (length old.receipts < length new.receipts)

-- A clerk took its turns on beginnings of one log. If its note is of this network, the note shows that log.
pub record EndsOnLog (setting : Setting) (turns : ℕ) (old new : ClerkView) (fault : Option CallFault) : Type 0 where
  pub shown : List Entry
  pub ended : MayEnd setting shown turns old new fault
  pub begins : HasOwnNote old new → IsPrefix shown (noted new.note)

-- each of these clerks took this number of turns
abbrev pub AllTakeTurns : Setting → ℕ → List ClerkView → List ClerkView → Type 0
AllTakeTurns setting turns [] [] = Unit {0}
AllTakeTurns setting turns (old ∷ olds) (new ∷ news) = EndsOnLog setting turns old new None × AllTakeTurns setting turns olds news
AllTakeTurns setting turns olds news = ⊥

-- Each clerk ended as `Ends` says of its entry in the row, the clerk and its fault, if it met one. The last is the
-- first fault that a clerk met, in the clerks' order; none if no clerk met one.
abbrev pub FirstFault : {A : Type 0} → (A → ClerkView → Option CallFault → Type 0) → List A → List ClerkView → Option CallFault → Type 0
FirstFault Ends [] [] fault = fault ≡ None
FirstFault Ends (x ∷ xs) (clerk ∷ clerks) fault =
    (own : Option CallFault) × (others : Option CallFault) × (fault ≡ option_or own others) × Ends x clerk own × FirstFault Ends xs clerks others
FirstFault Ends xs clerks fault = ⊥

-- each clerk roamed, and this is the first fault
abbrev pub AllEnd : Setting → ℕ → List ClerkView → List ClerkView → Option CallFault → Type 0
AllEnd setting turns = FirstFault (EndsOnLog setting turns)

-- Each of the first 64 clerks roamed, and this is the first fault; all other clerks are unchanged.
pub record RowEnds (setting : Setting) (turns : ℕ) (olds news : List ClerkView) (fault : Option CallFault) : Type 0 where
  pub ends : AllEnd setting turns (take 64 olds) (take 64 news) fault
  pub others : drop 64 news ≡ drop 64 olds

-- a call's fault as a fault of roaming
abbrev pub roam_fault : CallFault → RoamFault
roam_fault (call_fault.Behind front seen) = Behind front seen
roam_fault call_fault.LogFull = LogFull
roam_fault call_fault.Memory = Memory

-- the fault of roaming as that of a call; no fault if there was no clerk
abbrev pub roam_call_fault : Result Unit RoamFault → Option CallFault
roam_call_fault (Ok done) = None
roam_call_fault (Err ZeroWorkers) = None
roam_call_fault (Err Thread) = None
roam_call_fault (Err (Behind front seen)) = Some (call_fault.Behind front seen)
roam_call_fault (Err LogFull) = Some call_fault.LogFull
roam_call_fault (Err Memory) = Some call_fault.Memory
