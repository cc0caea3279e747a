-- The turns of one line.
--
-- A line seeds a generator, and each turn takes words from the generator. The words draw an event in the
-- state of the locked log, and the event is recorded. Between two turns other threads may record anything;
-- the words go on where the turn before left off. All turns are of one log: each was taken on a beginning of
-- it, even if there was nothing to do.
use Rattle.std.specs.Prelude.{◌≡◌, ◌≤◌, ℕ, List, [], ◌∷◌, None, Some}
use Rattle.std.specs.List.{All}
use mathlib.Core.List.{IsPrefix}
use Rattle.rand_core.specs.Stream.{Stream}
use Rattle.rule_machine.specs.State.{State}
use Rattle.rule_machine.specs.Network.{node_count}
use Rattle.rule_machine.specs.RuleTable.{RuleTable, enabled_names}
use Rattle.rule_machine.specs.Run.{Entry}
use Rattle.seeded_turns.specs.DrawnEvents.{Draws}
use Rattle.step_log.specs.declared.receipt.Receipt.{Receipt}
use Rattle.step_log.specs.RetainedLogs.{RetainedLog, last_number, next_receipt}
use Rattle.locked_net.specs.Receipts.{front_from}
use Rattle.locked_net.specs.Settings.{Setting, IsLogIn}

-- what turns are taken on: a network's setting, and the entries of its log
pub record Scene : Type 0 where
  pub setting : Setting
  pub log : List Entry

-- A turn was taken on a beginning of the log. The words draw the turn's event in the state there, the receipt
-- is that of the next entry, and `left` are the words after those drawn.
pub record IsTurn (scene : Scene) (draws : Draws) (words : Stream) (receipt : Receipt) (left : Stream) : Type 0 where
  pub log : RetainedLog
  pub own : IsLogIn scene.setting log
  pub begins : IsPrefix log.entries scene.log
  pub drawn : (Some receipt.event, left) ≡ draws scene.setting.table log.state words
  pub told : receipt ≡ next_receipt scene.setting.table log receipt.event

-- turns were taken one after another; each begins with the words that the turn before left
abbrev pub AreTurns : Scene → Draws → Stream → List Receipt → Stream → Type 0
AreTurns scene draws words [] left = left ≡ words
AreTurns scene draws words (receipt ∷ receipts) left =
    (next : Stream) × IsTurn scene draws words receipt next × AreTurns scene draws next receipts left

-- the receipts are those of turns with these words
abbrev pub AreDrawn : Scene → Draws → Stream → List Receipt → Type 0
AreDrawn scene draws words own = (left : Stream) × AreTurns scene draws words own left

-- and P holds of each receipt
abbrev pub DrawnFrom : Scene → Draws → Stream → (Receipt → Type 0) → List Receipt → Type 0
DrawnFrom scene draws words P own = All P own × AreDrawn scene draws words own

-- A beginning of the log with all that its clerk has seen: the entry with this number, and the entries of the
-- receipts after that entry.
pub record IsLogBehind (scene : Scene) (front : ℕ) (own : List Receipt) : Type 0 where
  pub log : RetainedLog
  pub is_own : IsLogIn scene.setting log
  pub begins : IsPrefix log.entries scene.log
  pub behind : front_from front own ≤ last_number log

-- some words draw no event in a state
abbrev pub DrawsNone : Draws → RuleTable → State → Type 0
DrawsNone draws t s = (words : Stream) × ((draws t s words).0 ≡ None)

-- no node is enabled
abbrev pub IsQuiet : RuleTable → State → Type 0
IsQuiet t s = enabled_names t s ≡ []

-- there is no node
abbrev pub IsEmpty : RuleTable → State → Type 0
IsEmpty t s = node_count s.network ≡ 0

-- A beginning of the log with all that its clerk has seen, at whose end there was nothing to do.
pub record IsIdleBehind (Idle : RuleTable → State → Type 0) (scene : Scene) (front : ℕ) (own : List Receipt) : Type 0 where
  pub at : IsLogBehind scene front own
  pub idle : Idle scene.setting.table at.log.state
