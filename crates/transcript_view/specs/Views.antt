-- The views of a transcript.
use Rattle.std.specs.Prelude.{◌≡◌, ℕ, List, Option, All}
use Rattle.rule_machine.specs.declared.rule_set.RuleSet.{RuleSet}
use Rattle.rule_machine.specs.State.{State}
use Rattle.auditor.specs.Damage.{IsDamage}
use Rattle.auditor.specs.declared.epoch.CostedEpoch.{CostedEpoch}
use Rattle.auditor.specs.Epochs.{AreCostedEpochs, HasFewRounds, IsWithinItsBound, epochs_in}
use Rattle.auditor.specs.EntryWindows.{HasDroppedEntry, HasTooFew, IsMetDamage, IsStateAfter}
use Rattle.transcript_view.specs.Picture.{picture_of}
use Rattle.transcript_view.specs.declared.view.View.{View}
use Rattle.transcript_view.specs.declared.view.View.TheVariants.{Text, Refused, TooFew, Forgotten}
use Rattle.transcript_view.specs.Table.{epoch_table}

-- the text is the picture of the state that the run has reached
pub record IsPictureOf (bytes : List ℕ) (last : Option ℕ) (text : List ℕ) : Type 0 where
  pub rules : RuleSet
  pub state : State
  pub reached : IsStateAfter bytes last rules state
  pub text_is : text ≡ picture_of rules state

-- the text is the table of the run's epochs, whose moves and rounds are within their bounds
pub record IsTableOf (bytes : List ℕ) (text : List ℕ) : Type 0 where
  pub rules : RuleSet
  pub rows : List CostedEpoch
  pub are : AreCostedEpochs bytes rules rows
  pub bounded : All (IsWithinItsBound rules) (epochs_in rows)
  pub few : All (HasFewRounds rules) rows
  pub text_is : text ≡ epoch_table rules rows

-- The view is the picture of the state after this entry, or after all entries; or it names the damage of a
-- line up to there; or there is no such entry, since the transcript ends before it or begins after it.
abbrev pub IsPicture : List ℕ → Option ℕ → View → Type 0
IsPicture bytes last (Text text) = IsPictureOf bytes last text.items
IsPicture bytes last (Refused damage) = IsMetDamage bytes last damage
IsPicture bytes last (TooFew number entries) = HasTooFew bytes last number entries
IsPicture bytes last (Forgotten number base) = HasDroppedEntry bytes last number base

-- the view is the table of epochs, or names the bytes' damage
abbrev pub IsEpochTable : List ℕ → View → Type 0
IsEpochTable bytes (Text text) = IsTableOf bytes text.items
IsEpochTable bytes (Refused damage) = IsDamage bytes damage
IsEpochTable bytes (TooFew number entries) = ⊥
IsEpochTable bytes (Forgotten number base) = ⊥

-- Two views are equal in their texts, damages or numbers. `one_view` proves that bytes have at most one
-- picture and one table.
abbrev pub SameView : View → View → Type 0
SameView (Text text) (Text also) = text.items ≡ also.items
SameView (Refused damage) (Refused other) = damage ≡ other
SameView (TooFew number entries) (TooFew also count) = (number ≡ also) × (entries ≡ count)
SameView (Forgotten number base) (Forgotten also other) = (number ≡ also) × (base ≡ other)
SameView view other = ⊥
