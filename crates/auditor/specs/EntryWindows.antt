-- Transcripts that are read only up to an entry.
use Rattle.std.specs.Prelude.{◌≡◌, ℕ, ◌<◌, ◌≤◌, ◌⊎◌, Bool, true, nat_lt, List, [], Option, None, Some}
use Rattle.std.proofs.Common.{inl, inr}
use Rattle.rule_machine.specs.declared.rule_set.RuleSet.{RuleSet}
use Rattle.rule_machine.specs.State.{State}
use Rattle.rule_machine.specs.declared.base.EpochStart.{EpochStart}
use Rattle.rule_machine.specs.Base.{LogPart, NumberedMoment, begun_at}
use Rattle.auditor.specs.declared.fault.AuditFault.{AuditFault}
use Rattle.auditor.specs.declared.fault.AuditFault.TheVariants.{BadHeader, NotALine, OutOfOrder, NotTheMachines, BadBase, Read, Memory}
use Rattle.auditor.specs.declared.replayed_run.ReplayFault.{ReplayFault}
use Rattle.auditor.specs.declared.replayed_run.ReplayFault.TheVariants.{Judged, TooFew, Forgotten}
use Rattle.auditor.specs.Parts.{Opening, base_in, size_of}
use Rattle.auditor.specs.Transcript.{IsTranscript}
use Rattle.auditor.specs.Damage.{BeginsWithTranscript, IsDamage}
use Rattle.auditor.specs.Position.{Position, position_at}

-- the transcript ends at the entry with this number, or, if none is named, at the end of the bytes
abbrev pub EndsAt : Option ℕ → ℕ → List ℕ → Type 0
EndsAt None count rest = rest ≡ []
EndsAt (Some last) count rest = count ≡ last

-- whether the named entry comes after this many entries; always if no entry is named
abbrev pub falls_short : Option ℕ → ℕ → Bool
falls_short None count = true
falls_short (Some last) count = nat_lt count last

-- no entry is named, or this many entries include the named one
abbrev pub IsLongEnough : Option ℕ → ℕ → Type 0
IsLongEnough None count = Unit {0}
IsLongEnough (Some last) count = last ≤ count

-- no entry is named, or this many entries do not go beyond the named one
abbrev pub IsAskedWithin : Option ℕ → ℕ → Type 0
IsAskedWithin None count = Unit {0}
IsAskedWithin (Some last) count = count ≤ last

-- The bytes begin with a run's transcript under these rules, which ends at that entry and leads to this
-- state.
pub record IsStateAfter (bytes : List ℕ) (last : Option ℕ) (rules : RuleSet) (s : State) : Type 0 where
  pub log : List LogPart
  pub end : NumberedMoment
  pub rest : List ℕ
  pub follows : BeginsWithTranscript bytes rules log end rest
  pub ends : EndsAt last end.count rest
  pub state : s ≡ end.moment.state

-- The bytes are the transcript of a run whose last entry is `entries`; entry `number` would come after it.
pub record HasTooFew (bytes : List ℕ) (last : Option ℕ) (number entries : ℕ) : Type 0 where
  pub last_is : last ≡ Some number
  pub fewer : entries < number
  pub rules : RuleSet
  pub opening : Opening
  pub log : List LogPart
  pub end : NumberedMoment
  pub transcript : IsTranscript bytes rules opening log end
  pub entries_are : entries ≡ end.count

-- The bytes begin with base `base`, and entry `number` came before it.
pub record HasDroppedEntry (bytes : List ℕ) (last : Option ℕ) (number base : ℕ) : Type 0 where
  pub last_is : last ≡ Some number
  pub fewer : number < base
  pub rules : RuleSet
  pub end : NumberedMoment
  pub rest : List ℕ
  pub follows : BeginsWithTranscript bytes rules [] end rest
  pub base_is : base ≡ end.count

-- no entry is named, or the named one comes after this many entries
abbrev pub IsAskedBeyond : Option ℕ → ℕ → Type 0
IsAskedBeyond None count = Unit {0}
IsAskedBeyond (Some last) count = count < last

-- a damaged base that is read: at the start of the bytes, or before the named entry
abbrev pub base_looked_at : {X Y : Type 0} → Option ℕ → (Y → ℕ) → X ⊎ Y → Type 0
base_looked_at last count (inl start) = Unit {0}
base_looked_at last count (inr ends) = IsAskedBeyond last (count ends)

-- the damage is in the opening, or in a line up to the named entry
abbrev pub IsDamageWithin : (bytes : List ℕ) → Option ℕ → (d : AuditFault) → IsDamage bytes d → Type 0
IsDamageWithin bytes last BadHeader damage = Unit {0}
IsDamageWithin bytes last (NotALine line) damage = IsAskedBeyond last damage.at.end.count
IsDamageWithin bytes last (OutOfOrder line) damage = IsAskedBeyond last damage.at.end.count
IsDamageWithin bytes last (NotTheMachines line) damage = IsAskedBeyond last damage.at.end.count
IsDamageWithin bytes last (BadBase line) damage = base_looked_at last (λ ends. ends.at.end.count) damage
IsDamageWithin bytes last Read damage = ⊥
IsDamageWithin bytes last Memory damage = ⊥

-- the first damage of the bytes, in a line that is read
pub record IsMetDamage (bytes : List ℕ) (last : Option ℕ) (damage : AuditFault) : Type 0 where
  pub is : IsDamage bytes damage
  pub looked_at : IsDamageWithin bytes last damage is

-- why the state was not reached: what is wrong with the lines read; nothing is said if memory ran out
abbrev pub IsReplayFault : List ℕ → Option ℕ → ReplayFault → Type 0
IsReplayFault bytes last (Judged Memory) = Unit {0}
IsReplayFault bytes last (Judged damage) = IsMetDamage bytes last damage
IsReplayFault bytes last (TooFew number entries) = HasTooFew bytes last number entries
IsReplayFault bytes last (Forgotten number base) = HasDroppedEntry bytes last number base

-- the bytes begin with an opening for these rules and this many names, and the rest follows the opening
pub record IsOpened (bytes : List ℕ) (rules : RuleSet) (size : ℕ) (begun : EpochStart) (p : Position) (rest : List ℕ) : Type 0 where
  pub start : NumberedMoment
  pub follows : BeginsWithTranscript bytes rules [] start rest
  pub size_is : size_of follows.opening ≡ size
  pub begun_is : begun ≡ begun_at (base_in follows.opening)
  pub opening : p ≡ position_at start

-- a damage in the opening, or a damage after this many entries
abbrev pub IsMetBehind : List ℕ → ℕ → AuditFault → Type 0
IsMetBehind bytes count Memory = Unit {0}
IsMetBehind bytes count damage = (last : Option ℕ) → IsAskedBeyond last count → IsMetDamage bytes last damage

-- a damage of the opening
abbrev pub IsMetFirst : List ℕ → AuditFault → Type 0
IsMetFirst bytes Memory = Unit {0}
IsMetFirst bytes damage = (last : Option ℕ) → IsMetDamage bytes last damage
