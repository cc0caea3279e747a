-- Going through a transcript with a cursor that keeps only the bytes after the judged parts.
use Rattle.std.specs.Prelude.{◌≡◌, ◌≢◌, ℕ, ◌+◌, ◌<◌, ◌≤◌, ◌^◌, ◌⊎◌, List, [], ◌++◌, length, take, slice_index, Option, None, Some, Err}
use Rattle.rule_machine.specs.declared.rule_set.RuleSet.{RuleSet}
use Rattle.rule_machine.specs.Base.{base_of}
use Rattle.line_text.specs.BaseText.{base_head, base_text}
use Rattle.byte_streams.specs.Lines.{first_line}
use Rattle.entry_grammar.specs.BaseLines.{BreaksAt}
use Rattle.auditor.specs.declared.fault.AuditFault.{AuditFault}
use Rattle.auditor.specs.declared.incremental_audit.IncrementalAudit.{IncrementalAudit}
use Rattle.auditor.specs.declared.transcript_cursor.TranscriptCursor.{TranscriptCursor}
use Rattle.auditor.specs.AcceptedRuns.{IsPositionAfter}
use Rattle.auditor.specs.Damage.{BeginsBase, line_feeds}
use Rattle.auditor.specs.Position.{IsFurther, stand_of}
use Rattle.auditor.specs.EntryWindows.{IsMetBehind, IsOpened}
use Rattle.auditor.specs.Verdict.{IsJudged}

-- two texts agree up to this length
pub record AreSameUpTo (text bytes : List ℕ) (len : ℕ) : Type 0 where
  pub within : len ≤ length text
  pub inside : len ≤ length bytes
  pub alike : take len text ≡ take len bytes

-- if both texts are longer than this, their next bytes differ
abbrev pub ArePartedAt : List ℕ → List ℕ → ℕ → Type 0
ArePartedAt text bytes len = len < length text → len < length bytes → slice_index text len ≢ slice_index bytes len

-- The bytes begin with a transcript that leads to the cursor's state and has as many lines as the cursor has
-- counted. The rest follows the transcript.
pub record IsCursorAt (bytes : List ℕ) (replay : TranscriptCursor) (rest : List ℕ) : Type 0 where
  pub reached : IsPositionAfter bytes replay.rules replay.size replay.audit rest
  pub counted : (good : List ℕ) → bytes ≡ good ++ rest → replay.lines ≡ line_feeds good

-- the cursor is at the rest of some bytes, which are few enough for their lines to be counted
pub record ReachableBy (replay : TranscriptCursor) (rest : List ℕ) : Type 0 where
  pub bytes : List ℕ
  pub few : length bytes < 2 ^ 63
  pub at : IsCursorAt bytes replay rest

abbrev pub IsReachable : TranscriptCursor → List ℕ → Type 0
IsReachable replay rest = ∥ ReachableBy replay rest ∥₁

-- the text of the base of the cursor's state
abbrev pub base_wanted : TranscriptCursor → List ℕ
base_wanted replay = base_text replay.rules replay.size (base_of replay.audit.number (stand_of replay.audit).moment)

-- a base's text is kept only if the rest begins a base; the rest begins with the part of the text compared so
-- far
pub record ComparesBase (replay : TranscriptCursor) (rest : List ℕ) : Type 0 where
  pub text : (replay.wanted.items ≡ []) ⊎ (BeginsBase rest × (replay.wanted.items ≡ base_wanted replay))
  pub alike : AreSameUpTo replay.wanted.items rest replay.same

abbrev pub IsCompared : TranscriptCursor → List ℕ → Type 0
IsCompared replay rest = ∥ ComparesBase replay rest ∥₁

-- the text ends in these bytes
abbrev pub EndsIn : List ℕ → List ℕ → Type 0
EndsIn text rest = (front : List ℕ) × (text ≡ front ++ rest)

-- ---- what the text begins with

-- the text has no whole line, or it begins with the lines of a base and ends inside that base
pub record HasCutBase (text : List ℕ) : Type 0 where
  pub rules : RuleSet
  pub size : ℕ
  pub rest : List ℕ
  pub few : size ≤ 65535
  pub first : first_line text ≡ Some (base_head rules size, rest)
  pub breaks : BreaksAt rest (line_feeds rest + 1)

abbrev pub HasCutStart : List ℕ → Type 0
HasCutStart text = (first_line text ≡ None) ⊎ HasCutBase text

-- the cursor is after the text's opening
pub record IsCursorAfter (text : List ℕ) (replay : TranscriptCursor) (rest : List ℕ) : Type 0 where
  pub opened : IsOpened text replay.rules replay.size replay.begun replay.audit rest
  pub counted : (good : List ℕ) → text ≡ good ++ rest → replay.lines ≡ line_feeds good
  pub unwanted : replay.wanted.items ≡ []
  pub none_same : replay.same ≡ 0

-- ---- what comes next

-- the text of the base of the cursor's state has been written
pub record AwaitsBase (before after : TranscriptCursor) : Type 0 where
  pub rules : after.rules ≡ before.rules
  pub size : after.size ≡ before.size
  pub audit : after.audit ≡ before.audit
  pub lines : after.lines ≡ before.lines
  pub same : after.same ≡ before.same
  pub text : after.wanted.items ≡ base_wanted before
  pub before_it : (before.wanted.items ≡ []) ⊎ (before.wanted.items ≡ after.wanted.items)

-- the rest is a proper beginning of the base of the cursor's state
pub record BeginsWanted (replay : TranscriptCursor) (rest : List ℕ) : Type 0 where
  pub begins : BeginsBase rest
  pub missing : List ℕ
  pub some : missing ≢ []
  pub is : base_wanted replay ≡ rest ++ missing

-- the rest begins with no whole part, but may become one when bytes follow
abbrev pub IsUnended : TranscriptCursor → List ℕ → Type 0
IsUnended replay rest = ((first_line rest ≡ None) × (BeginsBase rest → ⊥)) ⊎ BeginsWanted replay rest

-- the cursor has not moved
pub record StaysInPlace (before after : TranscriptCursor) (rest : List ℕ) : Type 0 where
  pub rules : after.rules ≡ before.rules
  pub size : after.size ≡ before.size
  pub audit : after.audit ≡ before.audit
  pub lines : after.lines ≡ before.lines
  pub unended : IsUnended after rest
  pub compared : IsCompared after rest

-- the rest begins with a whole part, and the cursor is now after this part
pub record IsPassed (before after : TranscriptCursor) (rest behind : List ℕ) : Type 0 where
  pub rules : after.rules ≡ before.rules
  pub size : after.size ≡ before.size
  pub further : IsFurther before.rules before.size before.audit rest after.audit behind
  pub lines : (text : List ℕ) → rest ≡ text ++ behind → after.lines ≡ before.lines + line_feeds text
  pub unwanted : after.wanted.items ≡ []
  pub none_same : after.same ≡ 0

-- the fault is that of the next part, whatever bytes follow the rest
abbrev pub IsMetAt : TranscriptCursor → List ℕ → AuditFault → Type 0
IsMetAt replay rest fault = (bytes more : List ℕ) → IsCursorAt bytes replay (rest ++ more) → IsMetBehind bytes replay.audit.number fault

-- ---- a transcript that is read

-- what was read is only held, as nothing was judged yet; or the bytes held follow the judged ones
abbrev pub IsReadOf : List ℕ → Option TranscriptCursor → List ℕ → Type 0
IsReadOf read None held = read ≡ held
IsReadOf read (Some run) held = IsCursorAt read run held × IsCompared run held

-- these bytes were read, and `len` is their number
abbrev pub IsRead : List ℕ → IncrementalAudit → Type 0
IsRead read trial = (length read ≡ trial.len) × IsReadOf read trial.run trial.held.items

-- some bytes were read, fewer than 2^63
abbrev pub IsUnderway : IncrementalAudit → Type 0
IsUnderway trial = (trial.len < 2 ^ 63) × ∥ ((read : List ℕ) × IsRead read trial) ∥₁

-- the bytes were read without a fault; or they have this fault, whatever bytes follow
abbrev pub IsIncrementalAudit : List ℕ → IncrementalAudit → Option AuditFault → Type 0
IsIncrementalAudit bytes trial None = IsRead bytes trial
IsIncrementalAudit bytes trial (Some fault) = (more : List ℕ) → IsJudged (bytes ++ more) (Err fault)
