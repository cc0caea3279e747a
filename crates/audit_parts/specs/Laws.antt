-- The laws of texts that meet at a base; the functions of src/law.rt have them as contracts.
use Rattle.std.specs.Prelude.{◌≡◌, ℕ, ◌≤◌, List, [], ◌∷◌, ◌++◌, length}
use Rattle.std.specs.List.{AllByRecursion}
use Rattle.rule_machine.specs.declared.base.Base.{Base}
use Rattle.rule_machine.specs.declared.rule_set.RuleSet.{RuleSet}
use Rattle.byte_streams.specs.Lines.{IsLine}
use Rattle.line_text.specs.BaseText.{base_text}
use Rattle.line_text.specs.Words.{lines_with_ends}
use Rattle.entry_grammar.specs.BaseLines.{IsShaped}
use Rattle.auditor.specs.declared.fault.AuditFault.{AuditFault}
use Rattle.auditor.specs.declared.summary.Summary.{Summary}
use Rattle.auditor.specs.AcceptedRuns.{IsAccepted}
use Rattle.auditor.specs.declared.transcript_end.TranscriptEnd.{TranscriptEnd}
use Rattle.auditor.specs.Damage.{BeginsBase, IsDamage, line_feeds}
use Rattle.auditor.specs.TranscriptEnds.{IsTranscriptEnd}
use Rattle.auditor.specs.Verdict.{IsJudged}
use Rattle.audit_parts.specs.Continuations.{ContinuesRun, end_base}
use Rattle.audit_parts.specs.Seams.{EndsLine, IsSeam, Meets, Verdict, counted_both, further, joined_verdict}

-- ---- two texts that meet: `accepted_in_two` and `damaged_in_two` prove these laws

-- If both texts are accepted, so is the joined text: entries and moves add up, and so do epochs, less one.
abbrev pub JoinedIsAccepted : Type 0
JoinedIsAccepted =
    (first second : List ℕ) (m : Meets first second) (c d : Summary) → IsAccepted first c → IsAccepted second d → IsAccepted (m.own ++ second) (counted_both c d)

-- a text is accepted, with some counts
abbrev pub IsAcceptedText : List ℕ → Type 0
IsAcceptedText text = (c : Summary) × IsAccepted text c

-- If the joined text is accepted, so are both texts.
abbrev pub PartsAreAccepted : Type 0
PartsAreAccepted = (first second : List ℕ) (m : Meets first second) → IsAcceptedText (m.own ++ second) → IsAcceptedText first × IsAcceptedText second

-- The damage of the first text is the damage of the joined text.
abbrev pub FirstDamageStays : Type 0
FirstDamageStays = (first second : List ℕ) (m : Meets first second) (d : AuditFault) → IsDamage first d → IsDamage (m.own ++ second) d

-- If the first text is accepted and the second is damaged, the joined text has the second's damage, whose
-- line grows by the number of lines of the first text before the seam.
abbrev pub SecondDamageMoves : Type 0
SecondDamageMoves =
    (first second : List ℕ) (m : Meets first second) (c : Summary) (d : AuditFault) → IsAccepted first c → IsDamage second d → IsDamage (m.own ++ second) (further (line_feeds m.own) d)

-- ---- any number of texts, each of which meets the next: `judged_in_parts` proves these laws

-- the whole text, which contains each seam once
abbrev pub AreParts : List ℕ → List (List ℕ) → List ℕ → Type 0
AreParts first [] whole = whole ≡ first
AreParts first (next ∷ others) whole = (m : Meets first next) × (rest : List ℕ) × AreParts next others rest × (whole ≡ m.own ++ rest)

-- If the whole is accepted, so is each part.
abbrev pub AllPartsAreAccepted : Type 0
AllPartsAreAccepted =
    (first : List ℕ) (others : List (List ℕ)) (whole : List ℕ) → AreParts first others whole → IsAcceptedText whole → IsAcceptedText first × AllByRecursion IsAcceptedText others

-- the whole text and its verdict: the verdict of the first part, joined with that of all later parts
abbrev pub HasVerdict : List ℕ → Verdict → List (List ℕ × Verdict) → List ℕ → Verdict → Type 0
HasVerdict first v [] whole all = (whole ≡ first) × (all ≡ v)
HasVerdict first v (next ∷ others) whole all =
    (m : Meets first next.0) × (rest : List ℕ) × (sum : Verdict) × HasVerdict next.0 next.1 others rest sum × (whole ≡ m.own ++ rest) × (all ≡ joined_verdict v (line_feeds m.own) sum)

-- The joined verdicts of all parts are the verdict of the whole. It is accepted with the sums, or has the
-- first damage of the first damaged part, whose line grows by the lines before that part.
abbrev pub PartsAreJudged : Type 0
PartsAreJudged =
    (first : List ℕ) (v : Verdict) (others : List (List ℕ × Verdict)) (whole : List ℕ) (all : Verdict) → HasVerdict first v others whole all → IsJudged first v → AllByRecursion (λ part. IsJudged part.0 part.1) others → IsJudged whole all

-- ---- seams

-- The text of each base is a seam.
abbrev pub BasesAreSeams : Type 0
BasesAreSeams = (rules : RuleSet) (size : ℕ) (base : Base) → size ≤ 65535 → IsShaped base → IsSeam (base_text rules size base)

-- ---- a run that goes on where another ends: `continued_in_two` and `ends_are_continued` prove these laws

-- The damage of the second text is that of both together; its line grows by the number of lines in the first.
abbrev pub ContinuedIsDamaged : Type 0
ContinuedIsDamaged =
    (first second : List ℕ) → ContinuesRun first second → (d : AuditFault) → IsDamage second d → IsDamage (first ++ second) (further (line_feeds first) d)

-- If a text that begins as a base is accepted after an accepted text, its run goes on where that of the first
-- ends, and it is accepted alone.
abbrev pub AcceptedIsContinued : Type 0
AcceptedIsContinued =
    (first second : List ℕ) → IsAcceptedText first → BeginsBase second → IsAcceptedText (first ++ second) → ContinuesRun first second × IsAcceptedText second

-- A text that begins with the base of the end that an audit returns goes on from there.
abbrev pub EndsAreContinued : Type 0
EndsAreContinued = (first : List ℕ) (end : TranscriptEnd) (behind : List ℕ) → IsTranscriptEnd first end → ContinuesRun first (end_base end ++ behind)

-- That base is an accepted text without entries.
abbrev pub EndBasesAreAccepted : Type 0
EndBasesAreAccepted =
    (first : List ℕ) (end : TranscriptEnd) → IsTranscriptEnd first end → IsAccepted (end_base end) (record { entries = 0; epochs = 1; moves = 0 })

-- An accepted text consists of whole lines.
abbrev pub AcceptedIsWhole : Type 0
AcceptedIsWhole = (text : List ℕ) → IsAcceptedText text → EndsLine text

-- ---- how long the lines are: `lines_are_short` proves this law

-- a line of at most 2,097,152 bytes without its LF
abbrev pub IsShortLine : List ℕ → Type 0
IsShortLine line = IsLine line × (length line ≤ 2097152)

-- the text is that of these lines, each with its LF
pub record HasShortLines (text : List ℕ) : Type 0 where
  pub lines : List (List ℕ)
  pub short : AllByRecursion IsShortLine lines
  pub is : text ≡ lines_with_ends (λ line. line) lines

-- Each line of an accepted text is short: the header, entries with whatever lists, and the lines of bases.
abbrev pub AcceptedIsShort : Type 0
AcceptedIsShort = (text : List ℕ) → IsAcceptedText text → HasShortLines text
