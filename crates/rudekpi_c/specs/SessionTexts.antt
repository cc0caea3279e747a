-- The text of a session as a transcript.
use Rattle.std.specs.Prelude.{◌≡◌, ◌≤◌, ◌⊎◌, ◌+◌, ◌++◌, ℕ, Bool, true, List, [], length, drop, Option, None, Some}
use Rattle.rule_machine.specs.Base.{LogPart, base_of}
use Rattle.script_text.specs.declared.command.Command.{Command}
use Rattle.auditor.specs.declared.summary.Summary.{Summary}
use Rattle.auditor.specs.AcceptedRuns.{IsAccepted}
use Rattle.auditor.specs.Parts.{Based, Opening}
use Rattle.auditor.specs.Transcript.{IsTranscript}
use Rattle.transcript_laws.specs.Written.{IsWrittenAfter, entries_before, moment_of}
use Rattle.rudekpi_c.specs.CommandCalls.{AnswersCommand}
use Rattle.rudekpi_c.specs.Renumbering.{AnswersRenumber}
use Rattle.rudekpi_c.specs.RoundCalls.{AnswersCounting}
use Rattle.rudekpi_c.specs.Session.{stands, rules_of, limit_of}
use Rattle.rudekpi_c.specs.SessionQuestions.{AnswersKeep}
use Rattle.rudekpi_c.specs.Slot.{AnswersFeed, Handed}
use Rattle.rudekpi_c.specs.declared.call_result.CallResult.{CallResult}
use Rattle.rudekpi_c.specs.declared.session.Session.{Session}

-- The session keeps its text. The text begins with `ended`, the transcripts that renumberings have ended. What
-- follows, appended to `first`, is the transcript of a run with this opening, as far as the session has come.
pub record IsTranscribed (ended first : List ℕ) (opening : Opening) (s : Session) : Type 0 where
  pub keeps : s.keeps ≡ true
  pub limit : limit_of s ≤ 16777216
  pub rules : (stands s).rules ≡ rules_of s
  pub written : IsWrittenAfter ended first opening (stands s)

-- C keeps such a session
abbrev pub HasTranscript : List ℕ → List ℕ → Opening → Option Session → Type 0
HasTranscript ended first opening None = ⊥
HasTranscript ended first opening (Some s) = IsTranscribed ended first opening s

-- whatever transcript the session kept goes on
abbrev pub StaysTranscript : Option Session → Option Session → Type 0
StaysTranscript old new = (ended first : List ℕ) (opening : Opening) → HasTranscript ended first opening old → HasTranscript ended first opening new

-- the auditor accepts these bytes, and counts the entries of the session that come after the opening
abbrev pub IsAcceptedSoFar : List ℕ → Opening → Session → Type 0
IsAcceptedSoFar bytes opening s = (c : Summary) × IsAccepted bytes c × (c.entries + entries_before opening ≡ (stands s).count)

-- the auditor accepts the session's text, without `ended` and appended to `first`
pub record HasAcceptedText (ended first : List ℕ) (opening : Opening) (s : Session) : Type 0 where
  pub own : List ℕ
  pub text_is : (stands s).text ≡ ended ++ own
  pub accepted : IsAcceptedSoFar (first ++ own) opening s

-- The whole text was copied to the start of `out`. After `ended` it is the next piece of the transcript; the
-- session goes on after that piece, with no ended transcript in its text.
pub record ReadsTranscript (ended first : List ℕ) (opening : Opening) (was out : List ℕ) (n : ℕ) (new : Option Session) : Type 0 where
  pub own : List ℕ
  pub out_is : out ≡ (ended ++ own) ++ drop n was
  pub length_is : n ≡ length (ended ++ own)
  pub goes_on : HasTranscript [] (first ++ own) opening new

-- the opening that is the base of the session's state, with this number
abbrev pub base_opening : ℕ → Session → Opening
base_opening number s = Based (stands s).moment.state.network.size (base_of number (stands s).moment)

-- The first n bytes of the text end the transcript, which the auditor accepts. The next transcript begins after
-- them, with the base of the same state, numbered 0.
pub record BeginsNextTranscript (ended first : List ℕ) (opening : Opening) (n : ℕ) (s : Session) (new : Option Session) : Type 0 where
  pub own : List ℕ
  pub length_is : n ≡ length (ended ++ own)
  pub accepted : IsAcceptedSoFar (first ++ own) opening s
  pub next : HasTranscript (ended ++ own) [] (base_opening 0 s) new

-- some run has come as far as the session, whether or not the session keeps its text
pub record IsAtRunEnd (s : Session) : Type 0 where
  pub limit : limit_of s ≤ 16777216
  pub rules : (stands s).rules ≡ rules_of s
  pub bytes : List ℕ
  pub opening : Opening
  pub log : List LogPart
  pub run : IsTranscript bytes (stands s).rules opening log (moment_of (stands s))

-- C keeps such a session
abbrev pub HasRunEnd : Option Session → Type 0
HasRunEnd None = ⊥
HasRunEnd (Some s) = IsAtRunEnd s

-- any call that may change a session, except those that begin or end one
abbrev pub IsSessionCall : Option Session → Option Session → Type 0
IsSessionCall old new =
    ((line : List ℕ) × (was : ℕ) × (status : ℕ) × (number : ℕ) × AnswersFeed line was status number old new)
    ⊎ ((command : Command) × (status : ℕ) × (outcome : CallResult) × AnswersCommand command status outcome old new)
    ⊎ ((status : ℕ) × (ended : ℕ) × AnswersRenumber status ended old new)
    ⊎ ((status : ℕ) × AnswersCounting status old new)
    ⊎ ((keeps : Bool) × (status : ℕ) × AnswersKeep keeps status old new)
    ⊎ ((was : List ℕ) × (out : List ℕ) × (n : ℕ) × Handed was out n old new)
