-- Texts of runs that go on where the run of another text ends.
use Rattle.std.specs.Prelude.{◌≡◌, ℕ, List, ◌++◌}
use Rattle.rule_machine.specs.declared.rule_set.RuleSet.{RuleSet}
use Rattle.rule_machine.specs.Base.{LogPart, NumberedMoment, base_of}
use Rattle.line_text.specs.BaseText.{base_text}
use Rattle.auditor.specs.declared.transcript_end.TranscriptEnd.{TranscriptEnd}
use Rattle.auditor.specs.Parts.{Opening}
use Rattle.auditor.specs.Transcript.{IsTranscript}
use Rattle.auditor.specs.TranscriptEnds.{end_moment}

-- the text of the base of this moment: what a run writes first that goes on from there
abbrev pub base_at : RuleSet → NumberedMoment → List ℕ
base_at rules at = base_text rules at.moment.state.network.size (base_of at.count at.moment)

-- the text of the base at the end of a transcript
abbrev pub end_base : TranscriptEnd → List ℕ
end_base end = base_at end.rules (end_moment end)

-- The first text is the transcript of a run, and the second begins with the base of that run's end.
pub record ContinuesRun (first second : List ℕ) : Type 0 where
  pub rules : RuleSet
  pub opening : Opening
  pub log : List LogPart
  pub end : NumberedMoment
  pub transcript : IsTranscript first rules opening log end
  pub behind : List ℕ
  pub begins : second ≡ base_at rules end ++ behind
