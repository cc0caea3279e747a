-- The bytes that an audit accepts, and how far an audit has read them.
use Rattle.std.specs.Prelude.{◌≡◌, ℕ, List, length}
use Rattle.rule_machine.specs.declared.rule_set.RuleSet.{RuleSet}
use Rattle.rule_machine.specs.Base.{LogPart, NumberedMoment, entries_in}
use Rattle.rule_machine.specs.Run.{Entry}
use Rattle.auditor.specs.declared.summary.Summary.{Summary}
use Rattle.auditor.specs.Parts.{Opening, size_of}
use Rattle.auditor.specs.Transcript.{IsTranscript, epoch_count, move_count}
use Rattle.auditor.specs.Damage.{BeginsWithTranscript}
use Rattle.auditor.specs.Position.{Position, stand_of}

-- the counts are those of the log's entries
pub record Counts (c : Summary) (log : List Entry) : Type 0 where
  pub entries : c.entries ≡ length log
  pub epochs : c.epochs ≡ epoch_count log
  pub moves : c.moves ≡ move_count log

-- the bytes are the transcript of a run, with these counts
pub record IsAccepted (bytes : List ℕ) (c : Summary) : Type 0 where
  pub rules : RuleSet
  pub opening : Opening
  pub log : List LogPart
  pub end : NumberedMoment
  pub transcript : IsTranscript bytes rules opening log end
  pub counts : Counts c (entries_in log)

-- the bytes begin with a transcript for this many names that leads to the position, and the rest follows it
pub record IsPositionAfter (bytes : List ℕ) (rules : RuleSet) (size : ℕ) (p : Position) (rest : List ℕ) : Type 0 where
  pub log : List LogPart
  pub follows : BeginsWithTranscript bytes rules log (stand_of p) rest
  pub size_is : size_of follows.opening ≡ size
  pub counts : Counts p.counted (entries_in log)
