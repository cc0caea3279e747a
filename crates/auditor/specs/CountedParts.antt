-- How a part of a transcript counts rounds.
use Rattle.std.specs.Prelude.{◌≡◌, ℕ, ◌<◌, ◌≤◌, List, Option, None, Some}
use Rattle.rule_machine.specs.Base.{LogPart}
use Rattle.rule_machine.specs.Run.{Entry}
use Rattle.rule_machine.specs.State.{State}
use Rattle.machine_laws.specs.StatesAfterReplies.{followed}
use Rattle.round_counter.specs.Counting.{start_after, log_after}
use Rattle.entry_grammar.specs.Spelling.{max_entries}
use Rattle.judged_rounds.specs.declared.count.JudgedRounds.{JudgedRounds}
use Rattle.judged_rounds.specs.Following.{CountsIn, IsReadyFor}
use Rattle.auditor.specs.declared.transcript_cursor.TranscriptCursor.{TranscriptCursor}
use Rattle.auditor.specs.Epochs.{start_at_part, log_at}
use Rattle.auditor.specs.Position.{counted_part, stand_of}
use Rattle.auditor.specs.Transcript.{NextPart}

-- the count is ready for the entry that comes next; without one it stays as it is
abbrev pub IsReadyAhead : State → List Entry → State → Option Entry → JudgedRounds → Type 0
IsReadyAhead start log s None it = CountsIn start log s it
IsReadyAhead start log s (Some entry) it = IsReadyFor start log s entry.0 entry.1 it

-- the count after the entry that came next, which led to s'
abbrev pub FollowsAhead : State → Option Entry → JudgedRounds → JudgedRounds → Type 0
FollowsAhead s' None old new = new ≡ old
FollowsAhead s' (Some entry) old new =
    (start : State) (log : List Entry) (s : State) → IsReadyFor start log s entry.0 entry.1 old → s' ≡ followed s entry.0 entry.1 → old.counter.rounds < 4294967295
    → CountsIn (start_after start entry.1 s') (log_after log entry.0 entry.1) s' new

-- If this part comes next, what was counted before it is counted after it; there are at most as many rounds as
-- entries.
abbrev pub KeepsCount : TranscriptCursor → TranscriptCursor → List ℕ → List ℕ → LogPart → State → List Entry → JudgedRounds → JudgedRounds → Type 0
KeepsCount old new rest behind part start log was is =
    NextPart old.rules old.size (stand_of old.audit) rest part (stand_of new.audit) behind
    → new.audit.counted ≡ counted_part old.audit.counted part
    → CountsIn start log old.audit.state was
    → was.counter.rounds ≤ old.audit.counted.entries
    → old.audit.counted.entries ≤ max_entries
    → CountsIn (start_at_part start part new.audit.state) (log_at log part) new.audit.state is × (is.counter.rounds ≤ new.audit.counted.entries)
