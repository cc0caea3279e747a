-- What was written to the writer of faults.
use Rattle.std.specs.Prelude.{◌≡◌, ℕ, Bool, false, List, Option}
use Rattle.std.specs.Io.KnownBytes.{Appends}
use Rattle.byte_streams.specs.PartialOutput.{AppendsBeginning}
use Rattle.byte_streams.specs.declared.fail_stop_writer.FailStopWriter.{FailStopWriter}

-- what a writer has received
abbrev pub WrittenBytes : Type 0
WrittenBytes = Option (List ℕ)

-- what a writer has received, and whether one of its writes or flushes failed
pub record WriterState : Type 0 where
  pub got : WrittenBytes
  pub failed : Bool

abbrev pub heard : {W : Type 0} → (W → WrittenBytes) → FailStopWriter W → WriterState
heard contents w = record { got = contents w.writer; failed = w.failed }

-- the line is written; if a write failed, perhaps only a beginning of the line
abbrev pub WritesLine : WrittenBytes → WriterState → List ℕ → Type 0
WritesLine before after line = AppendsBeginning before after.got line × (after.failed ≡ false → Appends before after.got line)
