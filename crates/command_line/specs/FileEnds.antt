-- How the program ends that reads a file in place of standard input, or standard input.
use Rattle.std.specs.Prelude.{◌≡◌, ◌⊎◌, ℕ, List, Option, None, Some, Result, Ok, Err, IfSome}
use Rattle.std.specs.Borrow.{Bor}
use Rattle.std.specs.Io.KnownBytes.{Keeps}
use Rattle.clap.specs.Words.{kind_of}
use Rattle.clap.specs.declared.error.Error.{Error}
use Rattle.cli_args.specs.declared.task.Task.{Task}
use Rattle.cli_args.specs.declared.task.Task.TheVariants as variants
use Rattle.cli_args.specs.declared.task.Task.TheVariants.{Resume, ResumeStorm}
use Rattle.cli_args.specs.declared.request.Request.{Request}
use Rattle.command_line.specs.FileNotes.{AddsNote, TellsUnread}
use Rattle.command_line.specs.ProgramEnds.{DoesTask, TellsMistake}
use Rattle.command_line.specs.Status.{words_status}
use Rattle.command_line.specs.WriterStates.{WrittenBytes, WriterState}

-- the task opens files by itself: the scripts of a storm, or the file of `--from`
abbrev pub OpensFile : Task → Type 0
OpensFile (variants.Storm words) = Unit {0}
OpensFile (Resume from workers) = Unit {0}
OpensFile (ResumeStorm words) = Unit {0}
OpensFile task = ⊥

-- The task was done on what the file had left, where that is known, as it is done on standard input. Then a line
-- may name the file, and say why a read of it failed.
abbrev pub DoesOnFile : List ℕ → WrittenBytes → Task → WrittenBytes → WrittenBytes → WrittenBytes → WriterState → ℕ → Type 0
DoesOnFile file left task old new before after status =
    (mid : WriterState) × IfSome left (λ input. DoesTask task input old new before mid status) × AddsNote file mid.got after

-- the file could not be opened, which is reported as a failed read; or the task was done on it. A file's contents
-- are not known.
abbrev pub ActsOnFile : List ℕ → Task → WrittenBytes → WrittenBytes → WrittenBytes → WriterState → ℕ → Type 0
ActsOnFile file task old new before after status =
    TellsUnread file old new before after status ⊎ ((left : WrittenBytes) × DoesOnFile file left task old new before after status)

-- the task is done on standard input, or on the file that the words name
abbrev pub ActsOnInput : Option (Bor (List ℕ)) → Task → List ℕ → WrittenBytes → WrittenBytes → WrittenBytes → WriterState → ℕ → Type 0
ActsOnInput None task input old new before after status = DoesTask task input old new before after status
ActsOnInput (Some file) task input old new before after status = ActsOnFile file.now task old new before after status

-- the task is done; or bad words, or a lack of memory for reading them, are reported, and nothing is written
-- to the writer
abbrev pub ActsOnWords : Result Request Error → List ℕ → WrittenBytes → WrittenBytes → WrittenBytes → WriterState → ℕ → Type 0
ActsOnWords (Ok request) input old new before after status = ActsOnInput request.file request.task input old new before after status
ActsOnWords (Err e) input old new before after status = Keeps old new × TellsMistake (kind_of e) before after × (status ≡ words_status (kind_of e))
