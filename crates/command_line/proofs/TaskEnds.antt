-- What good words say of a task that opens files by itself.
use Rattle.std.proofs.Common.{◌⊎◌, ℕ, Bor, List, inl, inr}
use Rattle.cli_args.specs.declared.storm_words.ResumeStormWords.{ResumeStormWords}
use Rattle.cli_args.specs.declared.storm_words.StormWords.{StormWords}
use Rattle.cli_args.specs.declared.task.Task.{Task}
use Rattle.cli_args.specs.declared.task.Task.TheVariants as variants
use Rattle.cli_args.specs.declared.task.Task.TheVariants.{Run, Resume, Audit, Picture, Epochs, ResumeStorm, Show}
use Rattle.cli_args.specs.TaskWords.{Asks, ParsesTo}
use Rattle.command_line.specs.FileEnds.{OpensFile}

-- they ask for a storm, or for a run or a storm that goes on; or else what holds of the other tasks holds
pub three_of : (words : List (List ℕ)) (task : Task) (Rest Ends : Type 0) → ParsesTo words task → OpensFile task ⊎ Ends → (Ends → Rest)
    → ((storm : StormWords) × Asks words (variants.Storm storm))
    ⊎ (((from : Bor (List ℕ)) × (workers : ℕ) × Asks words (Resume from workers)) ⊎ (((more : ResumeStormWords) × Asks words (ResumeStorm more)) ⊎ Rest))
three_of words task Rest Ends asked (inr ends) rest = inr (inr (inr (rest ends)))
three_of words (variants.Storm storm) Rest Ends asked (inl opens) rest = inl (storm, asked)
three_of words (Resume from workers) Rest Ends asked (inl opens) rest = inr (inl (from, workers, asked))
three_of words (ResumeStorm more) Rest Ends asked (inl opens) rest = inr (inr (inl (more, asked)))
three_of words (Run rules nodes present workers) Rest Ends asked (inl opens) rest = absurd opens
three_of words Audit Rest Ends asked (inl opens) rest = absurd opens
three_of words (Picture entry) Rest Ends asked (inl opens) rest = absurd opens
three_of words Epochs Rest Ends asked (inl opens) rest = absurd opens
three_of words (Show text) Rest Ends asked (inl opens) rest = absurd opens
