use Rattle.cli_args.proofs.GoodWords.{run_wanted, resume_wanted, audit_file_wanted, audit_wanted, picture_wanted, epochs_file_wanted, epochs_wanted}
use Rattle.cli_args.proofs.GoodStorms.{resume_storm_wanted}
use Rattle.cli_args.proofs.request.usual_words.Goals as goal

pub returns : goal.returns
returns c = record {
  run = run_wanted;
  resume = resume_wanted;
  resume_storm = resume_storm_wanted;
  audit = audit_wanted;
  picture = picture_wanted;
  epochs = epochs_wanted;
  audit_file = audit_file_wanted;
  epochs_file = epochs_file_wanted;
}
