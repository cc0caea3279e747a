-- What the proofs of this crate import from the crates below and from its own definitions.
pub use Rattle.std.proofs.Common.{◌≡◌, Result, Ok, Err, ap₂, ◌∙◌, false, ℕ, List, Option, None, Some, get_or, refl, sym, ap, subst, option_map, arith, ◌≤◌, ◌<◌, true, [], ◌∷◌, ◌++◌, ◌==◌, rules, Bor, map}
pub use Rattle.std.proofs.lemmas.Bool.{ne_eqb}
pub use Rattle.std.proofs.lemmas.Fmt.{decimal_is_IsNumeral}
pub use Rattle.std.proofs.lemmas.Int.{ints}
pub use Rattle.std.proofs.lemmas.Str.Parse.{digit_from_value}
pub use Rattle.std.specs.Cmp.Derive.{both_true}
pub use Rattle.std.specs.Fmt.{decimal}
pub use Rattle.std.specs.List.{list_any}
pub use Rattle.std.specs.Prelude.{IfOk, ◌≢◌, ◌||◌, ◌&&◌, Bool, not, ◌^◌, MatchOption, codes, IfSome, pos, is_some, unwrap_or, IfErr}
pub use Rattle.std.specs.Str.Parse.{IsNumeral, digits_value}
pub use Rattle.std.specs.contracts.prelude.U32FromStr.TheImpl.{ghosts}
pub use Rattle.clap.proofs.ValueTestLemmas.{Accepts-accepts}
pub use Rattle.clap.proofs.WalkLemmas.{first_value-rows, one_text-rows, list_any-map, raw_values-rows}
pub use Rattle.clap.specs.Lexer.{without_minus}
pub use Rattle.clap.specs.Matches.{ReadsOne, TriesOne, raw_values}
pub use Rattle.clap.specs.ValueTests.{accepts}
pub use Rattle.clap.specs.Values.{Accepts, same_text}
pub use Rattle.clap.specs.Walk.{is_empty, is_free_arg}
pub use Rattle.clap.specs.Words.{AddsArg, AddsConflicts, first_of, App, Rule, app_of, rule_of, with_rule, Row, Text, first_value, one_text, rows_of, subcommand_of, takes, all_of, matched_of, HasMatchesOf, subcommand_rows_of, found_of}
pub use Rattle.clap.specs.declared.builder.arg.Arg.{Arg}
pub use Rattle.clap.specs.declared.builder.command.Command.{Command}
pub use Rattle.clap.specs.declared.error.Error.{Error}
pub use Rattle.clap.specs.declared.parser.matches.ArgMatches.{ArgMatches}
pub use Rattle.clap.specs.declared.parser.matches.ArgMatches.TheViews.{out-ArgMatches}
pub use Rattle.clap.specs.declared.parser.matches.Found.{Found}
pub use Rattle.rule_machine.specs.Tables.{rules_word}
pub use Rattle.rule_machine.specs.declared.rule_set.RuleSet.{RuleSet}
pub use Rattle.rule_machine.specs.declared.rule_set.RuleSet.TheVariants.{Hh, Manne}
pub use Rattle.cli_args.specs.TaskWords.{GivesNumber, MatchesTask, HoldsNothing, HoldsNoTask, Builds, Declares, HoldsNoStorm, HoldsResume, HoldsResumeStorm, IsLeftOut, IsResumeStormTask, ResumedStorm, WantsResumeStorm, AreRoamers, resume_storm_words, resume_words, resumed_storm_of, usual_resumed_storm, HoldsPicture, HoldsRun, IsNumber, IsStormTask, MayGive, Names, AreRules, AreWorkers, ParsesAsTask, console_app, run_words, audit_words, picture_words, epochs_words, HasInput, IsInput, ParsesOnFile, ReadsFrom, audit_file_words, epochs_file_words, HoldsStorm, Storm, storm_of, ParsesTo, WantsStorm, network_app, roaming_app}
pub use Rattle.cli_args.specs.declared.task.Task.{Task}
pub use Rattle.cli_args.specs.declared.task.Task.TheVariants.{Run, Resume, Audit, Picture, Epochs, ResumeStorm, Show}
