-- The tasks of command line words, by clap's definition of how a command reads words.
use Rattle.std.specs.Prelude.{◌≡◌, ◌≢◌, ◌⊎◌, ℕ, ◌<◌, ◌≤◌, ◌^◌, List, [], ◌∷◌, ◌++◌, map, Option, None, Some, pos, Bool, false, true, codes, is_some, if◌then◌else◌, nat_le, unwrap_or}
use Rattle.std.specs.Borrow.{Bor}
use Rattle.std.specs.Fmt.{decimal}
use Rattle.std.specs.Str.Parse.{IsNumeral, digits_value, without_leading_plus}
use Rattle.clap.specs.Lexer.{usize_max}
use Rattle.clap.specs.Words.{App, Row, Rule, Text, all_of, app_of, first_of, kind_of, new_app, new_rule, one_of, rule_of, subcommand_of, takes, with_rule, with_subcommand}
use Rattle.clap.specs.declared.builder.arg.Arg.{Arg}
use Rattle.clap.specs.declared.builder.command.Command.{Command}
use Rattle.clap.specs.declared.builder.command.Command.TheViews.{out-Command as fields_of}
use Rattle.clap.specs.declared.builder.value_parser.ValueParser.TheVariants as vp
use Rattle.clap.specs.declared.error.kind.ErrorKind.TheVariants.{DisplayHelp, DisplayVersion}
use Rattle.rule_machine.specs.declared.rule_set.RuleSet.{RuleSet}
use Rattle.rule_machine.specs.Tables.{rules_word}
use Rattle.cli_args.specs.declared.storm_words.ResumeStormWords.{ResumeStormWords}
use Rattle.cli_args.specs.declared.storm_words.StormWords.{StormWords}
use Rattle.cli_args.specs.declared.task.Task.{Task}
use Rattle.cli_args.specs.declared.task.Task.TheVariants as variants
use Rattle.cli_args.specs.declared.task.Task.TheVariants.{Run, Resume, Audit, Picture, Epochs, ResumeStorm, Show}

-- texts, as a value parser refers to them
abbrev pub Names : Type 0
Names = Bor (List (Bor Text))

-- the texts are the words for the rule sets
abbrev pub AreRules : Names → Type 0
AreRules names = map (λ s. s.now) names.now ≡ codes "hh" ∷ codes "manne" ∷ []

-- the argument has this rule, and is no global argument
abbrev pub Declares : Arg → Rule → Type 0
Declares argument rule = (rule_of argument ≡ rule) × (argument.global ≡ false)

-- the command is this one, and has no global argument
abbrev pub Builds : Command → App → Type 0
Builds command app = (app_of command ≡ app) × ((fields_of command).has_globals ≡ false)

-- `--NAME` and one value
abbrev pub valued_rule : Text → Rule
valued_rule name = record (new_rule name) { long = Some name; value_names = 1 }

-- `--rules` and one of the names; required, or optional
abbrev pub rules_rule : Bool → Names → Rule
rules_rule required names = record (valued_rule (codes "rules")) { parser = Some (vp.Names names); required = required }

-- `--nodes` and a number from 0 to 65,535; required, or optional
abbrev pub nodes_rule : Bool → Rule
nodes_rule required = record (valued_rule (codes "nodes")) { parser = Some (vp.Signed (pos 0) (pos 65535)); required = required }

-- `--present` and a number from 0 to 65,535; optional
abbrev pub present_rule : Rule
present_rule = record (valued_rule (codes "present")) { parser = Some (vp.Signed (pos 0) (pos 65535)) }

-- `--workers` and a number from 1 to 64; 1 by default
abbrev pub workers_rule : Rule
workers_rule = record (valued_rule (codes "workers")) { defaults = codes "1" ∷ []; parser = Some (vp.Signed (pos 1) (pos 64)) }

-- a subcommand with `--rules`, `--nodes`, `--present` and `--workers`, of which the first two are required or
-- optional
abbrev pub network_app : App → Bool → Names → App
network_app app required names =
    with_rule (with_rule (with_rule (with_rule app (rules_rule required names)) (nodes_rule required)) present_rule) workers_rule

-- `--from` and the name of a file; optional
abbrev pub from_rule : Rule
from_rule = valued_rule (codes "from")

-- the name of the file that is read in place of standard input; optional, and no option
abbrev pub file_rule : Rule
file_rule = record (new_rule (codes "FILE")) { value_names = 1 }

-- the subcommand `run`; its task says which of its arguments go together
abbrev pub run_app : Names → App
run_app names = with_rule (with_rule (network_app (new_app (codes "run")) false names) from_rule) file_rule

-- the subcommand `audit` or `epochs`
abbrev pub filed_app : Text → App
filed_app name = with_rule (new_app name) file_rule

-- `--entry` and a number from 0 to 16,777,216; optional
abbrev pub entry_rule : Rule
entry_rule = record (valued_rule (codes "entry")) { parser = Some (vp.Signed (pos 0) (pos 16777216)) }

-- the subcommand `picture`
abbrev pub picture_app : App
picture_app = with_rule (with_rule (new_app (codes "picture")) entry_rule) file_rule

-- a command with a version, which requires a subcommand and otherwise shows its help
abbrev pub top_app : App
top_app = record (new_app (codes "console")) {
  top = record (new_app (codes "console")).top { has_version = true; subcommand_required = true; arg_required_else_help = true };
}

-- the command with `run` and `audit`
abbrev pub judging_app : Names → App
judging_app names = with_subcommand (with_subcommand top_app (run_app names).top) (filed_app (codes "audit")).top

-- `--roam` and a number from 0 to 64; 0 by default
abbrev pub roam_rule : Rule
roam_rule = record (valued_rule (codes "roam")) { defaults = codes "0" ∷ []; parser = Some (vp.Signed (pos 0) (pos 64)) }

-- `--turns` and a number from 0 to 1,000,000; 1,000 by default
abbrev pub turns_rule : Rule
turns_rule = record (valued_rule (codes "turns")) { defaults = codes "1000" ∷ []; parser = Some (vp.Signed (pos 0) (pos 1000000)) }

-- the names of one or more files
abbrev pub script_rule : Rule
script_rule = record (new_rule (codes "SCRIPT")) { range = Some (record { start_inclusive = 1; end_inclusive = usize_max }); required = true }

-- a subcommand with `--roam`, `--turns` and scripts
abbrev pub roaming_app : App → App
roaming_app app = with_rule (with_rule (with_rule app roam_rule) turns_rule) script_rule

-- the subcommand `storm`; its task says which of its arguments go together
abbrev pub storm_app : Names → App
storm_app names = roaming_app (with_rule (network_app (new_app (codes "storm")) false names) from_rule)

-- the command with `run`, `audit`, `picture` and `epochs`
abbrev pub showing_app : Names → App
showing_app names = with_subcommand (with_subcommand (judging_app names) picture_app.top) (filed_app (codes "epochs")).top

-- the command with all five subcommands
abbrev pub console_app : Names → App
console_app names = with_subcommand (showing_app names) (storm_app names).top

-- `--from`, which excludes other arguments
abbrev pub strict_from_rule : Rule
strict_from_rule = record from_rule { is_free = false }

-- the arguments that `--from` excludes
abbrev pub without_from : List Text
without_from = codes "rules" ∷ codes "nodes" ∷ codes "present" ∷ []

-- the subcommand `run`, whose `--from` excludes other arguments
abbrev pub strict_run_app : Bool → Names → App
strict_run_app required names = with_rule (with_rule (network_app (new_app (codes "run")) required names) strict_from_rule) file_rule

-- the subcommand `storm`, whose `--from` excludes other arguments
abbrev pub strict_storm_app : Bool → Names → App
strict_storm_app required names = with_rule (roaming_app (network_app (new_app (codes "storm")) required names)) strict_from_rule

-- the command with these two subcommands
abbrev pub strict_app : Bool → Names → App
strict_app required names = with_subcommand (with_subcommand top_app (strict_run_app required names).top) (strict_storm_app required names).top

-- the text is a number below the limit in decimal; a plus and zeros may come before it
abbrev pub IsNumber : ℕ → Text → ℕ → Type 0
IsNumber limit text n = (IsNumeral 10 (without_leading_plus text) × (digits_value 10 (without_leading_plus text) < limit)) × (n ≡ digits_value 10 (without_leading_plus text))

-- the argument's value is this number
pub record GivesNumber (limit : ℕ) (id : Text) (found : List Row) (n : ℕ) : Type 0 where
  pub text : Text
  pub given : one_of id found ≡ Some text
  pub is : IsNumber limit text n

-- the optional argument's value is this number, or the argument is not given and there is no number
abbrev pub MayGive : ℕ → Text → List Row → Option ℕ → Type 0
MayGive limit id found None = one_of id found ≡ None
MayGive limit id found (Some n) = (text : Text) × (one_of id found ≡ Some text) × IsNumber limit text n

-- the values of `run` are this rule set and these numbers of names, of nodes at the start, and of workers
pub record HoldsRun (found : List Row) (rules : RuleSet) (nodes : ℕ) (present : Option ℕ) (workers : ℕ) : Type 0 where
  pub rules_is : first_of (codes "rules") found ≡ Some (rules_word rules)
  pub nodes_is : GivesNumber (2 ^ 16) (codes "nodes") found nodes
  pub present_is : MayGive (2 ^ 16) (codes "present") found present
  pub workers_is : GivesNumber (2 ^ 16) (codes "workers") found workers

-- the argument is not given
abbrev pub IsLeftOut : Text → List Row → Type 0
IsLeftOut id found = first_of id found ≡ None

-- a subcommand was found, and its argument `--from` is given
abbrev pub has_from : Option (Text × List Row) → Bool
has_from None = false
has_from (Some sub) = is_some (first_of (codes "from") sub.1)

-- the values are the file in which an earlier run ended, and this many workers; the file tells the rest
pub record HoldsResume (found : List Row) (from : Text) (workers : ℕ) : Type 0 where
  pub from_is : first_of (codes "from") found ≡ Some from
  pub rules_is : IsLeftOut (codes "rules") found
  pub nodes_is : IsLeftOut (codes "nodes") found
  pub present_is : IsLeftOut (codes "present") found
  pub workers_is : GivesNumber (2 ^ 16) (codes "workers") found workers

-- the value of `picture` is this entry, or there is no value and no entry
abbrev pub HoldsPicture : List Row → Option ℕ → Type 0
HoldsPicture found entry = MayGive (2 ^ 32) (codes "entry") found entry

-- a storm: its rule set, names, nodes at the start (if given), workers for a step, roaming workers, their
-- turns, and script files
pub record Storm : Type 0 where
  pub rules : RuleSet
  pub nodes : ℕ
  pub present : Option ℕ
  pub workers : ℕ
  pub roamers : ℕ
  pub turns : ℕ
  pub scripts : List Text

abbrev pub storm_of : StormWords → Storm
storm_of words = record {
  rules = words.rules;
  nodes = words.nodes;
  present = words.present;
  workers = words.workers;
  roamers = words.roamers;
  turns = words.turns;
  scripts = map (λ s. s.now) words.scripts.items;
}

-- the values of `storm` are those of this storm; no file is given in which an earlier run ended
pub record HoldsStorm (found : List Row) (storm : Storm) : Type 0 where
  pub from_is : IsLeftOut (codes "from") found
  pub run_is : HoldsRun found storm.rules storm.nodes storm.present storm.workers
  pub roamers_is : GivesNumber (2 ^ 16) (codes "roam") found storm.roamers
  pub turns_is : GivesNumber (2 ^ 32) (codes "turns") found storm.turns
  pub scripts_is : all_of (codes "SCRIPT") found ≡ Some storm.scripts

-- a storm that goes on: the file in which an earlier run ended, workers for a step, roaming workers, their
-- turns, and script files
pub record ResumedStorm : Type 0 where
  pub from : Text
  pub workers : ℕ
  pub roamers : ℕ
  pub turns : ℕ
  pub scripts : List Text

abbrev pub resumed_storm_of : ResumeStormWords → ResumedStorm
resumed_storm_of words = record {
  from = words.from.now;
  workers = words.workers;
  roamers = words.roamers;
  turns = words.turns;
  scripts = map (λ s. s.now) words.scripts.items;
}

-- the values of `storm` are those of this storm; the file tells the rest
pub record HoldsResumeStorm (found : List Row) (storm : ResumedStorm) : Type 0 where
  pub run_is : HoldsResume found storm.from storm.workers
  pub roamers_is : GivesNumber (2 ^ 16) (codes "roam") found storm.roamers
  pub turns_is : GivesNumber (2 ^ 32) (codes "turns") found storm.turns
  pub scripts_is : all_of (codes "SCRIPT") found ≡ Some storm.scripts

-- the subcommand is `storm`, with these values
abbrev pub IsStormTask : Option (Text × List Row) → Storm → Type 0
IsStormTask None storm = ⊥
IsStormTask (Some p) storm = (p.0 ≡ codes "storm") × HoldsStorm p.1 storm

-- the subcommand is `storm`, with these values of a storm that goes on
abbrev pub IsResumeStormTask : Option (Text × List Row) → ResumedStorm → Type 0
IsResumeStormTask None storm = ⊥
IsResumeStormTask (Some p) storm = (p.0 ≡ codes "storm") × HoldsResumeStorm p.1 storm

-- the subcommand and its values are those of the task
abbrev pub MatchesTask : Option (Text × List Row) → Task → Type 0
MatchesTask (Some p) (Run rules nodes present workers) =
    (p.0 ≡ codes "run") × IsLeftOut (codes "from") p.1 × HoldsRun p.1 rules nodes present workers
MatchesTask (Some p) (Resume from workers) = (p.0 ≡ codes "run") × HoldsResume p.1 from.now workers
MatchesTask (Some p) Audit = p.0 ≡ codes "audit"
MatchesTask (Some p) (Picture entry) = (p.0 ≡ codes "picture") × HoldsPicture p.1 entry
MatchesTask (Some p) Epochs = p.0 ≡ codes "epochs"
MatchesTask (Some p) (variants.Storm words) = (p.0 ≡ codes "storm") × HoldsStorm p.1 (storm_of words)
MatchesTask (Some p) (ResumeStorm words) = (p.0 ≡ codes "storm") × HoldsResumeStorm p.1 (resumed_storm_of words)
MatchesTask found task = ⊥

-- the subcommand and its values are those of no task
abbrev pub HoldsNothing : Option (Text × List Row) → Type 0
HoldsNothing found =
    ((task : Task) → MatchesTask found task → ⊥) × ((storm : Storm) → IsStormTask found storm → ⊥)
    × ((storm : ResumedStorm) → IsResumeStormTask found storm → ⊥)

-- the values of this subcommand are those of no task
abbrev pub HoldsNoTask : Text → List Row → Type 0
HoldsNoTask name found = (task : Task) → MatchesTask (Some (name, found)) task → ⊥

-- the values of `storm` are those of no storm
abbrev pub HoldsNoStorm : List Row → Type 0
HoldsNoStorm found = ((storm : Storm) → HoldsStorm found storm → ⊥) × ((storm : ResumedStorm) → HoldsResumeStorm found storm → ⊥)

-- the file that is read in place of standard input; none if no name is given, or the name `-`
abbrev pub IsInput : Option Text → Option (Bor Text) → Type 0
IsInput None file = file ≡ None
IsInput (Some name) None = name ≡ codes "-"
IsInput (Some name) (Some file) = (name ≡ file.now) × (name ≢ codes "-")

-- the subcommand's values name this file, or none
abbrev pub HasInput : Option (Text × List Row) → Option (Bor Text) → Type 0
HasInput None file = file ≡ None
HasInput (Some p) file = IsInput (first_of (codes "FILE") p.1) file

-- the words are read as the task
abbrev pub Asks : List Text → Task → Type 0
Asks words task = (names : Names) × AreRules names × MatchesTask (subcommand_of (console_app names) words) task

-- the result for the words: the help or the version, if the words ask for it, or else the words' task
abbrev pub ParsesTo : List Text → Task → Type 0
ParsesTo words (Show text) = (kind_of text ≡ DisplayHelp) ⊎ (kind_of text ≡ DisplayVersion)
ParsesTo words task = Asks words task

-- the file that the words name for the task, or none; the help and the version read nothing
abbrev pub ReadsFrom : List Text → Task → Option (Bor Text) → Type 0
ReadsFrom words (Show text) file = file ≡ None
ReadsFrom words task file = (names : Names) × AreRules names × HasInput (subcommand_of (console_app names) words) file

-- The words are good, and are read as this task. `usual_words` proves it of the usual words of each task.
abbrev pub ParsesAsTask : List Text → Task → Type 0
ParsesAsTask words task =
    (names : Names) → AreRules names → (takes (console_app names) words ≡ true) × MatchesTask (subcommand_of (console_app names) words) task

-- the words are good, and are read as this task on this file
abbrev pub ParsesOnFile : List Text → Task → Bor Text → Type 0
ParsesOnFile words task file =
    ParsesAsTask words task × ((names : Names) → AreRules names → HasInput (subcommand_of (console_app names) words) (Some file))

-- the words are good, and are read as this storm
abbrev pub WantsStorm : List Text → Storm → Type 0
WantsStorm words storm =
    (names : Names) → AreRules names → (takes (console_app names) words ≡ true) × IsStormTask (subcommand_of (console_app names) words) storm

-- the words are good, and are read as this storm that goes on
abbrev pub WantsResumeStorm : List Text → ResumedStorm → Type 0
WantsResumeStorm words storm =
    (names : Names) → AreRules names → (takes (console_app names) words ≡ true) × IsResumeStormTask (subcommand_of (console_app names) words) storm

-- how many nodes are present at the start: as many as given, or all names if no number is given; none if the
-- number given is greater than that of the names
abbrev pub present_at_start : ℕ → Option ℕ → Option ℕ
present_at_start nodes None = Some nodes
present_at_start nodes (Some present) = if nat_le present nodes then Some present else None

-- the words for `--present`, if a number is given
abbrev pub present_words : Option ℕ → List Text
present_words None = []
present_words (Some p) = (codes "--present=" ++ decimal p) ∷ []

-- the words for `--workers`, if a number is given
abbrev pub workers_words : Option ℕ → List Text
workers_words None = []
workers_words (Some k) = (codes "--workers=" ++ decimal k) ∷ []

-- the number of workers is valid, if one is given
abbrev pub AreWorkers : Option ℕ → Type 0
AreWorkers None = Unit {0}
AreWorkers (Some k) = (1 ≤ k) × (k ≤ 64)

-- the usual words for a run
abbrev pub run_words : Text → RuleSet → ℕ → Option ℕ → Option ℕ → List Text
run_words program rules nodes present workers =
    program ∷ codes "run" ∷ (codes "--rules=" ++ rules_word rules) ∷ (codes "--nodes=" ++ decimal nodes) ∷ (present_words present ++ workers_words workers)

-- the words for a run that goes on where an earlier one ended
abbrev pub resume_words : Text → Text → Option ℕ → List Text
resume_words program from workers = program ∷ codes "run" ∷ (codes "--from=" ++ from) ∷ workers_words workers

-- the words for `--roam` and `--turns`, if both numbers are given
abbrev pub roam_words : Option (ℕ × ℕ) → List Text
roam_words None = []
roam_words (Some p) = (codes "--roam=" ++ decimal p.0) ∷ (codes "--turns=" ++ decimal p.1) ∷ []

-- the numbers of roaming workers and of their turns are valid, if they are given
abbrev pub AreRoamers : Option (ℕ × ℕ) → Type 0
AreRoamers None = Unit {0}
AreRoamers (Some p) = (p.0 ≤ 64) × (p.1 ≤ 1000000)

-- the words for a storm of one script that goes on where an earlier run ended; the script may have any name
abbrev pub resume_storm_words : Text → Text → Option ℕ → Option (ℕ × ℕ) → Text → List Text
resume_storm_words program from workers roam script =
    program ∷ codes "storm" ∷ (codes "--from=" ++ from) ∷ (workers_words workers ++ (roam_words roam ++ codes "--" ∷ script ∷ []))

-- the storm of these words: by default one worker for a step and no roaming worker, which would have 1,000
-- turns
abbrev pub usual_resumed_storm : Text → Option ℕ → Option (ℕ × ℕ) → Text → ResumedStorm
usual_resumed_storm from workers roam script = record {
  from = from;
  workers = unwrap_or workers 1;
  roamers = (unwrap_or roam (0, 1000)).0;
  turns = (unwrap_or roam (0, 1000)).1;
  scripts = script ∷ [];
}

-- the words for an audit
abbrev pub audit_words : Text → List Text
audit_words program = program ∷ codes "audit" ∷ []

-- the words for an audit of a file
abbrev pub audit_file_words : Text → Text → List Text
audit_file_words program file = program ∷ codes "audit" ∷ codes "--" ∷ file ∷ []

-- the words for a picture
abbrev pub picture_words : Text → Option ℕ → List Text
picture_words program None = program ∷ codes "picture" ∷ []
picture_words program (Some entry) = program ∷ codes "picture" ∷ (codes "--entry=" ++ decimal entry) ∷ []

-- the words for the epochs
abbrev pub epochs_words : Text → List Text
epochs_words program = program ∷ codes "epochs" ∷ []

-- the words for the epochs of a file's transcript
abbrev pub epochs_file_words : Text → Text → List Text
epochs_file_words program file = program ∷ codes "epochs" ∷ codes "--" ∷ file ∷ []
