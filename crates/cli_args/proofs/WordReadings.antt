-- What the words were read as.
use Rattle.cli_args.proofs.Prelude.{◌≡◌, List, Option, None, Some, Result, Ok, Err, refl, sym, subst, true, IfErr, MatchOption, App, HasMatchesOf, Row, Text, subcommand_of, subcommand_rows_of, takes, ArgMatches, Error, Task, Run, Resume, Audit, Picture, Epochs, ResumeStorm, Show, Names, AreRules, console_app, MatchesTask, HoldsNothing, ParsesTo, ResumedStorm, Storm, ParsesAsTask, Bor, HasInput, ReadsFrom, WantsResumeStorm, WantsStorm}
use Rattle.cli_args.specs.declared.task.Task.TheVariants as variants

-- the subcommand and its values, as the command reads them in the words
abbrev pub read_in : Names → List Text → Option (Text × List Row)
read_in names words = subcommand_of (console_app names) words

-- what a parse found is what the command reads in the words
matched : (a : App) (names : Names) (words : List Text) (m : ArgMatches) → a ≡ console_app names → HasMatchesOf a words m → subcommand_rows_of m ≡ read_in names words
matched a names words m e h =
    let exact = subst (λ (z : App). HasMatchesOf z words m) e h in
    (exact refl).1

-- no text is held
no_text : (o : Option (Text × List Row)) (text : Error) → MatchesTask o (Show text) → ⊥
no_text None text h = h
no_text (Some p) text h = h

-- a task that was read is an answer, and the file is the one that the words name for it
is_answer : (names : Names) (words : List Text) (task : Task) (file : Option (Bor Text)) → AreRules names → MatchesTask (read_in names words) task → HasInput (read_in names words) file → ParsesTo words task × ReadsFrom words task file
is_answer names words (Run r n p k) file a h i = ((names, a, h), (names, a, i))
is_answer names words (Resume from k) file a h i = ((names, a, h), (names, a, i))
is_answer names words Audit file a h i = ((names, a, h), (names, a, i))
is_answer names words (Picture entry) file a h i = ((names, a, h), (names, a, i))
is_answer names words Epochs file a h i = ((names, a, h), (names, a, i))
is_answer names words (variants.Storm storm) file a h i = ((names, a, h), (names, a, i))
is_answer names words (ResumeStorm storm) file a h i = ((names, a, h), (names, a, i))
is_answer names words (Show text) file a h i = absurd (no_text (read_in names words) text h)

pub answered : (a : App) (names : Names) (words : List Text) (m : ArgMatches) (read : Option Task) (task : Task) (file : Option (Bor Text)) → AreRules names → a ≡ console_app names → HasMatchesOf a words m
    → read ≡ Some task → MatchOption read (HoldsNothing (subcommand_rows_of m)) (λ task. MatchesTask (subcommand_rows_of m) task) → HasInput (subcommand_rows_of m) file
    → ParsesTo words task × ReadsFrom words task file
answered a names words m read task file r e h some held input =
    let found = matched a names words m e h in
    let is = subst (λ (z : Option Task). MatchOption z (HoldsNothing (subcommand_rows_of m)) (λ task. MatchesTask (subcommand_rows_of m) task)) some held in
    is_answer names words task file r (subst (λ (z : Option (Text × List Row)). MatchesTask z task) found is) (subst (λ (z : Option (Text × List Row)). HasInput z file) found input)

-- the words ask for no task
abbrev pub AskNothing : List Text → Type 0
AskNothing words =
    ((task : Task) → ParsesAsTask words task → ⊥) × ((storm : Storm) → WantsStorm words storm → ⊥) × ((storm : ResumedStorm) → WantsResumeStorm words storm → ⊥)

-- if no task was read, they ask for none
pub nothing_asked : (a : App) (names : Names) (words : List Text) (m : ArgMatches) (read : Option Task) → AreRules names → a ≡ console_app names → HasMatchesOf a words m
    → read ≡ None → MatchOption read (HoldsNothing (subcommand_rows_of m)) (λ task. MatchesTask (subcommand_rows_of m) task) → AskNothing words
nothing_asked a names words m read r e h empty held =
    let is = subst (λ (z : Option Task). MatchOption z (HoldsNothing (subcommand_rows_of m)) (λ task. MatchesTask (subcommand_rows_of m) task)) empty held in
    let none : HoldsNothing (read_in names words) = subst HoldsNothing (matched a names words m e h) is in
    (λ task w. none.0 task (w names r).1, λ storm w. none.1 storm (w names r).1, λ storm w. none.2 storm (w names r).1)

-- words that ask for something are taken
pub taken : (a : App) (names : Names) (words : List Text) (P : Option (Text × List Row) → Type 0) → AreRules names → a ≡ console_app names
    → ((names : Names) → AreRules names → (takes (console_app names) words ≡ true) × P (read_in names words)) → takes a words ≡ true
taken a names words P r e w = subst (λ (z : App). takes z words ≡ true) (sym e) (w names r).0

-- what holds of whatever error
pub of_error : {T E : Type 0} (r : Result T E) (P : E → Type 0) → ((e : E) → P e) → IfErr r P
of_error (Ok x) P h = tt
of_error (Err e) P h = h e
