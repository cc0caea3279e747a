-- What the words of a storm were read as.
use Rattle.cli_args.proofs.Prelude.{◌≡◌, List, Option, None, Some, Result, Ok, Err, Bor, map, sym, ap, subst, ◌∙◌, option_map, arith, IfOk, MatchOption, codes, raw_values, Row, Text, all_of, matched_of, rows_of, Found, raw_values-rows, Task, Run, Resume, Audit, Picture, Epochs, ResumeStorm, Show, IsLeftOut, MatchesTask, HoldsNothing, HoldsNoStorm, HoldsNoTask, HoldsResumeStorm, HoldsStorm, IsResumeStormTask, IsStormTask, ResumedStorm, Storm, first_of, resumed_storm_of, storm_of}
use Rattle.cli_args.proofs.FoundMatches.{first_same}
use Rattle.cli_args.specs.StormLoads.{HoldsLoad, Load}
use Rattle.cli_args.specs.declared.task.Task.TheVariants as variants

-- there is no load if no script was given
pub no_scripts : (f : Found) (load : Load) → None ≡ option_map raw_values (matched_of f (codes "SCRIPT")) → HoldsLoad (rows_of f) load → ⊥
no_scripts f load e h =
    let a = raw_values-rows f (codes "SCRIPT") in
    let b = h.scripts_is in
    cc

-- the load of a storm
abbrev pub load_asked : Storm → Load
load_asked s = record { roamers = s.roamers; turns = s.turns; scripts = s.scripts }

abbrev pub load_resumed : ResumedStorm → Load
load_resumed s = record { roamers = s.roamers; turns = s.turns; scripts = s.scripts }

-- the scripts that were given
pub scripts_are : (f : Found) (given scripts : List (Bor Text)) → Some (map (λ s. s.now) given) ≡ option_map raw_values (matched_of f (codes "SCRIPT")) → scripts ≡ given → all_of (codes "SCRIPT") (rows_of f) ≡ Some (map (λ s. s.now) scripts)
scripts_are f given scripts e same = sym (raw_values-rows f (codes "SCRIPT")) ∙ sym e ∙ ap (λ (z : List (Bor Text)). Some (map (λ s. s.now) z)) (sym same)

-- without a file, no storm goes on
pub none_fresh : {E : Type 0} (rows : List Row) (found : Result (Option Task) E) → IsLeftOut (codes "from") rows
    → IfOk found (λ read. MatchOption read ((s : Storm) → HoldsStorm rows s → ⊥) (λ task. MatchesTask (Some (codes "storm", rows)) task))
    → IfOk found (λ read. MatchOption read (HoldsNoStorm rows) (λ task. MatchesTask (Some (codes "storm", rows)) task))
none_fresh rows (Ok None) out none = (
  none,
  λ s h.
      let given = h.run_is.from_is in
      cc,
)
none_fresh rows (Ok (Some task)) out held = held
none_fresh rows (Err x) out held = tt

-- with a file, none begins anew
pub none_resumed : {E : Type 0} (rows : List Row) (file : Text) (found : Result (Option Task) E) → first_of (codes "from") rows ≡ Some file
    → IfOk found (λ read. MatchOption read ((s : ResumedStorm) → HoldsResumeStorm rows s → ⊥) (λ task. MatchesTask (Some (codes "storm", rows)) task))
    → IfOk found (λ read. MatchOption read (HoldsNoStorm rows) (λ task. MatchesTask (Some (codes "storm", rows)) task))
none_resumed rows file (Ok None) given none = (
  λ s h.
      let out = h.from_is in
      cc,
  none,
)
none_resumed rows file (Ok (Some task)) given held = held
none_resumed rows file (Err x) given held = tt

-- there is no task if there is no storm
no_task : (rows : List Row) → HoldsNoStorm rows → HoldsNoTask (codes "storm") rows
no_task rows none (Run r n p k) h = omega (arith, first_same h.0)
no_task rows none (Resume from k) h = omega (arith, first_same h.0)
no_task rows none Audit h = omega (arith, first_same h)
no_task rows none (Picture entry) h = omega (arith, first_same h.0)
no_task rows none Epochs h = omega (arith, first_same h)
no_task rows none (variants.Storm words) h = none.0 (storm_of words) h.1
no_task rows none (ResumeStorm words) h = none.1 (resumed_storm_of words) h.1
no_task rows none (Show text) h = h

-- what was found for `storm` is what was asked
pub storm_asked : {E : Type 0} (o : Option (Text × List Row)) (rows : List Row) (found : Result (Option Task) E) → o ≡ Some (codes "storm", rows)
    → IfOk found (λ read. MatchOption read (HoldsNoStorm rows) (λ task. MatchesTask (Some (codes "storm", rows)) task))
    → IfOk found (λ read. MatchOption read (HoldsNothing o) (λ task. MatchesTask o task))
storm_asked o rows (Ok None) e none = (
  λ task h. no_task rows none task (subst (λ (z : Option (Text × List Row)). MatchesTask z task) e h),
  λ s h. none.0 s (subst (λ (z : Option (Text × List Row)). IsStormTask z s) e h).1,
  λ s h. none.1 s (subst (λ (z : Option (Text × List Row)). IsResumeStormTask z s) e h).1,
)
storm_asked o rows (Ok (Some task)) e held = subst (λ (z : Option (Text × List Row)). MatchesTask z task) (sym e) held
storm_asked o rows (Err x) e held = tt
