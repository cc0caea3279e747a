-- What scripts leave on a network that was made as asked, and what a storm that goes on does.
use Rattle.storm_runner.proofs.Prelude.{◌≡◌, ◌∙◌, ℕ, List, Option, Some, Result, sym, subst, StormFault, EndsAllScripts, Base, RuleTable, Upholds, RetainedLog, IsRetainedRun, CallFault, OptionsView, ScriptLine, IsStormResult, Leaves, StormStart, start_setting}
use Rattle.rule_machine.specs.declared.rule_set.RuleSet.{RuleSet}
use Rattle.rule_machine.specs.Tables.{table_of, weight_of}
use Rattle.script_run.specs.Restarts.{options_at, restart_of}
use Rattle.script_run.specs.declared.restart.Restart.{Restart}
use Rattle.storm_runner.specs.Outcome.{IsResumedStorm, resumed_start}
use Rattle.storm_runner.specs.StormParts.{base_at_start, start_of}

pub leaves_as_asked : (t : RuleTable) (weight : ℕ) (asked : OptionsView) (base : Option Base) (nodes present limit roamers turns : ℕ) (scripts : List (List ScriptLine)) (fault : Option CallFault) (kept : RetainedLog) → nodes ≡ asked.nodes → present ≡ asked.present → limit ≡ asked.limit → roamers ≡ asked.roamers → turns ≡ asked.turns → IsRetainedRun t weight kept → Upholds t weight kept
    → (kept.state.network.size ≡ nodes) × (kept.present ≡ present) × (kept.limit ≡ limit) → IsStormResult (record { table = t; nodes = nodes; present = present; base = base; limit = limit }) kept scripts roamers turns fault → Leaves t weight (record { asked = asked; base = base }) scripts fault kept
leaves_as_asked t weight asked base nodes present limit roamers turns scripts fault kept as_many begun as_far workers each run upheld size storm =
    let at : StormStart = record { asked = asked; base = base } in
    let there : IsStormResult (start_setting t at) kept scripts asked.roamers asked.turns fault = rw (← each, ← workers, ← as_far, ← begun, ← as_many) storm in
    record {
      run = run;
      nodes_are = size.0 ∙ as_many;
      present_is = size.1 ∙ begun;
      limit_is = size.2 ∙ as_far;
      storm = there;
      headline = record { upheld = upheld; told = there.settled };
    }

-- what starts as a restart says is the storm that it asks for
pub resumed : (restart : Restart) (asked : OptionsView) (rules : RuleSet) (texts : List (Option (List ℕ))) (old new : Option (List ℕ)) (result : Result Unit StormFault) → restart.rules ≡ rules → asked ≡ options_at (restart_of restart)
    → EndsAllScripts (table_of rules) (weight_of rules) (start_of asked (Some restart)) texts old new result → IsResumedStorm (restart_of restart) texts old new result
resumed restart asked rules texts old new result is same ends =
    subst (λ (r : RuleSet). EndsAllScripts (table_of r) (weight_of r) (resumed_start (restart_of restart)) texts old new result) (sym is)
    (subst (λ (a : OptionsView). EndsAllScripts (table_of rules) (weight_of rules) (record { asked = a; base = base_at_start (Some restart) }) texts old new result) same ends)
