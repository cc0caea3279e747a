-- The headline holds of each log, for rules that keep the laws of rule sets.
use Rattle.step_log.proofs.Prelude.{◌≡◌, ℕ, List, [], ◌++◌, sym, subst, State, IsState, RuleTable, enabled_names, IsStable, Entry, Moment, Run, run_splits, IsTable, maximal_from_stable, stable_from_maximal, runs_end_in_states, begins_in_state, begins_once, charge_bound, IsCharged, moves_are_paid, RetainedLog, Begins, IsRetainedRun, moment_in, Upholds, LeadsTo}
use Rattle.step_log.proofs.Once.{run_once}
use Rattle.step_log.proofs.EpochPaths.{bounded_along}

-- ---- what is kept leads to one moment

-- a run goes on from the end of its prefix
pub run_goes_on : (t : RuleTable) (start : Moment) (some rest : List Entry) (middle end : Moment) → Run t start some middle → Run t start (some ++ rest) end → Run t middle rest end
run_goes_on t start some rest middle end here run =
    let m = run_splits t start end some rest run in subst (λ (n : Moment). Run t n rest end) (run_once t start some m.0 middle m.1 here) m.2

-- whatever leads somewhere leads there from this beginning
pub from_there : (t : RuleTable) (weight : ℕ) (kept : RetainedLog) (start : Moment) → Begins t weight kept start → (entries : List Entry) (m : Moment) → LeadsTo t weight kept entries m → Run t start entries m
from_there t weight kept start begins entries m (other, begins', run) =
    subst (λ (n : Moment). Run t n entries m) (begins_once t (charge_bound weight) kept.state.network.size kept.present kept.base other start begins' begins) run

-- each prefix of what is kept leads to one moment
pub leads_somewhere : (t : RuleTable) (weight : ℕ) (kept : RetainedLog) → Upholds t weight kept → (before after : List Entry) → before ++ after ≡ kept.entries → (m : Moment) × LeadsTo t weight kept before m × ((n : Moment) → LeadsTo t weight kept before n → n ≡ m)
leads_somewhere t weight kept upholds before after same =
    let start = upholds.run.0 in
    let begins = upholds.run.1 in
    let all : Run t start (before ++ after) (moment_in kept) = subst (λ (l : List Entry). Run t start l (moment_in kept)) (sym same) upholds.run.2 in
    let m = run_splits t start (moment_in kept) before after all in
    (m.0, (start, begins, m.1), λ n there. run_once t start before n m.0 (from_there t weight kept start begins before n there) m.1)

-- ---- the headline

pub upheld : (t : RuleTable) (weight : ℕ) → IsTable t → IsCharged t weight → ((s : State) → IsState s → enabled_names t s ≡ [] → IsStable t.flags s) → ((s : State) → IsState s → IsStable t.flags s → enabled_names t s ≡ []) → (kept : RetainedLog) → IsRetainedRun t weight kept → Upholds t weight kept
upheld t weight table charged settles rests kept is =
    let start = is.start in
    let opened = begins_in_state t (charge_bound weight) kept.state.network.size kept.present kept.base start is.begins in
    record {
      run = (start, is.begins, is.run);
      quiet = λ before after m same here.
          let good = runs_end_in_states t table start opened before m (from_there t weight kept start is.begins before m here) in
          record {
            exact = (settles m.state good, rests m.state good);
            matching = maximal_from_stable t.flags m.state good;
            only = λ answered matching. stable_from_maximal t.flags m.state good answered.answered answered.flagged matching;
          };
      budget = λ before calm after m n same here there undisturbed.
          let here' = from_there t weight kept start is.begins before m here in
          let good = runs_end_in_states t table start opened before m here' in
          let goes = run_goes_on t start before calm m n here' (from_there t weight kept start is.begins (before ++ calm) n there) in
          (moves_are_paid t weight table charged m good calm n goes undisturbed, charged.bounded m.state good);
      epochs = λ other path begins same steps. bounded_along t weight table charged kept other path begins steps;
    }
