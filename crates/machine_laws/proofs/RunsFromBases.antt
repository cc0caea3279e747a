-- Runs that begin at a base: each moment of a run is a valid base, and runs from it stay within the bound.
use Rattle.machine_laws.proofs.ChargePrelude.{◌≡◌, ℕ, List, Option, None, Some, refl, sym, ◌∙◌, subst, Base, Network, IsState, RuleTable, Entry, Moment, Run, beginning_with, base_of, IsBaseMoment, BeginsAt, IsTable, opening_is_state, runs_end_in_states, runs_keep_size, IsFlagless, opening_is_unflagged, runs_stay_unflagged, charge_bound, IsCharged, IsWithinBound}
use Rattle.machine_laws.proofs.Bases.{base_tells}
use Rattle.machine_laws.proofs.ChargesOfRuns.{run_within}
use Rattle.machine_laws.proofs.Laws.{beginning_is_within}

-- each moment of a run from the opening state is a valid base
pub runs_may_begin : (t : RuleTable) (weight : ℕ) → IsTable t → IsCharged t weight → IsFlagless t → (size count number : ℕ) (log : List Entry) (end : Moment) → Run t (beginning_with size count) log end → IsBaseMoment t (charge_bound weight) size (base_of number end) end
runs_may_begin t weight table charged flagless size count number log end run = record {
  is_state = runs_end_in_states t table (beginning_with size count) (opening_is_state size count) log end run;
  size_is = runs_keep_size t (beginning_with size count) log end run;
  lines = refl;
  unflagged = λ unused. runs_stay_unflagged t unused (flagless unused) (beginning_with size count) (opening_is_unflagged size count) log end run;
  within = run_within t weight table charged (beginning_with size count) (opening_is_state size count) (beginning_is_within t weight charged size count) log end run;
}

-- each moment of a run from a base is a valid base
pub runs_may_go_on : (t : RuleTable) (weight : ℕ) → IsTable t → IsCharged t weight → IsFlagless t → (size number : ℕ) (base : Base) (start : Moment) → IsBaseMoment t (charge_bound weight) size base start → (log : List Entry) (end : Moment) → Run t start log end → IsBaseMoment t (charge_bound weight) size (base_of number end) end
runs_may_go_on t weight table charged flagless size number base start begun log end run = record {
  is_state = runs_end_in_states t table start begun.is_state log end run;
  size_is = runs_keep_size t start log end run ∙ begun.size_is;
  lines = refl;
  unflagged = λ unused. runs_stay_unflagged t unused (flagless unused) start (begun.unflagged unused) log end run;
  within = run_within t weight table charged start begun.is_state begun.within log end run;
}

-- ---- from either beginning

pub begins_in_state : (t : RuleTable) (bound : Network → ℕ) (size first : ℕ) (base : Option Base) (start : Moment) → BeginsAt t bound size first base start → IsState start.state
begins_in_state t bound size first None start begins = subst (λ (m : Moment). IsState m.state) (sym begins) (opening_is_state size first)
begins_in_state t bound size first (Some base) start begins = begins.is_state

pub begins_within : (t : RuleTable) (weight : ℕ) → IsCharged t weight → (size first : ℕ) (base : Option Base) (start : Moment) → BeginsAt t (charge_bound weight) size first base start → IsWithinBound t weight start
begins_within t weight charged size first None start begins = subst (IsWithinBound t weight) (sym begins) (beginning_is_within t weight charged size first)
begins_within t weight charged size first (Some base) start begins = begins.within

-- a run begins at one moment only
pub begins_once : (t : RuleTable) (bound : Network → ℕ) (size first : ℕ) (base : Option Base) (x y : Moment) → BeginsAt t bound size first base x → BeginsAt t bound size first base y → x ≡ y
begins_once t bound size first None x y begins begins' = begins ∙ sym begins'
begins_once t bound size first (Some base) x y begins begins' =
    base_tells base.number x y begins.is_state begins'.is_state (begins.size_is ∙ sym begins'.size_is) (sym begins.lines ∙ begins'.lines)

-- each moment of a run from either beginning is a valid base
pub may_begin_again : (t : RuleTable) (weight : ℕ) → IsTable t → IsCharged t weight → IsFlagless t → (size first number : ℕ) (base : Option Base) (start : Moment) → BeginsAt t (charge_bound weight) size first base start → (log : List Entry) (end : Moment) → Run t start log end → IsBaseMoment t (charge_bound weight) size (base_of number end) end
may_begin_again t weight table charged flagless size first number None start begins log end run =
    runs_may_begin t weight table charged flagless size first number log end (subst (λ (m : Moment). Run t m log end) begins run)
may_begin_again t weight table charged flagless size first number (Some base) start begins log end run =
    runs_may_go_on t weight table charged flagless size number base start begins log end run
