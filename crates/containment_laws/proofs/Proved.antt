-- The laws, for any table of rules that asks for work.
use Rattle.containment_laws.proofs.Prelude.{◌≡◌, Bool, true, false, ◌⊎◌, has_moved, path_entries, arith, sym, ap, ◌∙◌, inl, inr, ⊎_elim, true≢false, cases_Bool, RuleTable, present, hsu_huang, manne, Accepted, IsTable, pair_from, pair_listed, answers_keep, IsInside, step_done, hsu_huang_table, manne_table, AsksForWork, hsu_huang_asks, manne_asks, is_at_rest, is_in_reach, is_ever_reached}
use Rattle.machine_laws.proofs.CostsOfRuns.{path_keeps}
use Rattle.containment_laws.specs.Laws as law
use Rattle.containment_laws.proofs.AtRest.{rest_is, rest_from, all_rest}
use Rattle.containment_laws.proofs.IdleNodes.{inside_from, at_rest_idle}
use Rattle.containment_laws.proofs.Steps.{step_rests, step_keeps_pair}
use Rattle.containment_laws.proofs.Containment.{run_rests, run_keeps_pairs, run_keeps_network, disturbed_rests, path_rests}
use Rattle.containment_laws.proofs.LostPairs.{path_lost, pairs_left}
use Rattle.containment_laws.proofs.ExactReach.{reach_is_exact}
use Rattle.containment_laws.proofs.Partings.{one_pair_lost}

-- what the laws ask of a table
pub record IsContaining (t : RuleTable) : Type 0 where
  pub table : IsTable t
  pub inside : IsInside t
  pub asks : AsksForWork t

-- any table whose rules ask for work has it
pub contains_from : (t : RuleTable) → IsTable t → AsksForWork t → IsContaining t
contains_from t table asks = record { table = table; inside = inside_from t table asks; asks = asks }

pub hsu_huang_contains : IsContaining hsu_huang
hsu_huang_contains = contains_from hsu_huang hsu_huang_table hsu_huang_asks

pub manne_contains : IsContaining manne
manne_contains = contains_from manne manne_table manne_asks

-- what stays still if a test holds, or does not, moves only if it does not, or does
contra : (r m : Bool) → (r ≡ true → m ≡ false) → m ≡ true → r ≡ false
contra r m h moved = grind arith

reached : (r m : Bool) → (r ≡ false → m ≡ false) → m ≡ true → r ≡ true
reached r m h moved = grind arith

either : (q r m : Bool) → (q ≡ true → r ≡ false → m ≡ false) → m ≡ true → (q ≡ false) ⊎ (r ≡ true)
either q r m h moved = grind arith

module _ (t : RuleTable) (is : IsContaining t) where
  pub steps_leave_rest : law.StepsLeaveRest t
  steps_leave_rest s good items moves s' step v rest =
      let here = step_rests t is.asks is.inside s good items moves s' step v (rest_is t.flags s v good rest) in
      (here.0, here.1, rest_from t.flags s' v here.2)

  pub steps_keep_pairs : law.StepsKeepPairs t
  steps_keep_pairs s good items moves s' step e there =
      let pair = pair_from s e there in
      let kept = step_keeps_pair t is.asks is.inside s good items moves s' step e.0 e.1 pair.there pair.back in
      pair_listed s' e.0 e.1 (step_done t is.inside s good items moves s' step).is_state pair.ordered kept.0 kept.1

  pub runs_leave_rest : law.RunsLeaveRest t
  runs_leave_rest start good log end run calm v rest =
      let here = run_rests t is.table is.asks is.inside start good log end run calm v (rest_is t.flags start.state v good rest) in
      (here.0, here.2, rest_from t.flags end.state v here.1)

  pub movers_were_restless : law.MoversWereRestless t
  movers_were_restless start good log end run calm v moved = contra (is_at_rest t.flags start.state v) (has_moved log v) (λ rest. (runs_leave_rest start good log end run calm v rest).0) moved

  pub runs_keep_pairs : law.RunsKeepPairs t
  runs_keep_pairs = run_keeps_pairs t is.table is.asks is.inside

  pub disturbances_reach : law.DisturbancesReach t
  disturbances_reach s good spent event after answers v rest out =
      let here = disturbed_rests t is.table s good spent event after answers v (rest_is t.flags s v good rest) out in
      (rest_from t.flags after v here.0, here.1)

  pub one_is_contained : law.OneIsContained t
  one_is_contained s good stable spent event after answers log end run calm v out =
      let good' = answers_keep t is.table s good spent event Accepted after answers in
      let hit = disturbed_rests t is.table s good spent event after answers v (all_rest t.flags s good stable v) out in
      let here = run_rests t is.table is.asks is.inside (record { state = after; spent = 0 }) good' log end run calm v hit.0 in
      let same = run_keeps_network t is.inside (record { state = after; spent = 0 }) log end run calm in (
        here.0,
        (λ has. let then = hit.1 (sym (ap (λ net. present net v) same) ∙ has) in (here.2.0 ∙ then.0, here.2.1 ∙ then.1)),
        rest_from t.flags end.state v here.1,
      )

  pub movers_were_reached : law.MoversWereReached t
  movers_were_reached s good stable spent event after answers log end run calm v moved =
      reached (is_in_reach s event v) (has_moved log v) (λ out. (one_is_contained s good stable spent event after answers log end run calm v out).0) moved

  pub one_pair_is_lost : law.OnePairIsLost t
  one_pair_is_lost s good spent event after answers log end run calm e f in_e in_f lost_e lost_f =
      let good' = answers_keep t is.table s good spent event Accepted after answers in
      one_pair_lost t is.table s good spent event after answers e f in_e in_f
      (λ there. lost_e (runs_keep_pairs (record { state = after; spent = 0 }) good' log end run calm e there))
      (λ there. lost_f (runs_keep_pairs (record { state = after; spent = 0 }) good' log end run calm f there))

  pub all_are_contained : law.AllAreContained t
  all_are_contained start good path walk v rest out =
      let here = path_rests t is.table is.asks is.inside start good path walk v (rest_is t.flags start.state v good rest) out in
      (here.0, rest_from t.flags _ v here.1)

  pub movers_are_accounted_for : law.MoversAreAccountedFor t
  movers_are_accounted_for start good path walk v moved =
      either (is_at_rest t.flags start.state v) (is_ever_reached start.state path v) (has_moved (path_entries path) v) (λ rest out. (all_are_contained start good path walk v rest out).0) moved

  pub pairs_are_left : law.PairsAreLeft t
  pairs_are_left start good path walk =
      omega (arith, pairs_left start.state _ (path_keeps t is.table start good path walk), path_lost t is.table is.asks is.inside start good path walk)

  pub contains_faults : law.ContainsFaults t
  contains_faults = record {
    rest_is_idle = λ s good v rest. at_rest_idle t is.asks s v good rest;
    steps_leave_rest = steps_leave_rest;
    steps_keep_pairs = steps_keep_pairs;
    runs_leave_rest = runs_leave_rest;
    movers_were_restless = movers_were_restless;
    runs_keep_pairs = runs_keep_pairs;
    disturbances_reach = disturbances_reach;
    disturbances_break_one = one_pair_lost t is.table;
    one_is_contained = one_is_contained;
    movers_were_reached = movers_were_reached;
    one_pair_is_lost = one_pair_is_lost;
    all_are_contained = all_are_contained;
    movers_are_accounted_for = movers_are_accounted_for;
    pairs_are_accounted_for = path_lost t is.table is.asks is.inside;
    pairs_are_left = pairs_are_left;
    reach_is_exact = reach_is_exact t is.table;
  }
