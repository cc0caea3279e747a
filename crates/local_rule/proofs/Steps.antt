-- A node's own move is a step of the machine.
use Rattle.local_rule.proofs.Prelude.{◌≡◌, ℕ, Bool, true, false, cond, not, ◌&&◌, ◌||◌, nat_eq, Option, None, Some, is_some, IsTrue, refl, sym, ap, ◌∙◌, subst, ⊎_elim, arith, cases_Bool, true≢false, and_from, eq-eqb, none-some, same_Some, option_map, Act, Update, Marry, Seduce, Abandon, State, IsState, RuleTable, rule_at, least_target, acts, takes_target, find_passes}
use Rattle.rule_machine.specs.Step.{IsStep, after_moves}
use Rattle.rule_machine.specs.Table.{IsTable}
use Rattle.machine_laws.specs.MoveTests.{is_rule, is_target, same_act}
use Rattle.machine_laws.proofs.StepTests.{step_from_tests}
use Rattle.local_rule.specs.declared.local_move.LocalMove.{LocalMove}
use Rattle.local_rule.specs.Moves.{local_move, move_at, may_move_at}
use Rattle.local_rule.specs.Steps.{only, only_move, IsStepOf}

one_fits : (central : Bool) → cond central (nat_eq 1 1) (not (nat_eq 1 0)) ≡ true
one_fits true = refl
one_fits false = refl

same_itself : (act : Act) → same_act act act ≡ true
same_itself Update = refl
same_itself Marry = refl
same_itself Seduce = refl
same_itself Abandon = refl

-- an allowed move of one node is a step
pub step_from_may : (t : RuleTable) (s : State) (v : ℕ) (m : LocalMove) → may_move_at t s v m.act m.target ≡ true → IsStep t s (only v) (only_move v m) (after_moves s (only_move v m))
step_from_may t s v m h =
    step_from_tests t s (only v) (only_move v m) (λ k inside. absurd (omega arith)) (tests t.central h)
  where
    tests : (central : Bool) → may_move_at t s v m.act m.target ≡ true → (cond central (nat_eq 1 1) (not (nat_eq 1 0)) && (((may_move_at t s v m.act m.target || false) && true) && ((may_move_at t s v m.act m.target || false) && true))) ≡ true
    tests central e = grind (arith, one_fits central)

-- the least target may be taken
least_may : (t : RuleTable) (s : State) (v : ℕ) (act : Act) → IsTable t → IsState s → rule_at t s v ≡ Some act → may_move_at t s v act (least_target t s v act) ≡ true
least_may t s v act table good rule =
    and_from _ _ (eq-eqb v v refl) (and_from _ _ (ap (λ o. is_rule o act) rule ∙ same_itself act) (aims (least_target t s v act) refl))
  where
    enabled : IsTrue (t.guard s v act)
    enabled = find_passes (t.guard s v) acts act rule

    aims : (o : Option ℕ) → least_target t s v act ≡ o → is_target t s v act None o ≡ true
    aims None none =
        ⊎_elim
        (λ (takes : takes_target act ≡ true). absurd (true≢false (sym (table.has_target s v act good enabled takes) ∙ ap is_some none)))
        (λ (takes : takes_target act ≡ false). ap not takes)
        (cases_Bool (takes_target act))
    aims (Some w) some =
        let allowed = find_passes (t.allowed s v act) _ w some in
        and_from _ _ (table.allowed_takes_target s v act w allowed) (and_from _ _ allowed refl)

pub local_step : (t : RuleTable) (s : State) (v : ℕ) (m : LocalMove) → IsTable t → IsState s → move_at t s v ≡ Some m → IsStepOf t s v m
local_step t s v m table good e = go (rule_at t s v) refl e
  where
    go : (o : Option Act) → rule_at t s v ≡ o → option_map (λ act. local_move s v act (least_target t s v act)) o ≡ Some m → IsStepOf t s v m
    go None rule none = absurd (none-some m none)
    go (Some act) rule some =
        subst (IsStepOf t s v) (same_Some _ _ some) (record {
          step = step_from_may t s v (local_move s v act (least_target t s v act)) (least_may t s v act table good rule);
          points = refl;
          flagged = refl;
        })
