-- If no rule is enabled the network is stable, and conversely.
use Rattle.std.proofs.Common.{◌≡◌, ◌≢◌, ℕ, true, false, not, ◌&&◌, [], None, Some, is_some, is_none, IsTrue, refl, sym, ap, ap₂, ◌∙◌, ⊎_elim, arith}
use Rattle.std.proofs.lemmas.Bool.{and_from, not-false, cases_Bool}
use Rattle.rule_machine.specs.declared.act.Act.TheVariants.{Update, Marry, Seduce, Abandon}
use Rattle.rule_machine.specs.Network.{linked}
use Rattle.rule_machine.specs.State.{State, IsState, pointer, holds_at, has_suitor}
use Rattle.rule_machine.specs.RuleTable.{enabled_names, is_open}
use Rattle.rule_machine.specs.HsuHuang.{hsu_huang, hsu_huang_opens}
use Rattle.rule_machine.specs.Stable.{IsStable}
use Rattle.machine_laws.proofs.Neighbours.{option_cases, linked_back, linked_present, near_found, near_fails}
use Rattle.machine_laws.proofs.Pointers.{points_true, points_from, pointer_linked, suitor_from, suitor_some}
use Rattle.machine_laws.proofs.Writes.{if_some_from}
use Rattle.machine_laws.proofs.EnabledNodes.{quiet_at, quiet_from}
use Rattle.std.proofs.lemmas.Bool.{and_cases}
use Rattle.rules_hsu_huang.specs.Rule.{is_taken, has_open}

module _ (s : State) (is_state : IsState s) (quiet : enabled_names hsu_huang s ≡ []) where
  -- A node w that is pointed at points somewhere, since it could marry.
  courted_points : (v w : ℕ) → pointer s v ≡ Some w → pointer s w ≢ None
  courted_points v w there null =
      let back = linked_back s.network w v ∙ pointer_linked s v w is_state there in
      let idle = quiet_at hsu_huang s quiet w (linked_present s.network w v is_state.is_network back) Marry in
      let suitor = suitor_from s w v is_state there in
      let marries = and_from (is_none (pointer s w)) (has_suitor s w) (ap is_none null) suitor in
      absurd cc

  -- It points back, since v could abandon it.
  points_back : (v w : ℕ) → pointer s v ≡ Some w → pointer s w ≡ Some v
  points_back v w there =
      let here = linked_present s.network v w is_state.is_network (pointer_linked s v w is_state there) in
      let idle = quiet_at hsu_huang s quiet v here Abandon in
      let stays : is_taken s v w ≡ false = sym (ap (holds_at (is_taken s v)) there) ∙ idle in
      ⊎_elim
      (λ null. absurd (courted_points v w there null))
      (
      λ some. ⊎_elim
      (λ (none : is_some (pointer s w) ≡ false). let is = ap is_some some.1 in absurd cc)
      (λ back. points_true s w v (not-false _ back))
      (and_cases _ _ stays)
      )
      (option_cases (pointer s w))

  -- Of two neighbours with null pointers, one has a suitor and could marry it, or has none and could seduce
  -- the other.
  no_pair_free : (v w : ℕ) → IsTrue (linked s.network v w) → pointer s v ≡ None → pointer s w ≡ None → ⊥
  no_pair_free v w h null other =
      let here = linked_present s.network v w is_state.is_network h in
      let no_marry = quiet_at hsu_huang s quiet v here Marry in
      let no_seduce = quiet_at hsu_huang s quiet v here Seduce in
      let found = near_found s.network (is_open hsu_huang_opens s) v w is_state.is_network h (ap is_none other) in
      let reach : has_open s v ≡ true = ap is_some found.1 in
      ⊎_elim
      (λ suitor. let marries = and_from (is_none (pointer s v)) (has_suitor s v) (ap is_none null) suitor in absurd cc)
      (
      λ free. let seduces : (is_none (pointer s v) && not (has_suitor s v) && has_open s v) ≡ true = ap (λ o. is_none o && not (has_suitor s v) && has_open s v) null ∙ ap₂ (λ b c. not b && c) free reach in
      absurd cc
      )
      (cases_Bool (has_suitor s v))

pub hsu_huang_stable_from_quiet : (s : State) → IsState s → enabled_names hsu_huang s ≡ [] → IsStable false s
hsu_huang_stable_from_quiet s is_state quiet = record {
  answered = λ v. if_some_from (pointer s v) (λ w. pointer s w ≡ Some v) (points_back s is_state quiet v);
  covered = no_pair_free s is_state quiet;
  flagged = λ used. absurd cc;
}

-- A suitor is answered, so its target's pointer is not null. A free neighbour of a free node would be an
-- uncovered edge. The target of a node points back.
pub hsu_huang_quiet_from_stable : (s : State) → IsState s → IsStable false s → enabled_names hsu_huang s ≡ []
hsu_huang_quiet_from_stable s is_state stable = quiet_from hsu_huang s (λ v here. elim [ Update ↦ refl | Marry ↦ no_marry v | Seduce ↦ no_seduce v | Abandon ↦ no_abandon v ])
  where
    no_marry : (v : ℕ) → (is_none (pointer s v) && has_suitor s v) ≡ false
    no_marry v = let answered = stable.answered in grind (arith, suitor_some, cases_Bool)

    no_seduce : (v : ℕ) → (is_none (pointer s v) && not (has_suitor s v) && has_open s v) ≡ false
    no_seduce v = let covered = stable.covered v in grind (arith, near_fails, option_cases)

    no_abandon : (v : ℕ) → holds_at (is_taken s v) (pointer s v) ≡ false
    no_abandon v = let answered = stable.answered v in grind (arith, points_from, option_cases)
