-- If no rule is enabled the network is stable, and conversely.
use Rattle.std.proofs.Common.{◌≡◌, ◌≢◌, ℕ, zero, suc, ◌+◌, ◌<◌, Bool, true, false, not, ◌&&◌, ◌||◌, [], Option, None, Some, is_some, is_none, nat_lt, nat_le, IsTrue, refl, sym, ap, ap₂, ◌∙◌, ⊎_elim, arith}
use Rattle.std.proofs.lemmas.Bool.{and_from, and_left, or_parts, not-false, cases_Bool, cases_order}
use Rattle.rule_machine.specs.declared.act.Act.TheVariants.{Update, Marry, Seduce, Abandon}
use Rattle.rule_machine.specs.Network.{linked, present}
use Rattle.rule_machine.specs.State.{State, IsState, pointer, flag, points, holds_at, has_suitor, married, is_settled}
use Rattle.rule_machine.specs.RuleTable.{enabled_names, is_open}
use Rattle.rule_machine.specs.Manne.{manne, manne_opens, may_court}
use Rattle.rule_machine.specs.Stable.{IsStable}
use Rattle.machine_laws.proofs.Neighbours.{option_cases, present_range, linked_back, linked_present, linked_apart, near_found, near_fails}
use Rattle.machine_laws.proofs.Pointers.{points_true, points_from, pointer_linked, suitor_from, suitor_some, married_from, null_unmarried}
use Rattle.machine_laws.proofs.Writes.{if_some_from}
use Rattle.machine_laws.proofs.EnabledNodes.{quiet_at, quiet_from}
use Rattle.std.proofs.Common.{lt-ltb, leb-false}
use Rattle.std.proofs.lemmas.Bool.{and_right}
use Rattle.rules_manne.specs.Rule.{is_lost, courts, flag_from_settled, settled_from_flag}

-- a test of four parts
fourth_from : (a b c d : Bool) → a ≡ true → b ≡ true → c ≡ true → d ≡ true → (a && b && c && d) ≡ true
fourth_from a b c d p q r t = and_from _ _ (and_from _ _ (and_from _ _ p q) r) t

module _ (s : State) (is_state : IsState s) (quiet : enabled_names manne s ≡ []) where
  -- each present node's flag is right, since it does not update
  settled : (v : ℕ) → IsTrue (present s.network v) → is_settled s v ≡ true
  settled v here = not-false (is_settled s v) (quiet_at manne s quiet v here Update)

  right_flag : (v : ℕ) → IsTrue (present s.network v) → flag s v ≡ married s v
  right_flag v here = flag_from_settled (married s v) (flag s v) (settled v here)

  -- the ends of a pointer are present
  tail_present : (v w : ℕ) → pointer s v ≡ Some w → IsTrue (present s.network v)
  tail_present v w there = linked_present s.network v w is_state.is_network (pointer_linked s v w is_state there)

  head_present : (v w : ℕ) → pointer s v ≡ Some w → IsTrue (present s.network w)
  head_present v w there = grind (arith, linked_present, linked_back, pointer_linked)

  -- a node w that is pointed at points somewhere, since it could marry
  courted_points : (v w : ℕ) → pointer s v ≡ Some w → pointer s w ≢ None
  courted_points v w there null =
      let here = head_present v w there in
      let idle = quiet_at manne s quiet w here Marry in
      let marries = and_from (is_settled s w && is_none (pointer s w)) (has_suitor s w) (and_from _ _ (settled w here) (ap is_none null)) (suitor_from s w v is_state there) in
      absurd cc

  -- if it does not point back, it is unflagged and above v, since v does not abandon it
  not_lost : (v w : ℕ) → pointer s v ≡ Some w → points s.registers w v ≡ false → (flag s w ≡ false) × (v < w)
  not_lost v w there apart =
      let here = tail_present v w there in
      let idle = quiet_at manne s quiet v here Abandon in
      let stays : is_lost s v w ≡ false = sym (ap₂ (λ b o. b && holds_at (is_lost s v) o) (settled v here) there) ∙ idle in
      let kept : (flag s w || nat_le w v) ≡ false = sym (ap (λ b. not b && (flag s w || nat_le w v)) apart) ∙ stays in
      let parts = or_parts (flag s w) (nat_le w v) kept in
      (parts.0, leb-false w v parts.1)

  -- Every pointer is answered. If w did not point back to v, it would be above v and unflagged, so unmarried.
  -- Its pointer is not null, and by induction downward from the greatest name it is answered, so w is
  -- married: a contradiction. The fuel n bounds how far v is below the greatest name.
  points_back : (n v w : ℕ) → s.network.size < v + n → pointer s v ≡ Some w → pointer s w ≡ Some v
  points_back zero v w far there =
      let bounds = present_range s.network v (tail_present v w there) in absurd (omega arith)
  points_back (suc n) v w far there =
      ⊎_elim
      (λ back. points_true s w v back)
      (
      λ apart. let kept = not_lost v w there apart in
      ⊎_elim
      (λ null. absurd (courted_points v w there null))
      (
      λ some. let answer = points_back n w some.0 (omega arith) some.1 in
      let is_married = married_from s w some.0 is_state some.1 answer in
      let right = right_flag w (head_present v w there) in
      absurd cc
      )
      (option_cases (pointer s w))
      )
      (cases_Bool (points s.registers w v))

  -- Of two neighbours with null pointers, the lower one could marry a suitor, or seduce the higher one, which
  -- is unmarried and so unflagged.
  lower_free : (v w : ℕ) → v < w → IsTrue (linked s.network v w) → pointer s v ≡ None → pointer s w ≡ None → ⊥
  lower_free v w below h null other =
      let here = linked_present s.network v w is_state.is_network h in
      let there = linked_present s.network w v is_state.is_network (linked_back s.network w v ∙ h) in
      let no_marry = quiet_at manne s quiet v here Marry in
      let no_seduce = quiet_at manne s quiet v here Seduce in
      let unflagged = right_flag w there ∙ null_unmarried s w other in
      let reachable : may_court s v w ≡ true = and_from (is_open manne_opens s w) (nat_lt v w) (ap₂ (λ o f. manne_opens o f) other unflagged) (lt-ltb v w below) in
      let found = near_found s.network (may_court s v) v w is_state.is_network h reachable in
      ⊎_elim
      (
      λ suitor. let marries = and_from (is_settled s v && is_none (pointer s v)) (has_suitor s v) (and_from _ _ (settled v here) (ap is_none null)) suitor in
      absurd cc
      )
      (
      λ (alone : has_suitor s v ≡ false). let seduces = fourth_from (is_settled s v) (is_none (pointer s v)) (not (has_suitor s v)) (courts s v) (settled v here) (ap is_none null) (ap not alone) (ap is_some found.1) in
      absurd cc
      )
      (cases_Bool (has_suitor s v))

  no_pair_free : (v w : ℕ) → IsTrue (linked s.network v w) → pointer s v ≡ None → pointer s w ≡ None → ⊥
  no_pair_free v w h null other =
      ⊎_elim
      (λ same. linked_apart s.network v w is_state.is_network h same)
      (
      ⊎_elim
      (λ below. lower_free v w below h null other)
      (λ above. lower_free w v above (linked_back s.network w v ∙ h) other null)
      )
      (cases_order v w)

pub manne_stable_from_quiet : (s : State) → IsState s → enabled_names manne s ≡ [] → IsStable true s
manne_stable_from_quiet s is_state quiet = record {
  answered = λ v. if_some_from (pointer s v) (λ w. pointer s w ≡ Some v) (λ w there. points_back s is_state quiet (s.network.size + 1) v w (omega arith) there);
  covered = no_pair_free s is_state quiet;
  flagged = λ used v here. right_flag s is_state quiet v here;
}

-- Each flag is right. A suitor is answered, so its target's pointer is not null. A free neighbour of a free
-- node would be an uncovered edge. The target of a node points back.
pub manne_quiet_from_stable : (s : State) → IsState s → IsStable true s → enabled_names manne s ≡ []
manne_quiet_from_stable s is_state stable = quiet_from manne s (λ v here. elim [ Update ↦ no_update v here | Marry ↦ no_marry v | Seduce ↦ no_seduce v | Abandon ↦ no_abandon v ])
  where
    no_update : (v : ℕ) → IsTrue (present s.network v) → not (is_settled s v) ≡ false
    no_update v here = ap not (settled_from_flag (married s v) (flag s v) (stable.flagged refl v here))

    no_marry : (v : ℕ) → (is_settled s v && is_none (pointer s v) && has_suitor s v) ≡ false
    no_marry v = grind (arith, suitor_some, and_left, and_right, cases_Bool)

    no_court : (v : ℕ) → pointer s v ≡ None → courts s v ≡ false
    no_court v null =
        ap is_some (
        near_fails s.network (may_court s v) v (
        λ w h. ⊎_elim
        (λ other. absurd (stable.covered v w h null other))
        (λ some. ap (λ o. manne_opens o (flag s w) && nat_lt v w) some.1)
        (option_cases (pointer s w))
        )
        )

    no_seduce : (v : ℕ) → (is_settled s v && is_none (pointer s v) && not (has_suitor s v) && courts s v) ≡ false
    no_seduce v =
        ⊎_elim
        (λ null. and_right (is_settled s v && is_none (pointer s v) && not (has_suitor s v)) (courts s v) (no_court v null))
        (
        λ some. and_left (is_settled s v && is_none (pointer s v) && not (has_suitor s v)) (courts s v) (
        and_left (is_settled s v && is_none (pointer s v)) (not (has_suitor s v)) (and_right (is_settled s v) (is_none (pointer s v)) (ap is_none some.1))
        )
        )
        (option_cases (pointer s v))

    not_left : (v : ℕ) (o : Option ℕ) → pointer s v ≡ o → holds_at (is_lost s v) o ≡ false
    not_left v o e = grind (arith, and_left, points_from)

    no_abandon : (v : ℕ) → (is_settled s v && holds_at (is_lost s v) (pointer s v)) ≡ false
    no_abandon v = and_right (is_settled s v) (holds_at (is_lost s v) (pointer s v)) (not_left v (pointer s v) refl)
