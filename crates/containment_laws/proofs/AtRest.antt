-- What being at rest means and follows from; a network is stable if each of its nodes is at rest.
use Rattle.containment_laws.proofs.Prelude.{◌≡◌, ◌≢◌, ℕ, Bool, true, false, cond, not, None, Some, is_none, IsTrue, sym, ◌∙◌, ◌⊎◌, ⊎_elim, and_parts, and_from, or_cases, or_left, or_right, true≢false, cases_Bool, not-true, not-false, not_from_false, not_from_true, false_from_ne_true, none-some, same_Some, linked, present, State, IsState, pointer, flag, married, IsStable, option_cases, linked_present, near_none, near_fails, suitor_linked, married_some, married_from, null_unmarried, if_some_from, if_some_at, null_from, null_is, pointer_present, is_at_rest, arith}

-- a node at rest, in propositions
pub record IsAtRest (uses_flags : Bool) (s : State) (v : ℕ) : Type 0 where
  pub right : IsTrue uses_flags → flag s v ≡ married s v
  pub still : (married s v ≡ true) ⊎ ((pointer s v ≡ None) × ((w : ℕ) → IsTrue (linked s.network v w) → married s w ≡ true))

settled_right : (m f : Bool) → cond m f (not f) ≡ true → f ≡ m
settled_right m f h = grind arith

right_settled : (m f : Bool) → f ≡ m → cond m f (not f) ≡ true
right_settled m f h = grind arith

pub rest_is : (uses_flags : Bool) (s : State) (v : ℕ) → IsState s → IsTrue (is_at_rest uses_flags s v) → IsAtRest uses_flags s v
rest_is uses_flags s v good h = grind (arith, and_parts, is_none, true≢false, not-true, settled_right, or_cases, null_from, not-false, near_none)

pub rest_from : (uses_flags : Bool) (s : State) (v : ℕ) → IsAtRest uses_flags s v → IsTrue (is_at_rest uses_flags s v)
rest_from uses_flags s v rest = grind (arith, and_from, or_right, right_settled, or_left, not_from_false, cases_Bool, null_is, near_fails, not_from_true)

-- the pointer of a married node is answered
pub married_is_answered : (s : State) (v w : ℕ) → married s v ≡ true → pointer s v ≡ Some w → pointer s w ≡ Some v
married_is_answered s v w is at = grind (arith, married_some, same_Some)

-- so is that of a node at rest
pub rest_answered : (uses_flags : Bool) (s : State) (v w : ℕ) → IsAtRest uses_flags s v → pointer s v ≡ Some w → pointer s w ≡ Some v
rest_answered uses_flags s v w rest at =
    ⊎_elim (λ is. married_is_answered s v w is at) (λ alone. absurd (none-some w (sym alone.0 ∙ at))) rest.still

-- one that points nowhere has neighbours that are married, so none of them points nowhere
pub rest_near : (uses_flags : Bool) (s : State) (v w : ℕ) → IsAtRest uses_flags s v → pointer s v ≡ None → IsTrue (linked s.network v w) → married s w ≡ true
rest_near uses_flags s v w rest null near =
    ⊎_elim (λ is. absurd (true≢false (sym is ∙ null_unmarried s v null))) (λ alone. alone.1 w near) rest.still

pub rest_no_null : (uses_flags : Bool) (s : State) (v w : ℕ) → IsAtRest uses_flags s v → pointer s v ≡ None → IsTrue (linked s.network v w) → pointer s w ≢ None
rest_no_null uses_flags s v w rest null near other = true≢false (sym (rest_near uses_flags s v w rest null near) ∙ null_unmarried s w other)

-- no node points at a node at rest whose pointer is null
pub rest_no_suitor : (uses_flags : Bool) (s : State) (v w : ℕ) → IsState s → IsAtRest uses_flags s v → pointer s v ≡ None → pointer s w ≢ Some v
rest_no_suitor uses_flags s v w good rest null at =
    let is = rest_near uses_flags s v w rest null (suitor_linked s v w good at) in
    none-some w (sym null ∙ married_is_answered s w v is at)

-- a name that is absent has no flag, no pointer and no neighbour: it is at rest
pub absent_rests : (uses_flags : Bool) (s : State) (v : ℕ) → IsState s → present s.network v ≡ false → IsAtRest uses_flags s v
absent_rests uses_flags s v good gone = grind (arith, false_from_ne_true, true≢false, null_unmarried, linked_present, pointer_present, option_cases)

-- ---- a stable network

stable_rests : (uses_flags : Bool) (s : State) → IsState s → IsStable uses_flags s → (v : ℕ) → IsTrue (present s.network v) → IsAtRest uses_flags s v
stable_rests uses_flags s good stable v has = grind (arith, option_cases, married_from, if_some_at)

-- in a stable network each node is at rest
pub all_rest : (uses_flags : Bool) (s : State) → IsState s → IsStable uses_flags s → (v : ℕ) → IsAtRest uses_flags s v
all_rest uses_flags s good stable v =
    ⊎_elim (λ has. stable_rests uses_flags s good stable v has) (λ gone. absent_rests uses_flags s v good gone) (cases_Bool (present s.network v))

-- and if each is, the network is stable
pub rest_is_stable : (uses_flags : Bool) (s : State) → IsState s → ((v : ℕ) → IsTrue (present s.network v) → IsAtRest uses_flags s v) → IsStable uses_flags s
rest_is_stable uses_flags s good rests = record {
  answered = λ v. if_some_from _ _ (λ w at. rest_answered uses_flags s v w (rests v (pointer_present s v w good at)) at);
  covered = λ v w near null other. rest_no_null uses_flags s v w (rests v (linked_present s.network v w good.is_network near)) null near other;
  flagged = λ uses v has. (rests v has).right uses;
}
