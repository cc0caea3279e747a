-- Pointers, suitors and partners.
use Rattle.machine_laws.proofs.ChargePrelude.Imports.{same_Some, none-some, false_from_ne_true, ◌≡◌, ◌≢◌, ℕ, true, false, Option, None, Some, is_some, IsTrue, sym, ap, ◌∙◌, subst, and_parts, and_from, linked, present, State, IsState, points, pointer, suits, first_suitor, has_suitor, is_mutual, partner, married, arith}
use Rattle.machine_laws.proofs.Neighbours.{option_cases, linked_present, linked_back, near_none, near_some, near_found}
use Rattle.machine_laws.proofs.Writes.{if_some_at, some_from_is_at, is_at_from_some}

-- a search that found something
pub some_is : {X : Type 0} (o : Option X) → IsTrue (is_some o) → (x : X) × (o ≡ Some x)
some_is x e = grind arith

pub none_is : {X : Type 0} (o : Option X) → is_some o ≡ false → o ≡ None
none_is o e = grind arith

-- v points at w
pub points_true : (s : State) (v w : ℕ) → IsTrue (points s.registers v w) → pointer s v ≡ Some w
points_true s v w h = some_from_is_at (pointer s v) w h

pub points_from : (s : State) (v w : ℕ) → pointer s v ≡ Some w → IsTrue (points s.registers v w)
points_from s v w h = is_at_from_some (pointer s v) w h

-- a pointer crosses an edge
pub pointer_linked : (s : State) (v w : ℕ) → IsState s → pointer s v ≡ Some w → IsTrue (linked s.network v w)
pointer_linked s v w is_state e = if_some_at (pointer s v) (λ x. IsTrue (linked s.network v x)) w e (is_state.neighbourly v)

-- an absent node points nowhere
pub absent_null : (s : State) (v : ℕ) → IsState s → present s.network v ≡ false → pointer s v ≡ None
absent_null s v good absent = grind (arith, option_cases, pointer_linked, linked_present)

-- a node that points at v is a neighbour of v
pub suitor_linked : (s : State) (v w : ℕ) → IsState s → pointer s w ≡ Some v → IsTrue (linked s.network v w)
suitor_linked s v w is_state e = linked_back s.network v w ∙ pointer_linked s w v is_state e

-- v has no suitor
pub no_suitor : (s : State) (v w : ℕ) → IsState s → has_suitor s v ≡ false → pointer s w ≢ Some v
no_suitor s v w is_state e h =
    let fails = near_none s.network (suits s v) v is_state.is_network (none_is (first_suitor s v) e) w (suitor_linked s v w is_state h) in
    let points = points_from s w v h in
    absurd cc

-- v has one
pub suitor_from : (s : State) (v w : ℕ) → IsState s → pointer s w ≡ Some v → has_suitor s v ≡ true
suitor_from s v w is_state h =
    let found = near_found s.network (suits s v) v w is_state.is_network (suitor_linked s v w is_state h) (points_from s w v h) in
    ap is_some found.1

pub suitor_some : (s : State) (v : ℕ) → IsTrue (has_suitor s v) → (w : ℕ) × (pointer s w ≡ Some v)
suitor_some s v h =
    let found = some_is (first_suitor s v) h in
    (found.0, points_true s found.0 v (near_some s.network (suits s v) v found.0 found.1).1)

-- a node and its partner point at each other
pub partner_some : (s : State) (v w : ℕ) → partner s v ≡ Some w → (pointer s v ≡ Some w) × (pointer s w ≡ Some v)
partner_some s v w e =
    let both = and_parts _ _ (near_some s.network (is_mutual s v) v w e).1 in
    (points_true s v w both.0, points_true s w v both.1)

pub partner_from : (s : State) (v w : ℕ) → IsState s → pointer s v ≡ Some w → pointer s w ≡ Some v → partner s v ≡ Some w
partner_from s v w is_state there back =
    let found = near_found s.network (is_mutual s v) v w is_state.is_network (pointer_linked s v w is_state there) (and_from _ _ (points_from s v w there) (points_from s w v back)) in
    let at = (partner_some s v found.0 found.1).0 in
    found.1 ∙ sym at ∙ there

pub married_from : (s : State) (v w : ℕ) → IsState s → pointer s v ≡ Some w → pointer s w ≡ Some v → married s v ≡ true
married_from s v w is_state there back = ap is_some (partner_from s v w is_state there back)

-- a married node
pub married_some : (s : State) (v : ℕ) → IsTrue (married s v) → (w : ℕ) × (pointer s v ≡ Some w) × (pointer s w ≡ Some v)
married_some s v h =
    let found = some_is (partner s v) h in
    let both = partner_some s v found.0 found.1 in
    (found.0, both.0, both.1)

-- a node that points nowhere is not married
pub null_unmarried : (s : State) (v : ℕ) → pointer s v ≡ None → married s v ≡ false
null_unmarried s v e = false_from_ne_true (married s v) (λ h. let pair = married_some s v h in none-some pair.0 (sym e ∙ pair.1))

-- a node whose pointer is not answered is not married
pub unanswered_unmarried : (s : State) (v w : ℕ) → pointer s v ≡ Some w → pointer s w ≢ Some v → married s v ≡ false
unanswered_unmarried s v w there apart =
    false_from_ne_true (married s v) (λ h. let pair = married_some s v h in apart (subst (λ x. pointer s x ≡ Some v) (same_Some pair.0 w (sym pair.1 ∙ there)) pair.2))
