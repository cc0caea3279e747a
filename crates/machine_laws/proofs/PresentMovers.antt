-- Only present nodes have an enabled rule: an absent one has no neighbour, a null pointer and no flag.
use Rattle.machine_laws.proofs.ChargePrelude.{◌≡◌, ℕ, Bool, cond, not, Option, None, Some, is_some, find, IsTrue, refl, sym, and_parts, true≢false, Network, IsNetwork, linked, present, neighbours, State, IsState, pointer, flag, married, holds_at, has_suitor, hsu_huang, manne, linked_present, near_some, some_is, pointer_linked, suitor_linked, suitor_some, married_some, arith}
use Rattle.machine_laws.proofs.NodeMoves.{IsInside}

-- a pointer that passes a test is at a name that passes it
pub holds_is : (test : ℕ → Bool) (o : Option ℕ) → IsTrue (holds_at test o) → (w : ℕ) × (o ≡ Some w) × IsTrue (test w)
holds_is test None h = absurd (true≢false (sym h))
holds_is test (Some w) h = (w, refl, h)

pub pointer_present : (s : State) (v w : ℕ) → IsState s → pointer s v ≡ Some w → IsTrue (present s.network v)
pointer_present s v w good e = linked_present s.network v w good.is_network (pointer_linked s v w good e)

suitor_present : (s : State) (v w : ℕ) → IsState s → pointer s w ≡ Some v → IsTrue (present s.network v)
suitor_present s v w good e = linked_present s.network v w good.is_network (suitor_linked s v w good e)

found_present : (net : Network) (p : ℕ → Bool) (v : ℕ) → IsNetwork net → IsTrue (is_some (find p (neighbours net v))) → IsTrue (present net v)
found_present net p v good h =
    let found = some_is (find p (neighbours net v)) h in
    linked_present net v found.0 good (near_some net p v found.0 found.1).0

courted_present : (s : State) (v : ℕ) → IsState s → IsTrue (has_suitor s v) → IsTrue (present s.network v)
courted_present s v good h = let suitor = suitor_some s v h in suitor_present s v suitor.0 good suitor.1

pointing_present : (s : State) (v : ℕ) (test : ℕ → Bool) → IsState s → IsTrue (holds_at test (pointer s v)) → IsTrue (present s.network v)
pointing_present s v test good h = let aim = holds_is test (pointer s v) h in pointer_present s v aim.0 good aim.1

-- a wrong flag is a true one, or that of a married node
unsettled_present : (s : State) (v : ℕ) → IsState s → (m f : Bool) → married s v ≡ m → flag s v ≡ f → IsTrue (not (cond m f (not f))) → IsTrue (present s.network v)
unsettled_present s v good m f is set h = grind (arith, married_some, pointer_present, true≢false)

pub hsu_huang_inside : IsInside hsu_huang
hsu_huang_inside = grind (arith, true≢false, courted_present, and_parts, found_present, pointing_present, linked)

pub manne_inside : IsInside manne
manne_inside = grind (arith, unsettled_present, courted_present, and_parts, found_present, pointing_present, linked)
