-- A step breaks no pair, and leaves nodes at rest at rest.
use Rattle.containment_laws.proofs.Prelude.{◌≡◌, ℕ, Bool, true, false, List, None, Some, IsTrue, ◌∙◌, subst, none-some, same_Some, Update, Marry, Seduce, Abandon, Item, Moved, linked, State, IsState, pointer, flag, married, RuleTable, IsStep, married_some, married_from, null_unmarried, is_mover_in, Deed, idles, updates, marries, seduces, abandons, IsInside, IsDone, step_done, AsksForWork, KeepsRegisters, arith}
use Rattle.containment_laws.proofs.AtRest.{IsAtRest, rest_near}
use Rattle.containment_laws.proofs.IdleNodes.{rest_idles}

-- What keeps a node at rest: its flag stays, it stays married if it was, and if its pointer was null it stays
-- null and its neighbours then are married.
pub rest_carries : (uses_flags : Bool) (s s' : State) (v : ℕ) → IsAtRest uses_flags s v → flag s' v ≡ flag s v → (married s v ≡ true → married s' v ≡ true) → (pointer s v ≡ None → pointer s' v ≡ None) → (pointer s v ≡ None → (w : ℕ) → IsTrue (linked s'.network v w) → married s' w ≡ true) → IsAtRest uses_flags s' v
rest_carries uses_flags s s' v rest same weds nulls near = grind (arith, null_unmarried)

-- neither end of a pair gives up the other
pub deed_keeps : (t : RuleTable) → AsksForWork t → (s s' : State) (moves : List Moved) (v w : ℕ) → Deed t s s' moves v → pointer s v ≡ Some w → pointer s w ≡ Some v → pointer s' v ≡ Some w
deed_keeps t asks s s' moves v w h7 at back = grind (arith, none-some, same_Some)

pub done_keeps_pair : (t : RuleTable) → AsksForWork t → (s s' : State) (moves : List Moved) → IsDone t s s' moves → (v w : ℕ) → pointer s v ≡ Some w → pointer s w ≡ Some v → (pointer s' v ≡ Some w) × (pointer s' w ≡ Some v)
done_keeps_pair t asks s s' moves done v w at back =
    (deed_keeps t asks s s' moves v w (done.deeds v) at back, deed_keeps t asks s s' moves w v (done.deeds w) back at)

pub done_keeps_married : (t : RuleTable) → AsksForWork t → (s s' : State) (moves : List Moved) → IsDone t s s' moves → (v : ℕ) → married s v ≡ true → married s' v ≡ true
done_keeps_married t asks s s' moves done v is = grind (arith, married_some, done_keeps_pair, married_from)

-- a node without an enabled rule idles
deed_idles : (t : RuleTable) → AsksForWork t → (s s' : State) (moves : List Moved) (v : ℕ) → IsState s → IsAtRest t.flags s v → Deed t s s' moves v → (is_mover_in moves v ≡ false) × KeepsRegisters s s' v
deed_idles t asks s s' moves v good rest (idles none e f) = (none, (e, f))
deed_idles t asks s s' moves v good rest (updates goes guard e f) = absurd (rest_idles t asks s v good rest Update guard)
deed_idles t asks s s' moves v good rest (marries x goes guard allowed e f) = absurd (rest_idles t asks s v good rest Marry guard)
deed_idles t asks s s' moves v good rest (seduces x goes guard allowed e f) = absurd (rest_idles t asks s v good rest Seduce guard)
deed_idles t asks s s' moves v good rest (abandons goes guard e f) = absurd (rest_idles t asks s v good rest Abandon guard)

-- a step does not move a node at rest, keeps its registers, and leaves it at rest
pub done_rests : (t : RuleTable) → AsksForWork t → (s s' : State) (moves : List Moved) → IsState s → IsDone t s s' moves → (v : ℕ) → IsAtRest t.flags s v → (is_mover_in moves v ≡ false) × KeepsRegisters s s' v × IsAtRest t.flags s' v
done_rests t asks s s' moves good done v rest =
    let here = deed_idles t asks s s' moves v good rest (done.deeds v) in
    let then = rest_carries t.flags s s' v rest here.1.1 (done_keeps_married t asks s s' moves done v) (λ null. here.1.0 ∙ null)
    (λ null w near. done_keeps_married t asks s s' moves done w (rest_near t.flags s v w rest null (subst (λ net. IsTrue (linked net v w)) done.network near))) in
    (here.0, here.1, then)

pub step_rests : (t : RuleTable) → AsksForWork t → IsInside t → (s : State) → IsState s → (items : List Item) (moves : List Moved) (s' : State) → IsStep t s items moves s' → (v : ℕ) → IsAtRest t.flags s v → (is_mover_in moves v ≡ false) × KeepsRegisters s s' v × IsAtRest t.flags s' v
step_rests t asks inside s good items moves s' step v rest = done_rests t asks s s' moves good (step_done t inside s good items moves s' step) v rest

pub step_keeps_pair : (t : RuleTable) → AsksForWork t → IsInside t → (s : State) → IsState s → (items : List Item) (moves : List Moved) (s' : State) → IsStep t s items moves s' → (v w : ℕ) → pointer s v ≡ Some w → pointer s w ≡ Some v → (pointer s' v ≡ Some w) × (pointer s' w ≡ Some v)
step_keeps_pair t asks inside s good items moves s' step v w at back = done_keeps_pair t asks s s' moves (step_done t inside s good items moves s' step) v w at back
