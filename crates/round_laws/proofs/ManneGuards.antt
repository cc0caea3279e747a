-- Manne's guards, in pointers and flags: which hold, what they ask for, and what a step does at each node.
use Rattle.round_laws.proofs.Prelude.{◌≡◌, ◌≢◌, ℕ, ◌<◌, ◌≤◌, Bool, true, false, cond, not, ◌&&◌, ◌||◌, List, Option, None, Some, is_some, is_none, is_at, find, nat_lt, nat_le, IsTrue, sym, ap, ◌∙◌, ◌⊎◌, arith, and_parts, and_from, not-true, not_from_false, Update, Marry, Seduce, Abandon, Moved, linked, neighbours, State, IsState, pointer, flag, points, married, has_suitor, is_settled, holds_at, manne, may_court, no_suitor, suitor_from, near_found, near_some, some_is, null_unmarried, unanswered_unmarried, holds_is, null_is, null_from, none-some, is_mover_in}
use Rattle.machine_laws.proofs.NodeMoves.{Deed, idles, updates, marries, seduces, abandons}
use Rattle.round_laws.proofs.JointTurns.{JointTurn, idles, updates, takes, courts, leaves}

-- ---- tests

settled_by : (m f : Bool) → f ≡ m → cond m f (not f) ≡ true
settled_by m f right = grind arith

settled_is : (m f : Bool) → cond m f (not f) ≡ true → f ≡ m
settled_is m f h = grind arith

wrong_by : (m f : Bool) → f ≡ not m → not (cond m f (not f)) ≡ true
wrong_by m f wrong = grind arith

wrong_is : (m f : Bool) → not (cond m f (not f)) ≡ true → f ≡ not m
wrong_is m f h = grind arith

pub court_by : (o : Option ℕ) (g : Bool) (v w : ℕ) → o ≡ None → g ≡ false → v < w → (is_none o && not g && nat_lt v w) ≡ true
court_by o g v w null off up = grind arith

pub court_is : (o : Option ℕ) (g : Bool) (v w : ℕ) → (is_none o && not g && nat_lt v w) ≡ true → (o ≡ None) × (g ≡ false) × (v < w)
court_is o g v w h = grind arith

lost_by : (o : Option ℕ) (g : Bool) (v w : ℕ) → o ≢ Some v → (g ≡ true) ⊎ (w ≤ v) → (not (is_at o v) && (g || nat_le w v)) ≡ true
lost_by o g v w apart lost = grind arith

lost_is : (o : Option ℕ) (g : Bool) (v w : ℕ) → (not (is_at o v) && (g || nat_le w v)) ≡ true → (o ≢ Some v) × ((g ≡ true) ⊎ (w ≤ v))
lost_is o g v w h = ((λ at. grind arith), grind arith)

marry_is : (o q : Option ℕ) (v : ℕ) (m f c l : Bool) → (cond m f (not f) && is_none o && c) ≡ true → (l && is_at q v) ≡ true → (o ≡ None) × (q ≡ Some v) × (f ≡ m)
marry_is o q v m f c l guard allowed = grind arith

-- ---- guards that hold

pub wrong_enabled : (s : State) (v : ℕ) → flag s v ≡ not (married s v) → IsTrue (manne.guard s v Update)
wrong_enabled s v wrong = wrong_by (married s v) (flag s v) wrong

null_settled : (s : State) (v : ℕ) → flag s v ≡ married s v → pointer s v ≡ None → IsTrue (is_settled s v && is_none (pointer s v))
null_settled s v right null = and_from (is_settled s v) (is_none (pointer s v)) (settled_by (married s v) (flag s v) right) (null_is (pointer s v) null)

pub marry_enabled : (s : State) → IsState s → (w u : ℕ) → flag s w ≡ married s w → pointer s w ≡ None → pointer s u ≡ Some w → IsTrue (manne.guard s w Marry)
marry_enabled s good w u right null suits =
    and_from (is_settled s w && is_none (pointer s w)) (has_suitor s w) (null_settled s w right null) (suitor_from s w u good suits)

-- a null node without a suitor that has a null node above it
pub seduce_enabled : (s : State) → IsState s → (v w : ℕ) → flag s v ≡ married s v → IsTrue (linked s.network v w) → v < w → pointer s v ≡ None → has_suitor s v ≡ false → pointer s w ≡ None → flag s w ≡ false → IsTrue (manne.guard s v Seduce)
seduce_enabled s good v w right near up null alone free off =
    and_from (is_settled s v && is_none (pointer s v) && not (has_suitor s v)) (is_some (find (may_court s v) (neighbours s.network v)))
    (and_from (is_settled s v && is_none (pointer s v)) (not (has_suitor s v)) (null_settled s v right null) (not_from_false (has_suitor s v) alone))
    (let found = near_found s.network (may_court s v) v w good.is_network near (court_by (pointer s w) (flag s w) v w free off up) in ap is_some found.1)

pub abandon_enabled : (s : State) (v w : ℕ) → flag s v ≡ married s v → pointer s v ≡ Some w → pointer s w ≢ Some v → (flag s w ≡ true) ⊎ (w ≤ v) → IsTrue (manne.guard s v Abandon)
abandon_enabled s v w right at apart lost =
    and_from (is_settled s v) (holds_at (λ w. not (points s.registers w v) && (flag s w || nat_le w v)) (pointer s v)) (settled_by (married s v) (flag s v) right)
    (ap (holds_at (λ w. not (points s.registers w v) && (flag s w || nat_le w v))) at ∙ lost_by (pointer s w) (flag s w) v w apart lost)

-- ---- what guards ask for

pub abandon_is : (s : State) (v : ℕ) → IsTrue (manne.guard s v Abandon) → (w : ℕ) × (pointer s v ≡ Some w) × (pointer s w ≢ Some v) × ((flag s w ≡ true) ⊎ (w ≤ v))
abandon_is s v guard =
    let aim = holds_is (λ w. not (points s.registers w v) && (flag s w || nat_le w v)) (pointer s v) (and_parts (is_settled s v) _ guard).1 in
    let lost = lost_is (pointer s aim.0) (flag s aim.0) v aim.0 aim.2 in
    (aim.0, aim.1, lost.0, lost.1)

pub seduce_is : (s : State) (v : ℕ) → IsTrue (manne.guard s v Seduce) → (w : ℕ) × IsTrue (linked s.network v w) × (pointer s w ≡ None) × (v < w)
seduce_is s v guard =
    let found = some_is (find (may_court s v) (neighbours s.network v)) (and_parts (is_settled s v && is_none (pointer s v) && not (has_suitor s v)) _ guard).1 in
    let near = near_some s.network (may_court s v) v found.0 found.1 in
    let open_above = court_is (pointer s found.0) (flag s found.0) v found.0 near.1 in
    (found.0, near.0, open_above.0, open_above.2)

-- ---- a step

pub joint_turn : (s s' : State) (moves : List Moved) (v : ℕ) → IsState s → Deed manne s s' moves v → JointTurn (pointer s) (pointer s') (married s) (flag s) (flag s') (is_mover_in moves) v
joint_turn s s' moves v good (idles none e f) = idles none e f
joint_turn s s' moves v good (updates goes guard e f) = updates e (wrong_is (married s v) (flag s v) guard) f
joint_turn s s' moves v good (marries w goes guard allowed e f) =
    let is = marry_is (pointer s v) (pointer s w) v (married s v) (flag s v) (has_suitor s v) (linked s.network v w) guard allowed in
    let single = null_unmarried s v is.0 in
    takes w is.0 is.1 (unanswered_unmarried s w v is.1 (λ back. none-some w (sym is.0 ∙ back))) e single (is.2 ∙ single) (f ∙ is.2 ∙ single)
joint_turn s s' moves v good (seduces w goes guard allowed e f) =
    let outer = and_parts (is_settled s v && is_none (pointer s v)) (not (has_suitor s v)) (and_parts (is_settled s v && is_none (pointer s v) && not (has_suitor s v)) _ guard).0 in
    let parts = and_parts (is_settled s v) (is_none (pointer s v)) outer.0 in
    let null = null_from (pointer s v) parts.1 in
    let single = null_unmarried s v null in
    let plain = settled_is (married s v) (flag s v) parts.0 ∙ single in
    let aim = (and_parts (linked s.network v w) (may_court s v w) (and_parts (linked s.network v w && may_court s v w) _ allowed).0).1 in
    let open_above = court_is (pointer s w) (flag s w) v w aim in
    courts w null (λ u. no_suitor s v u good (not-true (has_suitor s v) outer.1)) open_above.0 (null_unmarried s w open_above.0) e open_above.2 single plain (f ∙ plain)
joint_turn s s' moves v good (abandons goes guard e f) =
    let aim = abandon_is s v guard in
    let single = unanswered_unmarried s v aim.0 aim.1 aim.2 in
    let plain = settled_is (married s v) (flag s v) (and_parts (is_settled s v) _ guard).0 ∙ single in
    leaves aim.0 aim.1 aim.2 e aim.3 single plain (f ∙ plain)
