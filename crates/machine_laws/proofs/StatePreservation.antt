-- Events lead from valid states to valid states.
use Rattle.machine_laws.proofs.ChargePrelude.Imports.{none-some, ◌≡◌, ℕ, ◌+◌, ◌≤◌, Bool, false, List, map, set, [], ◌∷◌, length, fold, replicate, Option, None, Some, IsTrue, sym, ap, ◌∙◌, ⊎_elim, arith, get_or, AllByRecursion, length-set, length-map, length-replicate, get_or-replicate, get_or_past, get_or-set_same, get_or-set_other, get_or-map, true≢false, cases_lt, Act, Update, Abandon, Moved, Network, edge, linked, without_edge, present, State, Registers, IsState, opening_with, is_at, pointer, pointer_of, flag_of, with_pointer, with_flag, married, after_link, after_unlink, after_point, after_flag, after_join, after_leave, without_pointer, without_name, unless_at, written, after_move, after_moves, IsMoveIn}
use Rattle.machine_laws.proofs.Edges.{edgeless_is_network, with_node_is_network, without_node_is_network, still_present, present_other, still_without, with_edge_is_network, without_edge_is_network, still_inserted, still_removed, edge_ends}
use Rattle.machine_laws.proofs.Writes.{if_some_from, if_some_at, cleared, is_at_from_some, pointer-with_pointer_other, pointer_cases, flag_cases, without_pointer_was, without_pointer_gone, without_pointer_flags, without_pointer_len}

abbrev nowhere : Option ℕ
nowhere = None

blank : {X : Type 0} (n v : ℕ) (d : X) → get_or (replicate n d) v d ≡ d
blank n v d = grind (arith, get_or-replicate, get_or_past, length-replicate, cases_lt)

pub blank_flag : (n v : ℕ) → get_or (replicate n false) v false ≡ false
blank_flag n v = blank n v false

pub opening_is_state : (size count : ℕ) → IsState (opening_with size count)
opening_is_state size count = record {
  is_network = edgeless_is_network size count;
  pointers_len = length-replicate (size + 1) nowhere;
  flags_len = length-replicate (size + 1) false;
  neighbourly = λ v. if_some_from _ _ (λ x e. absurd (none-some x (sym (blank (size + 1) v nowhere) ∙ e)));
  flagged_present = λ v h. absurd (true≢false (sym h ∙ blank_flag (size + 1) v));
}

pub link_keeps : (s : State) (a b : ℕ) → IsState s → IsTrue (present s.network a) → IsTrue (present s.network b) → (a ≡ b → ⊥) → IsState (after_link s a b)
link_keeps s a b good has_a has_b apart = grind (arith, with_edge_is_network, if_some_from, still_inserted, if_some_at)

-- a pointer that is left was there, and does not cross the edge
pub unlinked_pointer : (s : State) (a b v x : ℕ) → pointer (after_unlink s a b) v ≡ Some x → (pointer s v ≡ Some x) × (v ≡ a → x ≡ b → ⊥) × (v ≡ b → x ≡ a → ⊥)
unlinked_pointer s a b v x e =
    let half = without_pointer s.registers a b in
    let mid = without_pointer_was half b a v x e in (
      without_pointer_was s.registers a b v x mid,
      λ va xb. without_pointer_gone s.registers a b (ap (pointer_of half) (sym va) ∙ mid ∙ ap Some xb),
      λ vb xa. without_pointer_gone half b a (ap (pointer (after_unlink s a b)) (sym vb) ∙ e ∙ ap Some xa),
    )

still_unlinked : (net : Network) (a b v x : ℕ) → (v ≡ a → x ≡ b → ⊥) → (v ≡ b → x ≡ a → ⊥) → IsTrue (linked net v x) → IsTrue (linked (without_edge net a b) v x)
still_unlinked net a b v x there back h =
    still_removed net.edges (edge a b) (edge v x) (λ same. ⊎_elim (λ p. there p.0 p.1) (λ p. back p.0 p.1) (edge_ends a b v x same)) h

pub unlink_keeps : (s : State) (a b : ℕ) → IsState s → IsState (after_unlink s a b)
unlink_keeps s a b good =
    let half = without_pointer s.registers a b in
    let flags = without_pointer_flags half b a ∙ without_pointer_flags s.registers a b in
    record {
      is_network = without_edge_is_network s.network a b good.is_network;
      pointers_len = without_pointer_len half b a ∙ without_pointer_len s.registers a b ∙ good.pointers_len;
      flags_len = ap length flags ∙ good.flags_len;
      neighbourly = λ v. if_some_from _ _ (λ x e.
          let left = unlinked_pointer s a b v x e in
          still_unlinked s.network a b v x left.1 left.2 (if_some_at _ (λ w. IsTrue (linked s.network v w)) x left.0 (good.neighbourly v)));
      flagged_present = λ v h. good.flagged_present v (ap (λ l. get_or l v false) (sym flags) ∙ h);
    }

pub join_keeps : (s : State) (v : ℕ) → 1 ≤ v → IsState s → IsState (after_join s v)
join_keeps s v low good = record {
  is_network = with_node_is_network s.network v low good.is_network;
  pointers_len = good.pointers_len;
  flags_len = good.flags_len;
  neighbourly = good.neighbourly;
  flagged_present = λ w h. still_present s.network v w good.is_network (good.flagged_present w h);
}

-- what stays of a pointer was there, and is not at the name
unless_at_some : (v : ℕ) (o : Option ℕ) (y : ℕ) → unless_at v o ≡ Some y → (o ≡ Some y) × (is_at o v ≡ false)
unless_at_some v o y e = grind arith

-- a pointer that is left is another node's and was there, at another node
pub left_pointer : (r : Registers) (v x y : ℕ) → pointer_of (without_name r v) x ≡ Some y → (x ≡ v → ⊥) × (y ≡ v → ⊥) × (pointer_of r x ≡ Some y)
left_pointer r v x y e =
    let kept : Registers = record r { pointers = map (unless_at v) r.pointers } in
    let apart : x ≡ v → ⊥ = λ same. let k : nowhere ≡ Some y = sym (cleared kept.pointers v None) ∙ ap (λ z. get_or (set kept.pointers v None) z nowhere) (sym same) ∙ e in cc in
    let old = sym (pointer-with_pointer_other kept v None x apart) ∙ e in
    let was = unless_at_some v (pointer_of r x) y (sym (get_or-map (unless_at v) r.pointers x nowhere) ∙ old) in
    (apart, (λ same. true≢false (sym (is_at_from_some (pointer_of r x) v (was.0 ∙ ap Some same)) ∙ was.1)), was.0)

pub flag_left : (r : Registers) (v w : ℕ) → IsTrue (flag_of (without_name r v) w) → (w ≡ v → ⊥) × IsTrue (flag_of r w)
flag_left r v w h = grind (arith, true≢false, get_or-set_other, get_or-set_same, get_or_past, length-set, cases_lt)

pub leave_keeps : (s : State) (v : ℕ) → IsState s → IsState (after_leave s v)
leave_keeps s v good = grind (arith, without_node_is_network, length-set, length-map, if_some_from, left_pointer, still_without, if_some_at, flag_left, present_other)

-- the registers and the network together are a valid state
pub record AreRegistersOf (net : Network) (r : Registers) : Type 0 where
  pub pointers_len : length r.pointers ≡ net.size + 1
  pub flags_len : length r.flags ≡ net.size + 1
  pub neighbourly : (v x : ℕ) → pointer_of r v ≡ Some x → IsTrue (linked net v x)
  pub flagged_present : (v : ℕ) → IsTrue (flag_of r v) → IsTrue (present net v)

pub fit_from_state : (s : State) → IsState s → AreRegistersOf s.network s.registers
fit_from_state s good = grind (arith, if_some_at)

pub state_from_fit : (s : State) (r : Registers) → IsState s → AreRegistersOf s.network r → IsState (record s { registers = r })
state_from_fit s r good fit = grind (arith, if_some_from)

pub with_pointer_fits : (net : Network) (r : Registers) (v : ℕ) (target : Option ℕ) → AreRegistersOf net r → ((x : ℕ) → target ≡ Some x → IsTrue (linked net v x)) → AreRegistersOf net (with_pointer r v target)
with_pointer_fits net r v target fit near = grind (arith, length-set, pointer_cases)

pub with_flag_fits : (net : Network) (r : Registers) (v : ℕ) (value : Bool) → AreRegistersOf net r → IsTrue (present net v) → AreRegistersOf net (with_flag r v value)
with_flag_fits net r v value fit has = grind (arith, length-set, flag_cases)

pub point_keeps : (s : State) (v : ℕ) (target : Option ℕ) → IsState s → ((x : ℕ) → target ≡ Some x → IsTrue (linked s.network v x)) → IsState (after_point s v target)
point_keeps s v target good near = state_from_fit s _ good (with_pointer_fits s.network s.registers v target (fit_from_state s good) near)

pub flag_keeps : (s : State) (v : ℕ) (value : Bool) → IsState s → IsTrue (present s.network v) → IsState (after_flag s v value)
flag_keeps s v value good has = state_from_fit s _ good (with_flag_fits s.network s.registers v value (fit_from_state s good) has)

written_fits : (before : State) (r : Registers) (v : ℕ) (act : Act) (target : Option ℕ) → AreRegistersOf before.network r → IsTrue (present before.network v) → ((x : ℕ) → target ≡ Some x → IsTrue (linked before.network v x)) → AreRegistersOf before.network (written before r v act target)
written_fits before r v Update target fit has near = with_flag_fits before.network r v (married before v) fit has
written_fits before r v Abandon target fit has near = with_pointer_fits before.network r v None fit (λ x e. absurd cc)
written_fits before r v act target fit has near = with_pointer_fits before.network r v target fit near

moves_fit : (before : State) (r : Registers) (moves : List Moved) → AreRegistersOf before.network r → AllByRecursion (IsMoveIn before.network) moves → AreRegistersOf before.network (fold (after_move before) r moves)
moves_fit before r [] fit all = fit
moves_fit before r (m ∷ moves) fit all = moves_fit before (after_move before r m) moves (written_fits before r m.node m.act m.target fit all.0.has all.0.near) all.1

pub moves_keep : (s : State) (moves : List Moved) → IsState s → AllByRecursion (IsMoveIn s.network) moves → IsState (after_moves s moves)
moves_keep s moves good all = state_from_fit s _ good (moves_fit s s.registers moves (fit_from_state s good) all)
