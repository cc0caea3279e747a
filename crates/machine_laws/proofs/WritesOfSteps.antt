-- The registers of each node after the moves of a step.
use Rattle.machine_laws.proofs.ChargePrelude.{◌≡◌, ℕ, ◌<◌, ◌≤◌, Bool, true, false, List, [], ◌∷◌, length, map, fold, count_by, Option, None, IsTrue, nat_eq, refl, sym, ap, ◌∙◌, subst, inl, inr, ◌⊎◌, arith, AllByRecursion, list_any, cases_eq, or_from, ne_eqb, length-map, length-set, Act, Update, Abandon, Moved, State, Registers, pointer_of, flag_of, married, written, after_move, pointer-with_pointer_other, pointer-with_pointer_same, flag-with_flag_other, flag-with_flag_same}
use Rattle.machine_laws.proofs.ListCounts.{IsIn, IsWithoutRepeats, count_within, count_all}

-- the pointer of a node after its move, and the flag after its move
abbrev pub pointer_after_act : Act → Option ℕ → Option ℕ → Option ℕ
pointer_after_act Update target old = old
pointer_after_act Abandon target old = None
pointer_after_act act target old = target

abbrev pub flag_by : Act → Bool → Bool → Bool
flag_by Update married old = married
flag_by act married old = old

write_here : (before : State) (r : Registers) (v : ℕ) (act : Act) (target : Option ℕ) → v < length r.pointers → v < length r.flags → (pointer_of (written before r v act target) v ≡ pointer_after_act act target (pointer_of r v)) × (flag_of (written before r v act target) v ≡ flag_by act (married before v) (flag_of r v))
write_here before r v act target below within = grind (arith, pointer-with_pointer_same, flag-with_flag_same)

write_elsewhere : (before : State) (r : Registers) (v : ℕ) (act : Act) (target : Option ℕ) (w : ℕ) → (w ≡ v → ⊥) → (pointer_of (written before r v act target) w ≡ pointer_of r w) × (flag_of (written before r v act target) w ≡ flag_of r w)
write_elsewhere before r v act target w apart = grind (arith, pointer-with_pointer_other, flag-with_flag_other)

write_keeps : (before : State) (r : Registers) (v : ℕ) (act : Act) (target : Option ℕ) → (length (written before r v act target).pointers ≡ length r.pointers) × (length (written before r v act target).flags ≡ length r.flags)
write_keeps before r v act target = grind (arith, length-set)

-- whether one of the moves is v's
abbrev pub is_mover_in : List Moved → ℕ → Bool
is_mover_in moves v = list_any (λ m. nat_eq m.node v) moves

-- v's registers after the moves: as before if v does not move, else as v's move writes them
pub data NodeAfterMoves (before : State) (r r' : Registers) (moves : List Moved) (v : ℕ) : Type 0 where
  still : is_mover_in moves v ≡ false → pointer_of r' v ≡ pointer_of r v → flag_of r' v ≡ flag_of r v → NodeAfterMoves before r r' moves v
  moved : (m : Moved) → IsIn m moves → m.node ≡ v → pointer_of r' v ≡ pointer_after_act m.act m.target (pointer_of r v) → flag_of r' v ≡ flag_by m.act (married before v) (flag_of r v) → NodeAfterMoves before r r' moves v

pub in_nodes : (moves : List Moved) (m : Moved) → IsIn m moves → IsIn m.node (map (λ m. m.node) moves)
in_nodes [] m h = absurd h
in_nodes (x ∷ moves) m at = grind (arith, in_nodes moves m)

-- One move after another: each is of another node, so a later one leaves what an earlier one wrote.
pub moves_leave : (before : State) (r : Registers) (moves : List Moved) (n v : ℕ) → length r.pointers ≡ n → length r.flags ≡ n → AllByRecursion (λ m. m.node < n) moves → IsWithoutRepeats (map (λ m. m.node) moves) → NodeAfterMoves before r (fold (after_move before) r moves) moves v
moves_leave before r [] n v pointers flags within single = still refl refl refl
moves_leave before r (m ∷ moves) n v pointers flags within single =
    let kept = write_keeps before r m.node m.act m.target in
    join (cases_eq m.node v) (moves_leave before first moves n v (kept.0 ∙ pointers) (kept.1 ∙ flags) within.1 single.1)
  where
    first : Registers
    first = after_move before r m

    last : Registers
    last = fold (after_move before) r (m ∷ moves)

    join : (m.node ≡ v) ⊎ (m.node ≡ v → ⊥) → NodeAfterMoves before first last moves v → NodeAfterMoves before r last (m ∷ moves) v
    join (inl same) (still none e f) =
        let here = write_here before r m.node m.act m.target (omega (arith, within.0, pointers)) (omega (arith, within.0, flags)) in
        moved m (inl refl) same
        (e ∙ subst (λ x. pointer_of first x ≡ pointer_after_act m.act m.target (pointer_of r x)) same here.0)
        (f ∙ subst (λ x. flag_of first x ≡ flag_by m.act (married before x) (flag_of r x)) same here.1)
    join (inl same) (moved x there at e f) = absurd (single.0 (subst (λ y. IsIn y (map (λ m. m.node) moves)) (at ∙ sym same) (in_nodes moves x there)))
    join (inr apart) (still none e f) =
        let other = write_elsewhere before r m.node m.act m.target v (λ k. apart (sym k)) in
        still (or_from (nat_eq m.node v) (is_mover_in moves v) (ne_eqb m.node v apart) none) (e ∙ other.0) (f ∙ other.1)
    join (inr apart) (moved x there at e f) =
        let other = write_elsewhere before r m.node m.act m.target v (λ k. apart (sym k)) in
        moved x (inr there) at (e ∙ ap (pointer_after_act x.act x.target) other.0) (f ∙ ap (flag_by x.act (married before v)) other.1)

-- ---- how many moves there are

pub node_is_moved : (moves : List Moved) (v : ℕ) → IsIn v (map (λ m. m.node) moves) → IsTrue (is_mover_in moves v)
node_is_moved [] v h = absurd h
node_is_moved (m ∷ moves) v at = grind (arith, node_is_moved moves v)

-- there are at most as many moves as names that move
pub moves_counted : (moves : List Moved) (xs : List ℕ) → IsWithoutRepeats (map (λ m. m.node) moves) → ((v : ℕ) → IsIn v (map (λ m. m.node) moves) → IsIn v xs) → length moves ≤ count_by (is_mover_in moves) xs
moves_counted moves xs single within =
    let nodes = map (λ (m : Moved). m.node) moves in
    omega (arith, count_all nodes, length-map moves (λ (m : Moved). m.node), count_within (λ v. true) (is_mover_in moves) nodes xs single (λ v there h. (within v there, node_is_moved moves v there)))
