-- What a change leaves as it is at nodes that are not near it.
use Rattle.judged_rounds.proofs.Prelude.{◌≡◌, ◌≢◌, ℕ, false, ◌&&◌, List, [], ◌∷◌, map, fold, min, max, nat_eq, Option, None, IsTrue, refl, sym, ap, ◌∙◌, ⊎_elim, arith, and_from, or_right, or_parts, cases_eq, cases_lt, true≢false, false_from_ne_true, eq-eqb, ne_eqb, filter_agree, linked_back, linked_present, neighbours_range, contains-without, pointer-with_pointer_other, flag-with_flag_other, Network, IsNetwork, edge, linked, neighbours, present, without_node, State, IsState, Registers, pointer_of, flag_of, is_at, Moved, Act, Update, Marry, Seduce, Abandon, written, after_move, is_mover_in, unless_at, IsNear, is_near}
use Rattle.std.proofs.Math.ListN.{get_or-map}
use Rattle.std.specs.FinMap as finmap
use Rattle.rule_machine.specs.Disturbance.{without_name}

pub not_it : (v u : ℕ) → nat_eq u v ≡ false → u ≢ v
not_it v u apart same = true≢false (sym (eq-eqb u v same) ∙ apart)

-- a node that is not near v is not linked with v
pub not_linked : (s : State) (v u : ℕ) → IsState s → is_near s v u ≡ false → linked s.network v u ≡ false
not_linked s v u good far =
    false_from_ne_true (linked s.network v u) (λ link.
    true≢false (sym (or_right (nat_eq u v) (present s.network v && linked s.network v u)
    (and_from (present s.network v) (linked s.network v u) (linked_present s.network v u good.is_network link) link)) ∙ far))

-- nor is v near it
pub far_names : (s : State) (v u w : ℕ) → IsState s → is_near s v u ≡ false → IsNear s u w → w ≢ v
far_names s v u w good far near =
    let parts = or_parts (nat_eq u v) (present s.network v && linked s.network v u) far in
    ⊎_elim
    (λ (at : w ≡ u) same. not_it v u parts.0 (sym at ∙ same))
    (λ link same. true≢false (sym (linked_back s.network v u ∙ ap (linked s.network u) (sym same) ∙ link) ∙ not_linked s v u good far)) near

-- ---- moves

unwritten : (before : State) (r : Registers) (m : Moved) (v : ℕ) → v ≢ m.node → (pointer_of (after_move before r m) v ≡ pointer_of r v) × (flag_of (after_move before r m) v ≡ flag_of r v)
unwritten before r m v other = by m.act
  where
    by : (act : Act) → (pointer_of (written before r m.node act m.target) v ≡ pointer_of r v) × (flag_of (written before r m.node act m.target) v ≡ flag_of r v)
    by Update = (refl, flag-with_flag_other r m.node _ v other)
    by Marry = (pointer-with_pointer_other r m.node _ v other, refl)
    by Seduce = (pointer-with_pointer_other r m.node _ v other, refl)
    by Abandon = (pointer-with_pointer_other r m.node _ v other, refl)

pub unmoved : (before : State) (r : Registers) (moves : List Moved) (v : ℕ) → is_mover_in moves v ≡ false → (pointer_of (fold (after_move before) r moves) v ≡ pointer_of r v) × (flag_of (fold (after_move before) r moves) v ≡ flag_of r v)
unmoved before r [] v idle = (refl, refl)
unmoved before r (m ∷ moves) v idle =
    let parts = or_parts (nat_eq m.node v) (is_mover_in moves v) idle in
    let rest = unmoved before (after_move before r m) moves v parts.1 in
    let first = unwritten before r m v (λ same. true≢false (sym (eq-eqb m.node v (sym same)) ∙ parts.0)) in
    (rest.0 ∙ first.0, rest.1 ∙ first.1)

-- ---- a node that leaves

-- the edges of two other names stay
edge_left : (net : Network) (v a b : ℕ) → a ≢ v → b ≢ v → linked (without_node net v) a b ≡ linked net a b
edge_left net v a b not_a not_b = grind (arith, contains-without, min, max, cases_lt, ne_eqb)

pub link_left : (net : Network) (v u w : ℕ) → u ≢ v → linked net u v ≡ false → linked net u w ≡ linked (without_node net v) u w
link_left net v u w apart none =
    ⊎_elim
    (λ (same : w ≡ v).
    ap (linked net u) same ∙ none
    ∙ sym (false_from_ne_true (linked (without_node net v) u w) (λ link. true≢false (sym (still (edge u w) link) ∙ ap (linked net u) same ∙ none))))
    (λ (other : w ≢ v). sym (edge_left net v u w apart other))
    (cases_eq w v)
  where
    still : (q : ℕ × ℕ) → IsTrue (finmap.contains_key (without_node net v).edges q) → IsTrue (finmap.contains_key net.edges q)
    still q link = let e = contains-without net.edges v q in grind arith

pub near_left : (net : Network) (v u : ℕ) → IsNetwork net → IsNetwork (without_node net v) → u ≢ v → linked net u v ≡ false → neighbours net u ≡ neighbours (without_node net v) u
near_left net v u good good' apart none =
    neighbours_range net u good
    ∙ filter_agree (linked net u) (linked (without_node net v) u) (λ w. link_left net v u w apart none) _
    ∙ sym (neighbours_range (without_node net v) u good')

unless_other : (v : ℕ) (o : Option ℕ) → is_at o v ≡ false → unless_at v o ≡ o
unless_other v o away = grind arith

abbrev nowhere : Option ℕ
nowhere = None

pub pointer_left : (r : Registers) (v x : ℕ) → x ≢ v → is_at (pointer_of r x) v ≡ false → pointer_of (without_name r v) x ≡ pointer_of r x
pointer_left r v x apart away =
    let kept : Registers = record r { pointers = map (unless_at v) r.pointers } in
    pointer-with_pointer_other kept v None x apart ∙ get_or-map (unless_at v) r.pointers x nowhere ∙ unless_other v (pointer_of r x) away
