-- The steps by which a node leaves: its edges are removed one at a time, then its flag is cleared, then its
-- name is freed.
use Rattle.machine_laws.proofs.ChargePrelude.Imports.{◌≡◌, ◌≢◌, ℕ, ◌-◌, ◌<◌, true, false, cond, List, [], length, map as map_list, get_or, min, max, set, find, IsTrue, refl, sym, ap, ◌∙◌, subst, ⊎_elim, arith, cases_eq, false_from_ne_true, true≢false, get_or-set_other, get_or-map, ext_get_or, length-set, length-map, set-set, tells_apart, Option, None, Some, Network, PairSet, IsNetwork, linked, neighbours, edge, edge_count, without_edge, without_node, State, Registers, IsState, is_at, is_end, pointer, pointer_of, flag_of, with_flag, after_unlink, after_flag, after_leave, without_pointer, without_name, unless_at}
use Rattle.std.specs.FinMap as map
use Rattle.machine_laws.proofs.Edges.{pair_total, pair_exact, contains-empty, contains-remove, contains-without, present_other, without_node_is_network}
use Rattle.machine_laws.proofs.Neighbours.{near_none, linked_back, linked_pair}
use Rattle.machine_laws.proofs.Pointers.{pointer_linked}
use Rattle.machine_laws.proofs.Writes.{cleared, without_pointer_was, without_pointer_flags, without_pointer_len}
use Rattle.machine_laws.proofs.Leaves.{after_parting, without_pointer_stays, unit_some, nothing_left}

-- a node without neighbours is linked to none
pub no_edge : (net : Network) (v : ℕ) → IsNetwork net → neighbours net v ≡ [] → (w : ℕ) → linked net v w ≡ false
no_edge net v good none w =
    false_from_ne_true (linked net v w) (λ h. true≢false (near_none net (λ x. true) v good (ap (find (λ x. true)) none) w h))

-- a set of edges is the set of those with the same test
same_edges : (m n : PairSet) → ((q : ℕ × ℕ) → map.contains_key m q ≡ map.contains_key n q) → m ≡ n
same_edges m n same = map.same_map pair_total pair_exact m n (λ q. unit_some _ _ (same q))

-- the pointers after v leaves, if they are null at v, and elsewhere what was there unless it was at v
left_pointers : (r : Registers) (v : ℕ) (ps : List (Option ℕ)) → length ps ≡ length r.pointers → get_or ps v None ≡ None → ((x : ℕ) → x ≢ v → unless_at v (pointer_of r x) ≡ get_or ps x None) → (without_name r v).pointers ≡ ps
left_pointers r v ps len null others =
    ext_get_or None _ _ (length-set (map_list (unless_at v) r.pointers) v None ∙ length-map r.pointers (unless_at v) ∙ sym len)
    (λ x inside. ⊎_elim
    (λ same. ap (λ z. get_or (without_name r v).pointers z None) same ∙ cleared (map_list (unless_at v) r.pointers) v None ∙ sym (ap (λ z. get_or ps z None) same ∙ null))
    (λ apart. get_or-set_other (map_list (unless_at v) r.pointers) v x None None apart ∙ get_or-map (unless_at v) r.pointers x None ∙ others x apart)
    (cases_eq x v))

-- a node that leaves after one of its edges is removed leaves the same state
pub leave_after_unlink : (s : State) (v w : ℕ) → IsState s → after_leave (after_unlink s v w) v ≡ after_leave s v
leave_after_unlink s v w good = λ i. record {
  network = record { size = s.network.size; here = set s.network.here v false; edges = same_edges _ _ edges i };
  registers = record { pointers = pointers i; flags = set (flags i) v false };
}
  where
    u : State
    u = after_unlink s v w

    flags : u.registers.flags ≡ s.registers.flags
    flags = without_pointer_flags (without_pointer s.registers v w) w v ∙ without_pointer_flags s.registers v w

    edges : (q : ℕ × ℕ) → map.contains_key (without_node u.network v).edges q ≡ map.contains_key (without_node s.network v).edges q
    edges q = grind (arith, contains-without, contains-remove, tells_apart, min, max)

    same_left : (v : ℕ) (o q : Option ℕ) → ((y : ℕ) → q ≡ Some y → o ≡ Some y) → (is_at o v ≡ false → q ≡ o) → unless_at v q ≡ unless_at v o
    same_left v o q was stays = grind arith

    others : (x : ℕ) → x ≢ v → unless_at v (pointer u x) ≡ get_or (without_name s.registers v).pointers x None
    others x apart =
        let half = without_pointer s.registers v w in
        let one = without_pointer_stays s.registers v w x (λ same. absurd (apart same)) in
        same_left v (pointer s x) (pointer u x) (λ y e. without_pointer_was s.registers v w x y (without_pointer_was half w v x y e)) (λ away. without_pointer_stays half w v x (λ same. ap (λ o. is_at o v) one ∙ away) ∙ one)
        ∙ sym (get_or-set_other (map_list (unless_at v) s.registers.pointers) v x None None apart ∙ get_or-map (unless_at v) s.registers.pointers x None)

    pointers : (without_name u.registers v).pointers ≡ (without_name s.registers v).pointers
    pointers = left_pointers u.registers v (without_name s.registers v).pointers (length-set (map_list (unless_at v) s.registers.pointers) v None ∙ length-map s.registers.pointers (unless_at v) ∙ sym (without_pointer_len (without_pointer s.registers v w) w v ∙ without_pointer_len s.registers v w)) (cleared _ v None) others

-- a node without an edge leaves by the last step alone
part_leaves : (s : State) (v : ℕ) → IsState s → neighbours s.network v ≡ [] → after_leave s v ≡ after_parting s v
part_leaves s v good none = λ i. record {
  network = record { size = s.network.size; here = set s.network.here v false; edges = same_edges _ _ edges i };
  registers = record { pointers = left_pointers s.registers v s.registers.pointers refl (nothing_left _ from) others i; flags = set s.registers.flags v false };
}
  where
    apart : (w : ℕ) → linked s.network v w ≡ false
    apart w = no_edge s.network v good.is_network none w

    at_end : (a b : ℕ) → a < b → IsTrue (map.contains_key s.network.edges (a, b)) → is_end v (a, b) ≡ true → ⊥
    at_end a b up h ends = grind (arith, apart a, apart b, linked_pair s.network a b up, linked_back s.network a b)

    edges : (q : ℕ × ℕ) → map.contains_key (without_node s.network v).edges q ≡ map.contains_key s.network.edges q
    edges q = grind (arith, contains-without, at_end q.0 q.1, good.is_network.low_first q.0 q.1)

    from : (y : ℕ) → pointer s v ≡ Some y → ⊥
    from y e = grind (arith, pointer_linked, apart)

    others : (x : ℕ) → x ≢ v → unless_at v (pointer s x) ≡ pointer s x
    others x other = grind (arith, pointer_linked, apart, linked_back)

-- a node without an edge leaves by clearing its flag and then freeing its name
pub lowered_leaves : (s : State) (v : ℕ) → IsState (after_flag s v false) → neighbours s.network v ≡ [] → after_parting s v ≡ after_leave s v
lowered_leaves s v good none =
    let net : Network = record s.network { here = set s.network.here v false } in
    let once = set-set s.registers.flags v false false in
    ap (λ flags. record { network = net; registers = record { pointers = s.registers.pointers; flags = flags } }) (sym once)
    ∙ sym (part_leaves (after_flag s v false) v good none)
    ∙ ap (λ flags. record { network = without_node s.network v; registers = record { pointers = (without_name s.registers v).pointers; flags = flags } }) once

pub lowered : (r : Registers) (v : ℕ) → flag_of (with_flag r v false) v ≡ false
lowered r v = cleared r.flags v false

-- a state whose node without an edge and with its flag false is absent then
pub parted_is_state : (net : Network) (r : Registers) (v : ℕ) → IsState (record { network = net; registers = r }) → neighbours net v ≡ [] → flag_of r v ≡ false → IsState (record { network = record net { here = set net.here v false }; registers = r })
parted_is_state net r v good none unflagged = record {
  is_network = subst IsNetwork (ap (λ (s : State). s.network) (part_leaves (record { network = net; registers = r }) v good none)) (without_node_is_network net v good.is_network);
  pointers_len = good.pointers_len;
  flags_len = good.flags_len;
  neighbourly = good.neighbourly;
  flagged_present = λ w h.
      let apart : w ≢ v = λ same. true≢false (sym h ∙ ap (flag_of r) same ∙ unflagged) in
      present_other net v false w apart ∙ good.flagged_present w h;
}

-- after an edge is removed there are fewer edges
pub fewer_edges : (net : Network) (a b : ℕ) → IsTrue (linked net a b) → edge_count (without_edge net a b) < edge_count net
fewer_edges net a b there =
    let less = map.len-remove pair_total net.edges (edge a b) ∙ ap (λ t. cond t (edge_count net - 1) (edge_count net)) there in
    ⊎_elim
    (λ none. absurd (true≢false (sym there ∙ ap (λ m. map.contains_key m (edge a b)) (map.empty_of_len net.edges none) ∙ contains-empty (edge a b))))
    (λ some. omega (arith, less, some))
    (cases_eq (edge_count net) 0)
