-- Which fault a call has, and the row that a call reads.
use Rattle.graph_store.proofs.Prelude.{◌≡◌, ◌≢◌, ℕ, ◌<◌, ◌≤◌, Bool, true, false, cond, not, ◌&&◌, List, length, None, Some, eqb, sym, ap, ◌∙◌, arith, nat_le, leb-false, true≢false, Network, present, linked, edge, edge_count, max_edges, UnknownNode, SelfLoop, AlreadyLinked, NotLinked, TooManyEdges, ends_fault, link_fault, unlink_fault, row_at, has, network_of, IsRows, IsPlaceOf, present_range, linked_back}
use Rattle.graph_store.proofs.PairOrder.{count-some}
use Rattle.graph_store.proofs.AscendingLists.{there_at_place}
use Rattle.graph_store.proofs.Store.{linked_by, linked_present}

-- two names that may be ends are nodes, and different
pub ends_known : (net : Network) (a b : ℕ) → ends_fault net a b ≡ None → (present net a ≡ true) × (present net b ≡ true) × (eqb a b ≡ false)
ends_known net a b h = grind arith

-- what is known of two names that an edge may join
pub record MayLink (net : Network) (a b : ℕ) : Type 0 where
  pub here_a : present net a ≡ true
  pub here_b : present net b ≡ true
  pub apart : eqb a b ≡ false
  pub fresh : linked net a b ≡ false
  pub few : edge_count net < max_edges

-- what is known if no test of an edge fails
good_edge : (p q e l m : Bool) → cond (not (p && q)) (Some UnknownNode) (cond e (Some SelfLoop) (cond l (Some AlreadyLinked) (cond m (Some TooManyEdges) None))) ≡ None → (p ≡ true) × (q ≡ true) × (e ≡ false) × (l ≡ false) × (m ≡ false)
good_edge p q e l m h = grind arith

-- two names that an edge may join are nodes, different and not linked, and there are not too many edges
pub may_link : (net : Network) (a b : ℕ) → link_fault net a b ≡ None → MayLink net a b
may_link net a b free =
    let known = good_edge (present net a) (present net b) (eqb a b) (linked net a b) (nat_le max_edges (edge_count net)) free in
    record {
      here_a = known.0;
      here_b = known.1;
      apart = known.2;
      fresh = known.3;
      few = leb-false max_edges (edge_count net) known.4;
    }

-- inserting an edge is possible or not, given that its ends are two nodes
pub link_fault_is : (net : Network) (a b : ℕ) (l m : Bool) → present net a ≡ true → present net b ≡ true → eqb a b ≡ false → linked net a b ≡ l → nat_le max_edges (edge_count net) ≡ m → link_fault net a b ≡ cond l (Some AlreadyLinked) (cond m (Some TooManyEdges) None)
link_fault_is net a b l m p q e is_l is_m =
    λ i. cond (not (p i && q i)) (Some UnknownNode) (cond (e i) (Some SelfLoop) (cond (is_l i) (Some AlreadyLinked) (cond (is_m i) (Some TooManyEdges) None)))

-- removing an edge is possible or not, given that its ends are two nodes
pub unlink_fault_is : (net : Network) (a b : ℕ) (l : Bool) → present net a ≡ true → present net b ≡ true → eqb a b ≡ false → linked net a b ≡ l → unlink_fault net a b ≡ cond l None (Some NotLinked)
unlink_fault_is net a b l p q e is_l =
    λ i. cond (not (p i && q i)) (Some UnknownNode) (cond (e i) (Some SelfLoop) (cond (is_l i) None (Some NotLinked)))

-- a node is one of a store's names
pub known : (size : ℕ) (roll : List Bool) (rows : List (List ℕ)) (net : Network) (v : ℕ) → network_of size roll rows ≡ net → present net v ≡ true → present (network_of size roll rows) v ≡ true
known size roll rows net v seen here =
    ap (λ n. present n v) seen ∙ here

-- a node has a row
pub has_row : (size : ℕ) (roll : List Bool) (rows : List (List ℕ)) (net : Network) (v : ℕ) → network_of size roll rows ≡ net → IsRows size roll rows → present net v ≡ true → v < length rows
has_row size roll rows net v seen good here =
    let bounds = present_range (network_of size roll rows) v (known size roll rows net v seen here) in
    let places = good.places in
    omega (arith, bounds.1, places)

-- two names are linked if one is found in the other's row
pub linked_at_place : (size : ℕ) (roll : List Bool) (rows : List (List ℕ)) (net : Network) (a b i : ℕ) (row : List ℕ) → network_of size roll rows ≡ net → IsRows size roll rows → row ≡ row_at rows a → IsPlaceOf row b i → linked net a b ≡ true
linked_at_place size roll rows net a b i row seen good is place =
    sym (linked_by size roll rows net a b seen good) ∙ ap (λ l. has l b) (sym is) ∙ there_at_place row b i place

-- what is known of two names that are linked
pub record AreJoined (net : Network) (a b : ℕ) : Type 0 where
  pub here : present net a ≡ true
  pub there : present net b ≡ true
  pub apart : a ≢ b
  pub back : linked net b a ≡ true

pub are_joined : (size : ℕ) (roll : List Bool) (rows : List (List ℕ)) (net : Network) (a b : ℕ) → network_of size roll rows ≡ net → IsRows size roll rows → linked net a b ≡ true → AreJoined net a b
are_joined size roll rows net a b seen good joined =
    let both = linked_present size roll rows a b good (ap (λ n. linked n a b) seen ∙ joined) in
    record {
      here = ap (λ n. present n a) (sym seen) ∙ both.0;
      there = ap (λ n. present n b) (sym seen) ∙ both.1;
      apart = λ same. true≢false (sym (linked_by size roll rows net a b seen good ∙ joined) ∙ ap (has (row_at rows a)) (sym same) ∙ good.apart a);
      back = linked_back net b a ∙ joined;
    }

-- if two names are linked there is an edge
pub some_edge : (net : Network) (a b : ℕ) → linked net a b ≡ true → 1 ≤ edge_count net
some_edge net a b there = count-some net.edges (edge a b) there
