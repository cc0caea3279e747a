-- The complete network of n nodes, and the states in it that begin the longest runs.
use Rattle.dense_laws.proofs.Prelude.{◌≡◌, ℕ, zero, suc, ◌+◌, ◌*◌, ◌<◌, ◌≤◌, nat_eq, false, cond, replicate, Option, None, Some, IsTrue, refl, sym, ap, ◌∙◌, subst, ⊎_elim, arith, range_with_len, eq_by_cmp, and_from, or_left, cases_eq, cases_lt, true≢false, le-leb, eq-eqb, ne_eqb, eq_by_cmp_equiv, length-replicate, get_or_past, length-map-range_with_len, get_or-map-range_with_len, length-range_with_len, length-filter, count_by-le-length, none-some, same_Some, Network, IsNetwork, pair_cmp, edge, edgeless, linked, node_count, present, with_edge, State, IsState, pointer, opening, after_link, pair_total, contains-insert, still_inserted, edgeless_is_network, with_edge_is_network, blank_flag, opening_is_state, link_keeps, linked_back, present_range, if_some_from, sum_le, count_all, range_bounds, HasLongRun}
use Rattle.std.proofs.Common.{map as list_map}
use Rattle.std.specs.FinMap as map
use Rattle.dense_laws.proofs.Games.{IsLong, Long, long_game}
use Rattle.dense_laws.proofs.Schedule.{IsAt, IsComplete, IsCycle, from_cycle, from_null_two}

-- v is linked to 1 .. j
abbrev joined : Network → ℕ → ℕ → Network
joined net v zero = net
joined net v (suc j) = with_edge (joined net v j) (suc j) v

-- of n nodes each two of the first v are linked
abbrev pub up_to : ℕ → ℕ → Network
up_to n zero = edgeless n
up_to n (suc v) = joined (up_to n v) (suc v) v

joined_present : (net : Network) (v j u : ℕ) → present (joined net v j) u ≡ present net u
joined_present net v zero u = refl
joined_present net v (suc j) u = joined_present net v j u

joined_good : (net : Network) (v j : ℕ) → IsNetwork net → IsTrue (present net v) → ((i : ℕ) → 1 ≤ i → i ≤ j → IsTrue (present net i)) → j < v → IsNetwork (joined net v j)
joined_good net v zero good has all below = good
joined_good net v (suc j) good has all below =
    with_edge_is_network (joined net v j) (suc j) v
    (joined_good net v j good has (λ i low high. all i low (omega (arith, high))) (omega (arith, below)))
    (joined_present net v j (suc j) ∙ all (suc j) (omega arith) (omega arith))
    (joined_present net v j v ∙ has)
    (λ e. absurd (omega (arith, e, below)))

joined_old : (net : Network) (v j a b : ℕ) → IsTrue (linked net a b) → IsTrue (linked (joined net v j) a b)
joined_old net v zero a b h = h
joined_old net v (suc j) a b h = still_inserted (joined net v j).edges (edge (suc j) v) (edge a b) (joined_old net v j a b h)

joined_new : (net : Network) (v j i : ℕ) → 1 ≤ i → i ≤ j → IsTrue (linked (joined net v j) i v)
joined_new net v zero i low high = absurd (omega (arith, low, high))
joined_new net v (suc j) i low high =
    ⊎_elim
    (λ same. subst (λ x. IsTrue (linked (joined net v (suc j)) x v)) (sym same)
    (contains-insert (joined net v j).edges (edge (suc j) v) (edge (suc j) v) ∙ or_left (eq_by_cmp pair_cmp (edge (suc j) v) (edge (suc j) v)) (map.contains_key (joined net v j).edges (edge (suc j) v)) ((eq_by_cmp_equiv pair_total).refl (edge (suc j) v))))
    (λ apart. still_inserted (joined net v j).edges (edge (suc j) v) (edge i v) (joined_new net v j i low (omega (arith, high, apart))))
    (cases_eq i (suc j))

edgeless_has : (n v : ℕ) → 1 ≤ v → v ≤ n → IsTrue (present (edgeless n) v)
edgeless_has n v low high = grind (arith, and_from, le-leb, get_or-map-range_with_len)

up_to_present : (n v u : ℕ) → present (up_to n v) u ≡ present (edgeless n) u
up_to_present n zero u = refl
up_to_present n (suc v) u = joined_present (up_to n v) (suc v) v u ∙ up_to_present n v u

pub up_to_good : (n v : ℕ) → v ≤ n → IsNetwork (up_to n v)
up_to_good n zero le = edgeless_is_network n n
up_to_good n (suc v) le =
    joined_good (up_to n v) (suc v) v (up_to_good n v (omega (arith, le)))
    (up_to_present n v (suc v) ∙ edgeless_has n (suc v) (omega arith) le)
    (λ i low high. up_to_present n v i ∙ edgeless_has n i low (omega (arith, high, le)))
    (omega arith)

up_to_near : (n v a b : ℕ) → 1 ≤ a → a < b → b ≤ v → IsTrue (linked (up_to n v) a b)
up_to_near n zero a b low up high = absurd (omega (arith, up, high))
up_to_near n (suc v) a b low up high =
    ⊎_elim
    (λ same. subst (λ x. IsTrue (linked (up_to n (suc v)) a x)) (sym same) (joined_new (up_to n v) (suc v) v a low (omega (arith, up, same))))
    (λ apart. joined_old (up_to n v) (suc v) v a b (up_to_near n v a b low up (omega (arith, high, apart))))
    (cases_eq b (suc v))

pub up_to_is_complete : (n : ℕ) → IsComplete (up_to n n) n
up_to_is_complete n = record {
  has = λ v low high. up_to_present n n v ∙ edgeless_has n v low high;
  within = λ v h. (present_range (edgeless n) v (sym (up_to_present n n v) ∙ h)).1;
  near = λ v w low high low_too high_too apart. ⊎_elim
      (λ (up : v < w). up_to_near n n v w low up high_too)
      (λ (down : w ≤ v). linked_back (up_to n n) v w ∙ up_to_near n n w v low_too (omega (arith, down, apart)) high)
      (cases_lt v w);
}

-- all n are there
pub complete_count : (net : Network) (n : ℕ) → net.size ≡ n → IsComplete net n → node_count net ≡ n
complete_count net n size complete = grind (arith, length-filter, count_by-le-length, count_all, sum_le, range_bounds, length-range_with_len)

-- ---- the cycle

pub next_of : ℕ → ℕ → Option ℕ
next_of n v = cond (nat_eq v 0) None (cond (nat_eq v n) (Some 1) (Some (v + 1)))

abbrev pub cycle : ℕ → State
cycle n = record {
  network = up_to n n;
  registers = record { pointers = list_map (next_of n) (range_with_len 0 (n + 1)); flags = replicate (n + 1) false };
}

pub up_to_size : (n v : ℕ) → (up_to n v).size ≡ n
up_to_size n zero = refl
up_to_size n (suc v) = same (up_to n v) (suc v) v ∙ up_to_size n v
  where
    same : (net : Network) (v j : ℕ) → (joined net v j).size ≡ net.size
    same net v zero = refl
    same net v (suc j) = same net v j

cycle_within : (n v : ℕ) → v ≤ n → pointer (cycle n) v ≡ next_of n v
cycle_within n v le = get_or-map-range_with_len (next_of n) 0 (n + 1) v v None (omega (arith, le)) (omega arith)

cycle_past : (n v : ℕ) → n < v → pointer (cycle n) v ≡ None
cycle_past n v past = get_or_past (list_map (next_of n) (range_with_len 0 (n + 1))) v None (let len = length-map-range_with_len (next_of n) 0 (n + 1) in omega (arith, len, past))

pub cycle_last : (n : ℕ) → 1 ≤ n → pointer (cycle n) n ≡ Some 1
unfolding next_of
cycle_last n some =
    cycle_within n n (omega arith)
    ∙ ap (λ b. cond b None (cond (nat_eq n n) (Some 1) (Some (n + 1)))) (ne_eqb n 0 (λ e. absurd (omega (arith, e, some))))
    ∙ ap (λ b. cond b (Some 1) (Some (n + 1))) (eq-eqb n n refl)

pub cycle_rest : (n v : ℕ) → 1 ≤ v → v < n → pointer (cycle n) v ≡ Some (v + 1)
unfolding next_of
cycle_rest n v low high =
    cycle_within n v (omega (arith, high))
    ∙ ap (λ b. cond b None (cond (nat_eq v n) (Some 1) (Some (v + 1)))) (ne_eqb v 0 (λ e. absurd (omega (arith, e, low))))
    ∙ ap (λ b. cond b (Some 1) (Some (v + 1))) (ne_eqb v n (λ e. absurd (omega (arith, e, high))))

cycle_zero : (n : ℕ) → pointer (cycle n) 0 ≡ None
unfolding next_of
cycle_zero n = cycle_within n 0 (omega arith)

cycle_near : (n : ℕ) → 2 ≤ n → (v w : ℕ) → pointer (cycle n) v ≡ Some w → IsTrue (linked (up_to n n) v w)
cycle_near n two v w at =
    ⊎_elim
    (λ (none : v < 1). absurd (none-some w (sym (ap (pointer (cycle n)) (let is : v ≡ 0 = omega (arith, none) in is) ∙ cycle_zero n) ∙ at)))
    (λ (low : 1 ≤ v). ⊎_elim
    (λ (inner : v < n). subst (λ x. IsTrue (linked (up_to n n) v x)) (same_Some (v + 1) w (sym (cycle_rest n v low inner) ∙ at)) (near v (v + 1) low (omega (arith, inner)) (omega arith) (omega (arith, inner)) (λ e. absurd (omega (arith, e)))))
    (λ (outer : n ≤ v). ⊎_elim
    (λ same. subst (λ x. IsTrue (linked (up_to n n) v x)) (same_Some 1 w (sym (ap (pointer (cycle n)) same ∙ cycle_last n (omega (arith, two))) ∙ at)) (near v 1 low (omega (arith, same)) (omega arith) (omega (arith, two)) (λ e. absurd (omega (arith, e, same, two)))))
    (λ apart. absurd (none-some w (sym (cycle_past n v (omega (arith, outer, apart))) ∙ at)))
    (cases_eq v n))
    (cases_lt v n))
    (cases_lt v 1)
  where
    near : (v w : ℕ) → 1 ≤ v → v ≤ n → 1 ≤ w → w ≤ n → (v ≡ w → ⊥) → IsTrue (linked (up_to n n) v w)
    near = (up_to_is_complete n).near

pub cycle_is_state : (n : ℕ) → 2 ≤ n → IsState (cycle n)
cycle_is_state n two = record {
  is_network = up_to_good n n (omega arith);
  pointers_len = let len = length-map-range_with_len (next_of n) 0 (n + 1) in let size = up_to_size n n in omega (arith, len, size);
  flags_len = let len = length-replicate (n + 1) false in let size = up_to_size n n in omega (arith, len, size);
  neighbourly = λ v. if_some_from (pointer (cycle n) v) (λ w. IsTrue (linked (up_to n n) v w)) (λ w at. cycle_near n two v w at);
  flagged_present = λ v h. absurd (true≢false (sym h ∙ blank_flag (n + 1) v));
}

pub cycle_is_cycle : (n : ℕ) → 2 ≤ n → IsAt n (λ p f. IsCycle n p) (cycle n)
cycle_is_cycle n two = record {
  good = cycle_is_state n two;
  complete = up_to_is_complete n;
  shape = record { last = cycle_last n (omega (arith, two)); rest = cycle_rest n };
}

-- ---- the bound is reached

reached_from : (n : ℕ) (s : State) (q : ℕ) → IsState s → node_count s.network ≡ n → n * n + 2 * n ≤ q + 4 → IsLong 0 s q → HasLongRun n
reached_from n s q good nodes many long = record {
  start = record { state = s; spent = 0 };
  is_state = good;
  nodes = nodes;
  log = long.log;
  last = long.last;
  run = long.run;
  calm = long.calm;
  enough = let enough = long.enough in omega (arith, enough, many);
}

by_cycle : (k : ℕ) → HasLongRun (k + 3)
by_cycle k =
    reached_from (k + 3) (cycle (k + 3)) (k * k + 8 * k + 11) (cycle_is_state (k + 3) (omega arith))
    (complete_count (up_to (k + 3) (k + 3)) (k + 3) (up_to_size (k + 3) (k + 3)) (up_to_is_complete (k + 3)))
    (omega arith)
    (from_cycle Long long_game k 0 (cycle (k + 3)) (cycle_is_cycle (k + 3) (omega arith)))

by_two : HasLongRun 2
by_two =
    reached_from 2 (after_link (opening 2) 1 2) 4 good
    (complete_count (up_to 2 2) 2 refl (up_to_is_complete 2))
    (omega arith)
    (from_null_two Long long_game 0 (after_link (opening 2) 1 2) good (up_to_is_complete 2) refl refl)
  where
    good : IsState (after_link (opening 2) 1 2)
    good = link_keeps (opening 2) 1 2 (opening_is_state 2 2) (edgeless_has 2 1 (omega arith) (omega arith)) (edgeless_has 2 2 (omega arith) (omega arith)) (λ e. absurd (omega (arith, e)))

pub bound_is_reached : (n : ℕ) → 2 ≤ n → HasLongRun n
bound_is_reached zero two = absurd (omega (arith, two))
bound_is_reached (suc zero) two = absurd (omega (arith, two))
bound_is_reached (suc (suc zero)) two = by_two
bound_is_reached (suc (suc (suc k))) two = subst HasLongRun (let is : k + 3 ≡ suc (suc (suc k)) = omega arith in is) (by_cycle k)
