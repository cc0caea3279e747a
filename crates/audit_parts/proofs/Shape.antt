-- A transcript may begin with the base of any state that a run has reached.
use Rattle.audit_parts.proofs.Prelude.{◌≡◌, ℕ, zero, suc, ◌+◌, ◌*◌, ◌<◌, ◌≤◌, Bool, true, false, cond, not, T, List, [], ◌∷◌, filter, map, Option, None, Some, IfSome, IsTrue, nat_eq, nat_le, refl, sym, subst, ◌∙◌, ◌-◌, inl, inr, arith, AllByRecursion, range_with_len, ranked, is_sorted, below_all, is_lt, nat_cmp, ordering_then, Ordering, Less, Equal, Greater, and_parts, leb-false, length-map, count_by-le-length, length-filter, Event, Unlink, Point, Flag, Step, Show, Enabled, Matching, Status, Join, Leave, Refusal, UnknownNode, SelfLoop, AlreadyLinked, TooManyEdges, Reply, Accepted, Moves, Shown, EnabledAre, Pairs, Network, pair_cmp, edge, edge_count, edge_list, is_end, linked, names, node_count, present, State, IsState, pointer, RuleTable, both_present, max_edges, refusal_of, AnswersBy, Does, spent_after, base_of, node_record_at, Entry, Moment, Run, cond_none, left_was, pair_total, linked_back, linked_present, present_range, pointer_linked, IsIn, count_all, count_into, edges_without_repeats, edges_contain, edges_len, in_edges, IsName, EdgesRise, IsEdgeAbove, IsPlace, IsShaped, NodesRise}
use Rattle.std.proofs.lemmas.List.FromFn.{length-range_with_len}
use Rattle.std.specs.FinMap as finmap
use Rattle.rule_machine.specs.declared.event.Event.TheVariants.{Link}
use Rattle.rule_machine.specs.declared.reply.Reply.TheVariants.{Counts}
use Rattle.line_text.specs.ReplyText.{IsOrderedPair}

-- ---- no run has more edges than there may be

-- a node that goes takes edges alone
left_few : (net : Network) (p : ℕ × ℕ → Bool) → ((e : ℕ × ℕ) → IsTrue (finmap.contains_key (finmap.retain_keys net.edges p) e) → IsTrue (finmap.contains_key net.edges e)) → finmap.len (finmap.retain_keys net.edges p) ≤ edge_count net
left_few net p was =
    let less : Network = record net { edges = finmap.retain_keys net.edges p } in
    let fewer = count_into (λ e. true) (edge_list less) (λ e. e) (λ e. true) (edge_list net) (edges_without_repeats less) (record {
      lands = λ e there passes. in_edges net e (was e (edges_contain less e there));
      passes = λ e there passes. refl;
      apart = λ e f there also passes other same. same;
    }) in
    omega (arith, fewer, count_all (edge_list less), count_all (edge_list net), edges_len less, edges_len net)

one_more : (b : Bool) (n : ℕ) → cond b n (n + 1) ≤ n + 1
one_more true n = omega arith
one_more false n = omega arith

one_less : (b : Bool) (n : ℕ) → cond b (n - 1) n ≤ n
one_less true n = omega arith
one_less false n = omega arith

link_few : (net : Network) (a b : ℕ) → cond (not (both_present net a b)) (Some UnknownNode) (cond (nat_eq a b) (Some SelfLoop) (cond (linked net a b) (Some AlreadyLinked) (cond (nat_le max_edges (edge_count net)) (Some TooManyEdges) None))) ≡ None → edge_count net < max_edges
link_few net a b e =
    let first = (cond_none (not (both_present net a b)) UnknownNode _ e).1 in
    let second = (cond_none (nat_eq a b) SelfLoop _ first).1 in
    let third = (cond_none (linked net a b) AlreadyLinked _ second).1 in
    leb-false max_edges (edge_count net) (cond_none (nat_le max_edges (edge_count net)) TooManyEdges None third).0

abbrev AreFew : State → Type 0
AreFew s = edge_count s.network ≤ max_edges

does_few : (t : RuleTable) (s : State) (n : ℕ) (event : Event) (reply : Reply) (s' : State) → refusal_of t s event ≡ None → AreFew s → Does t s n event reply s' → AreFew s'
does_few t s n (Link a b) Accepted s' free few does =
    let one = one_more (finmap.contains_key s.network.edges (edge a b)) (edge_count s.network) in
    subst AreFew (sym does) (omega (arith, finmap.len-insert pair_total s.network.edges (edge a b) tt, one, link_few s.network a b free))
does_few t s n (Unlink a b) Accepted s' free few does =
    let one = one_less (finmap.contains_key s.network.edges (edge a b)) (edge_count s.network) in
    subst AreFew (sym does) (omega (arith, finmap.len-remove pair_total s.network.edges (edge a b), one, few))
does_few t s n (Point v target) Accepted s' free few does = subst AreFew (sym does) few
does_few t s n (Flag v value) Accepted s' free few does = subst AreFew (sym does) few
does_few t s n (Join v) Accepted s' free few does = subst AreFew (sym does) few
does_few t s n (Leave v) Accepted s' free few does =
    let less = left_few s.network (λ e. not (is_end v e)) (λ e there. (left_was s.network.edges v e.0 e.1 there).2) in
    subst AreFew (sym does) (omega (arith, less, few))
does_few t s n (Step items) (Moves moves) s' free few does = subst AreFew (sym does.after) few
does_few t s n (Show v) (Shown target) s' free few does = subst AreFew (sym does.1) few
does_few t s n Enabled (EnabledAre nodes) s' free few does = subst AreFew (sym does.1) few
does_few t s n Matching (Pairs pairs) s' free few does = subst AreFew (sym does.1) few
does_few t s n Status (Counts counts) s' free few does = subst AreFew (sym does.1) few
does_few t s n event reply s' free few does = absurd does

few_by : (t : RuleTable) (s : State) (n : ℕ) (event : Event) (r : Option Refusal) (reply : Reply) (s' : State) → refusal_of t s event ≡ r → AreFew s → AnswersBy t s n event r reply s' → AreFew s'
few_by t s n event None reply s' e few does = does_few t s n event reply s' e few does
few_by t s n event (Some refusal) reply s' e few does = subst AreFew (sym does.1) few

pub runs_few : (t : RuleTable) (start : Moment) (log : List Entry) (end : Moment) → edge_count start.state.network ≤ 1048576 → Run t start log end → edge_count end.state.network ≤ 1048576
runs_few t start [] end few run = subst (λ (m : Moment). AreFew m.state) (sym run) few
runs_few t start (entry ∷ log) end few (next, answers, run) =
    runs_few t (record { state = next; spent = spent_after start.spent entry.1 }) log end
    (few_by t start.state start.spent entry.0 (refusal_of t start.state entry.0) entry.1 next refl few answers) run

-- ---- its nodes rise

module _ (s : State) (good : IsState s) (size : ℕ) (same : s.network.size ≡ size) (small : size ≤ 65535) where
  name_is : (v : ℕ) → IsTrue (present s.network v) → IsName v
  name_is v has = let range = present_range s.network v has in (range.0, omega (arith, range.1, same, small))

  target_is : (v : ℕ) (o : Option ℕ) → pointer s v ≡ o → IfSome o IsName
  target_is v None e = tt
  target_is v (Some w) e = name_is w (linked_present s.network w v good.is_network (linked_back s.network w v ∙ pointer_linked s v w good e))

  record Listed (last : ℕ) (vs : List ℕ) : Type 0 where
    rise : NodesRise last (map (node_record_at s) vs)
    fit : AllByRecursion IsPlace (map (node_record_at s) vs)

  from_range : (n a last : ℕ) → last < a → Listed last (filter (present s.network) (range_with_len a n))
  from_range zero a last below = record { rise = tt; fit = tt }
  from_range (suc n) a last below =
      go (present s.network a) refl (from_range n (a + 1) a (omega arith)) (from_range n (a + 1) last (omega (arith, below)))
    where
      rest : List ℕ
      rest = filter (present s.network) (range_with_len (a + 1) n)

      go : (b : Bool) → present s.network a ≡ b → Listed a rest → Listed last rest → Listed last (cond b (a ∷ rest) rest)
      go true has more less = record { rise = (below, more.rise); fit = ((name_is a has, target_is a (pointer s a) refl), more.fit) }
      go false gone more less = less

  listed : Listed 0 (names s.network)
  listed = from_range s.network.size 1 0 (omega arith)

  -- ---- and its edges

  edge_is : (e : ℕ × ℕ) → IsIn e (edge_list s.network) → IsOrderedPair e
  edge_is e there =
      let has = edges_contain s.network e there in
      (name_is e.0 (good.is_network.low_present e.0 e.1 has), name_is e.1 (good.is_network.high_present e.0 e.1 has), good.is_network.low_first e.0 e.1 has)

  all_in : (es : List (ℕ × ℕ)) → ((e : ℕ × ℕ) → IsIn e es → IsOrderedPair e) → AllByRecursion IsOrderedPair es
  all_in [] all = tt
  all_in (e ∷ es) all = (all e (inl refl), all_in es (λ f there. all f (inr there)))

  links_fit : AllByRecursion IsOrderedPair (edge_list s.network)
  links_fit = all_in (edge_list s.network) edge_is

holds : (b : Bool) → T b → IsTrue b
holds true h = refl
holds false h = absurd h

less_above : (a b : ℕ × ℕ) → IsTrue (is_lt (pair_cmp a b)) → IsEdgeAbove a b
less_above a b h = go (nat_cmp a.0 b.0) (nat_cmp a.1 b.1) refl refl h
  where
    go : (r q : Ordering) → nat_cmp a.0 b.0 ≡ r → nat_cmp a.1 b.1 ≡ q → IsTrue (is_lt (ordering_then r q)) → IsEdgeAbove a b
    go Less q e f h = inl (ranked a.0 b.0 Less (sym e))
    go Equal Less e f h = inr (ranked a.0 b.0 Equal (sym e), ranked a.1 b.1 Less (sym f))
    go Equal q e f h = absurd cc
    go Greater q e f h = absurd cc

keys_rise : (last : ℕ × ℕ) (es : List ((ℕ × ℕ) × Unit {0})) → IsTrue (below_all pair_cmp last es) → IsTrue (is_sorted pair_cmp es) → EdgesRise last (map (λ e. e.0) es)
keys_rise last [] below sorted = tt
keys_rise last (e ∷ es) below sorted =
    let first = and_parts (is_lt (pair_cmp last e.0)) (below_all pair_cmp last es) below in
    let more = and_parts (below_all pair_cmp e.0 es) (is_sorted pair_cmp es) sorted in
    (less_above last e.0 first.0, keys_rise e.0 es more.0 more.1)

first_rise : (es : List ((ℕ × ℕ) × Unit {0})) → AllByRecursion IsOrderedPair (map (λ e. e.0) es) → IsTrue (is_sorted pair_cmp es) → EdgesRise (0, 0) (map (λ e. e.0) es)
first_rise [] fit sorted = tt
first_rise (e ∷ es) fit sorted =
    let more = and_parts (below_all pair_cmp e.0 es) (is_sorted pair_cmp es) sorted in
    let low = fit.0.0.0 in
    (inl (omega (arith, low)), keys_rise e.0 es more.0 more.1)

-- ---- the base

pub nodes_few : (net : Network) → node_count net ≤ net.size
nodes_few net =
    omega (arith, length-filter (present net) (range_with_len 1 net.size), count_by-le-length (present net) (range_with_len 1 net.size), length-range_with_len 1 net.size)

pub base_shaped : (number size : ℕ) (m : Moment) → IsState m.state → m.state.network.size ≡ size → size ≤ 65535 → number ≤ 16777216 → edge_count m.state.network ≤ 1048576 → m.spent ≤ 2 * edge_count m.state.network + 3 * node_count m.state.network → IsShaped (base_of number m)
base_shaped number size m good same small low few bounded =
    let s = m.state in
    let some = nodes_few s.network in
    let links = links_fit s good size same small in
    record {
      number = omega (arith, low);
      spent = omega (arith, bounded, few, some, same, small);
      nodes = omega (arith, length-map (names s.network) (node_record_at s), some, same, small);
      edges = omega (arith, edges_len s.network, few);
      places = (listed s good size same small).fit;
      links = links;
      nodes_rise = (listed s good size same small).rise;
      edges_rise = first_rise (finmap.entries s.network.edges) links (holds (is_sorted pair_cmp (finmap.entries s.network.edges)) (finmap.entries_sorted s.network.edges));
    }
