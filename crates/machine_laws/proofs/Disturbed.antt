-- What a disturbance leaves of a state, and how far that raises the charge: the part that is the same under
-- all rules.
use Rattle.machine_laws.proofs.ChargePrelude.{◌≡◌, ◌≢◌, ℕ, ◌+◌, ◌*◌, ◌<◌, ◌≤◌, Bool, true, false, cond, not, ◌&&◌, ◌||◌, List, [], ◌∷◌, map, count_by, sum_by, nat_eq, Option, None, Some, IsTrue, refl, sym, ap, ◌∙◌, subst, inl, inr, ⊎_elim, ◌⊎◌, arith, cases_eq, true≢false, sum_by-cons, get_or-map, cond-false, ne_eqb, Network, IsNetwork, is_at, degree, degree_at, edge, is_end, present, names, edge_list, State, IsState, Registers, pointer, is_unanswered, holds_at, points, after_link, after_join, after_point, after_unlink, after_leave, min, max, inserted_cases, unless_at, removed_was, left_was, present_other, pointer-with_pointer_other, pointer-with_pointer_same, without_pointer_stays, left_pointer, unlinked_pointer, present_range, nothing_left, none-some, false_from_ne_true, unlink_keeps, ◌-◌, linked_apart, linked, linked_back, pointer_linked, leave_keeps}
use Rattle.machine_laws.proofs.ListCounts.{sum_without, count_or, IsIn, IsWithoutRepeats, without, in_without, count_agree, none_count, once, count_within}
use Rattle.std.specs.FinMap as finmap
use Rattle.machine_laws.proofs.EdgeChanges.{taken_out}
use Rattle.machine_laws.proofs.Members.{in_names, names_present, in_edges, edges_contain, names_without_repeats}
use Rattle.machine_laws.proofs.EdgesByNodes.{edges_without_repeats}
use Rattle.machine_laws.proofs.Stances.{stance, is_waiting, waiting_from, waiting_is, unanswered_is}
use Rattle.machine_laws.proofs.Degrees.{edges_at, at_one}
use Rattle.machine_laws.proofs.PaidMoves.{bit, IsSeen}

-- ---- the charge

-- each edge and node of the second network is one of the first
pub record IsSubNetwork (net net' : Network) : Type 0 where
  pub edges : (e : ℕ × ℕ) → IsIn e (edge_list net') → IsIn e (edge_list net)
  pub nodes : (v : ℕ) → IsIn v (names net') → IsIn v (names net)

pub same_network : (net : Network) → IsSubNetwork net net
same_network net = record { edges = λ e there. there; nodes = λ v there. there }

-- each node that waits by p' waits by p, or is marked
abbrev pub WaitsOnly : (ℕ → Option ℕ) → (ℕ → Option ℕ) → (ℕ → Bool) → Type 0
WaitsOnly p p' marked = (x w : ℕ) → p' x ≡ Some w → p' w ≢ Some x → IsTrue (is_waiting (stance p x)) ⊎ IsTrue (marked x)

-- a sum grows by at most what each element adds to its term, or to nothing
pub sum_grows : {X : Type 0} (f f' more : X → ℕ) (xs xs' : List X) → IsWithoutRepeats xs' → ((x : X) → IsIn x xs' → (IsIn x xs × (f' x ≤ f x + more x)) ⊎ (f' x ≤ more x)) → sum_by f' xs' ≤ sum_by f xs + sum_by more xs'
sum_grows f f' more xs [] single h = omega arith
sum_grows {X = X} f f' more xs (x ∷ xs') single h =
    ⊎_elim
    (λ (at, le). let rest = sum_grows f f' more (without xs x at) xs' single.1 (λ y there. ⊎_elim (λ (old, less). inl (in_without xs x at y old (λ same. single.0 (subst (λ z. IsIn z xs') (sym same) there)), less)) (λ less. inr less) (h y (inr there))) in
    omega (arith, sum_by-cons f' x xs', sum_by-cons more x xs', sum_without f xs x at, rest, le))
    (λ le. let rest = sum_grows f f' more xs xs' single.1 (λ y there. h y (inr there)) in omega (arith, sum_by-cons f' x xs', sum_by-cons more x xs', rest, le))
    (h x (inl refl))

-- If untouched edges were there and stay closed, the charge grows by at most two for each touched edge, one for
-- each node marked as waiting, and what nodes add.
pub grows : (s s' : State) (closed closed' : ℕ × ℕ → Bool) (node node' more : ℕ → ℕ) (touched : ℕ × ℕ → Bool) (marked : ℕ → Bool) → ((a b : ℕ) → IsIn (a, b) (edge_list s'.network) → touched (a, b) ≡ false → IsIn (a, b) (edge_list s.network) × (closed (a, b) ≡ true → closed' (a, b) ≡ true)) → WaitsOnly (pointer s) (pointer s') marked → ((x : ℕ) → IsIn x (names s'.network) → (IsIn x (names s.network) × (node' x ≤ node x + more x)) ⊎ ((pointer s' x ≡ None) × (node' x ≤ more x)))
    → 2 * count_by (λ e. not (closed' e)) (edge_list s'.network) + count_by (is_unanswered s') (names s'.network) + sum_by node' (names s'.network) ≤ 2 * count_by (λ e. not (closed e)) (edge_list s.network) + count_by (is_unanswered s) (names s.network) + sum_by node (names s.network) + 2 * count_by touched (edge_list s'.network) + count_by marked (names s'.network) + sum_by more (names s'.network)
grows s s' closed closed' node node' more touched marked stays waits adds =
    let open_edges = sum_grows (λ e. bit (not (closed e))) (λ e. bit (not (closed' e))) (λ e. bit (touched e)) (edge_list s.network) (edge_list s'.network) (edges_without_repeats s'.network) (λ e there. one (closed e) (closed' e) (touched e) (IsIn e (edge_list s.network)) (stays e.0 e.1 there)) in
    let unanswered = sum_grows (λ x. bit (is_unanswered s x)) (λ x. bit (is_unanswered s' x)) (λ x. bit (marked x)) (names s.network) (names s'.network) (names_without_repeats s'.network) (λ x there. ⊎_elim (λ old. inl (old.0, waiting x)) (λ new. inr (null x new.0)) (adds x there)) in
    let nodes = sum_grows node node' more (names s.network) (names s'.network) (names_without_repeats s'.network) (λ x there. ⊎_elim (λ old. inl old) (λ new. inr new.1) (adds x there)) in
    omega (arith, open_edges, unanswered, nodes)
  where
    one : (c c' t : Bool) (P : Type 0) → (t ≡ false → P × (c ≡ true → c' ≡ true)) → (P × (bit (not c') ≤ bit (not c) + bit t)) ⊎ (bit (not c') ≤ bit t)
    one c c' true P h = inr (grind arith)
    one c c' false P h = let k = (h refl).1 in inl ((h refl).0, grind arith)

    waiting : (x : ℕ) → bit (is_unanswered s' x) ≤ bit (is_unanswered s x) + bit (marked x)
    waiting x = grind (arith, waiting_is, unanswered_is, waits x)

    null : (x : ℕ) → pointer s' x ≡ None → bit (is_unanswered s' x) ≤ bit (marked x)
    null x e = let none : bit (is_unanswered s' x) ≡ 0 = ap (λ o. bit (holds_at (λ w. not (points s'.registers w x)) o)) e in omega (arith, none)

-- a new edge or node
pub linked_edges : (s : State) (a b : ℕ) (e : ℕ × ℕ) → IsIn e (edge_list (after_link s a b).network) → (is_end a e && is_end b e) ≡ false → IsIn e (edge_list s.network)
linked_edges s a b e there clear =
    ⊎_elim (λ new. absurd (true≢false (sym (ends e new) ∙ clear))) (λ old. in_edges s.network e old) (inserted_cases s.network.edges (edge a b) e (edges_contain (after_link s a b).network e there))
  where
    ends : (e : ℕ × ℕ) → e ≡ edge a b → (is_end a e && is_end b e) ≡ true
    ends e new = grind (arith, min, max)

pub joined_names : (s : State) (v x : ℕ) → IsIn x (names (after_join s v).network) → IsIn x (names s.network) ⊎ (x ≡ v)
joined_names s v x there = ⊎_elim (λ same. inr same) (λ apart. inl (in_names s.network x (sym (present_other s.network v true x apart) ∙ names_present (after_join s v).network x there))) (cases_eq x v)

-- no marks, and one or two
pub no_nodes : (xs : List ℕ) → count_by (λ x. false) xs ≡ 0
no_nodes xs = none_count (λ x. false) xs (λ x there. refl)

pub no_edges : (es : List (ℕ × ℕ)) → count_by (λ e. false) es ≡ 0
no_edges es = none_count (λ e. false) es (λ e there. refl)

-- the edges at a node if the test holds, else none
pub edges_if : (net : Network) → IsNetwork net → (t : Bool) (v n : ℕ) → degree net v ≤ n → count_by (λ e. t && is_end v e) (edge_list net) ≤ cond t n 0
edges_if net good true v n few = omega (arith, edges_at net good v, few)
edges_if net good false v n few = omega (arith, no_edges)

-- the edges at a pointer's target
pub edges_at_pointer : (net : Network) → IsNetwork net → (o : Option ℕ) → count_by (λ e. is_at o e.0 || is_at o e.1) (edge_list net) ≡ degree_at net o
edges_at_pointer net good None = no_edges (edge_list net)
edges_at_pointer net good (Some u) = count_agree (λ e. nat_eq u e.0 || nat_eq u e.1) (is_end u) (λ e. back e.0 e.1) (edge_list net) ∙ edges_at net good u
  where
    back : (a b : ℕ) → (nat_eq u a || nat_eq u b) ≡ is_end u (a, b)
    back a b = grind arith

pub one_node : (net : Network) (v : ℕ) → count_by (nat_eq v) (names net) ≤ 1
one_node net v = once v (names net) (names_without_repeats net)

pub two_nodes : (net : Network) (v u : ℕ) → count_by (λ x. nat_eq v x || nat_eq u x) (names net) ≤ 2
two_nodes net v u = omega (arith, count_or (nat_eq v) (nat_eq u) (names net), one_node net v, one_node net u)

-- ---- pointers

-- from p to p' only null pointers of touched nodes and pointers at touched nodes may change
pub record IsTouching (p p' : ℕ → Option ℕ) (touched : ℕ → Bool) : Type 0 where
  -- a null pointer stays null
  pub nulls : (x : ℕ) → touched x ≡ false → p x ≡ None → p' x ≡ None
  -- a pointer at a node that is not touched stays
  pub kept : (x w : ℕ) → touched w ≡ false → p x ≡ Some w → p' x ≡ Some w
  -- so does that of a paired node that is not touched
  pub pairs : (x w : ℕ) → touched x ≡ false → p x ≡ Some w → p w ≡ Some x → p' x ≡ Some w

-- a married node stays so if the pointers of its pair stay
pub wed_stays : (p p' : ℕ → Option ℕ) (m m' c c' : ℕ → Bool) → IsSeen p m c → IsSeen p' m' c' → (x : ℕ) → ((w : ℕ) → p x ≡ Some w → p w ≡ Some x → (p' x ≡ Some w) × (p' w ≡ Some x)) → m x ≡ true → m' x ≡ true
wed_stays p p' m m' c c' old new x stay h = let pair = old.wed x h in let both = stay pair.0 pair.1 pair.2 in new.weds x pair.0 both.0 both.1

pub still_married : (p p' : ℕ → Option ℕ) (m m' c c' touched : ℕ → Bool) → IsSeen p m c → IsSeen p' m' c' → IsTouching p p' touched → (x : ℕ) → touched x ≡ false → m x ≡ true → m' x ≡ true
still_married p p' m m' c c' touched old new it x free h = wed_stays p p' m m' c c' old new x (λ w at back. (it.pairs x w free at back, it.kept w x free back)) h

-- the pointers p' are p but at one node
pub record IsWritten (p p' : ℕ → Option ℕ) (v : ℕ) (target : Option ℕ) : Type 0 where
  pub here : p' v ≡ target
  pub others : (x : ℕ) → (x ≡ v → ⊥) → p' x ≡ p x

pub written_at : (s : State) (v : ℕ) (target : Option ℕ) → IsState s → IsTrue (present s.network v) → IsWritten (pointer s) (pointer (after_point s v target)) v target
written_at s v target good has = grind (arith, pointer-with_pointer_same, present_range, pointer-with_pointer_other)

module _ (p p' : ℕ → Option ℕ) (v : ℕ) (target : Option ℕ) (it : IsWritten p p' v target) where
  -- a pointer at u is written: v and u are touched, or u alone if it did not answer
  pub some_touches : (u : ℕ) → p v ≡ Some u → IsTouching p p' (λ x. nat_eq v x || nat_eq u x)
  some_touches u was = grind (arith, it.others)

  pub some_waits : (u : ℕ) → p v ≡ Some u → WaitsOnly p p' (λ x. nat_eq v x || nat_eq u x)
  some_waits u was x w at alone = grind (arith, it.others, cases_eq)

  pub waiting_touches : (u : ℕ) → p v ≡ Some u → p u ≢ Some v → IsTouching p p' (nat_eq u)
  waiting_touches u was alone = grind (arith, it.others)

  pub waiting_waits : (u : ℕ) → p v ≡ Some u → p u ≢ Some v → WaitsOnly p p' (λ x. false)
  waiting_waits u was alone x w at unanswered = grind (arith, it.others, cases_eq)

  -- a null pointer is written
  pub null_touches : p v ≡ None → IsTouching p p' (nat_eq v)
  null_touches null = grind (arith, it.others)

  pub null_waits : p v ≡ None → WaitsOnly p p' (nat_eq v)
  null_waits null x w at alone = grind (arith, it.others, cases_eq)

  -- nothing is written
  pub again : p v ≡ target → (x : ℕ) → p' x ≡ p x
  again same x = grind (arith, it.here, it.others, cases_eq)

pub same_touches : (p p' : ℕ → Option ℕ) → ((x : ℕ) → p' x ≡ p x) → IsTouching p p' (λ x. false)
same_touches p p' same = record { nulls = λ x free null. same x ∙ null; kept = λ x w free at. same x ∙ at; pairs = λ x w free at back. same x ∙ at }

pub same_waits : (p p' : ℕ → Option ℕ) → ((x : ℕ) → p' x ≡ p x) → WaitsOnly p p' (λ x. false)
same_waits p p' same x w at alone = inl (ap is_waiting (waiting_from p x w (sym (same x) ∙ at) (λ back. alone (same w ∙ back))))

-- the pointers p' are those of p that do not cross a cut
pub record IsCut (p p' : ℕ → Option ℕ) (cut : ℕ → ℕ → Bool) : Type 0 where
  pub stays : (x w : ℕ) → p x ≡ Some w → cut x w ≡ false → p' x ≡ Some w
  pub was : (x w : ℕ) → p' x ≡ Some w → (p x ≡ Some w) × (cut x w ≡ false)
  pub back : (x w : ℕ) → cut x w ≡ cut w x

-- the heads of pointers that cross it are touched
pub cut_touches : (p p' : ℕ → Option ℕ) (cut : ℕ → ℕ → Bool) (touched : ℕ → Bool) → IsCut p p' cut → ((x w : ℕ) → p x ≡ Some w → cut x w ≡ true → touched w ≡ true) → IsTouching p p' touched
cut_touches p p' cut touched it heads = record {
  nulls = λ x free null. nothing_left (p' x) (λ w e. none-some w (sym null ∙ (it.was x w e).0));
  kept = λ x w free at. grind (arith, heads x w, it.stays x w);
  pairs = λ x w free at back. grind (arith, heads w x, it.stays x w, it.back x w);
}

pub cut_waits : (p p' : ℕ → Option ℕ) (cut : ℕ → ℕ → Bool) → IsCut p p' cut → WaitsOnly p p' (λ x. false)
cut_waits p p' cut it x w at alone = inl (ap is_waiting (waiting_from p x w (it.was x w at).0 (λ k. alone (it.stays w x k (it.back w x ∙ (it.was x w at).1)))))

module _ (s : State) (a b : ℕ) where
  abbrev pub across : ℕ → ℕ → Bool
  across x w = (nat_eq x a && nat_eq w b) || (nat_eq x b && nat_eq w a)

  pub unlink_cuts : IsCut (pointer s) (pointer (after_unlink s a b)) across
  unlink_cuts = record {
    stays = λ x w at free. grind (arith, without_pointer_stays);
    was = λ x w at. let left = unlinked_pointer s a b x w at in (left.0, free x w left.1 left.2);
    back = λ x w. grind arith;
  }
    where
      free : (x w : ℕ) → (x ≡ a → w ≡ b → ⊥) → (x ≡ b → w ≡ a → ⊥) → across x w ≡ false
      free x w there back = grind arith

  pub unlink_waits : WaitsOnly (pointer s) (pointer (after_unlink s a b)) (λ x. false)
  unlink_waits = cut_waits (pointer s) (pointer (after_unlink s a b)) across unlink_cuts

  pub unlink_within : IsSubNetwork s.network (after_unlink s a b).network
  unlink_within = record {
    edges = λ e there. in_edges s.network e (removed_was s.network.edges (edge a b) e (edges_contain (after_unlink s a b).network e there));
    nodes = λ v there. there;
  }

-- no edge that is left crosses the cut
pub uncrossed : (s : State) (a b x y : ℕ) → IsState s → IsIn (x, y) (edge_list (after_unlink s a b).network) → across s a b x y ≡ false
uncrossed s a b x y good there =
    let at = edges_contain (after_unlink s a b).network (x, y) there in
    false_from_ne_true (across s a b x y) (λ h. true≢false (sym at ∙ ap (finmap.contains_key (after_unlink s a b).network.edges) (edge_is x y ((unlink_keeps s a b good).is_network.low_first x y at) h) ∙ taken_out s.network.edges (edge a b)))
  where
    edge_is : (x y : ℕ) → x < y → ((nat_eq x a && nat_eq y b) || (nat_eq x b && nat_eq y a)) ≡ true → ◌≡◌ {A = ℕ × ℕ} (x, y) (edge a b)
    edge_is x y up h = grind (arith, min, max)

module _ (s : State) (v : ℕ) where
  abbrev pub beside : ℕ → ℕ → Bool
  beside x w = nat_eq x v || nat_eq w v

  abbrev swept : Registers
  swept = record s.registers { pointers = map (unless_at v) s.registers.pointers }

  pub leave_cuts : IsCut (pointer s) (pointer (after_leave s v)) beside
  leave_cuts = record {
    stays = λ x w at free. let ends = apart x w free in
        pointer-with_pointer_other swept v None x ends.0 ∙ get_or-map (unless_at v) s.registers.pointers x None ∙ ap (unless_at v) at ∙ cond-false (nat_eq w v) None (Some w) (ne_eqb w v ends.1);
    was = λ x w at. let left = left_pointer s.registers v x w at in (left.2, free x w left.0 left.1);
    back = λ x w. grind arith;
  }
    where
      apart : (x w : ℕ) → beside x w ≡ false → (x ≡ v → ⊥) × (w ≡ v → ⊥)
      apart x w h = grind arith

      free : (x w : ℕ) → (x ≡ v → ⊥) → (w ≡ v → ⊥) → beside x w ≡ false
      free x w here there = grind arith

  pub leave_waits : WaitsOnly (pointer s) (pointer (after_leave s v)) (λ x. false)
  leave_waits = cut_waits (pointer s) (pointer (after_leave s v)) beside leave_cuts

  pub leave_within : IsState s → IsTrue (present s.network v) → IsSubNetwork s.network (after_leave s v).network
  leave_within good has = record {
    edges = λ e there. in_edges s.network e (left_was s.network.edges v e.0 e.1 (edges_contain (after_leave s v).network e there)).2;
    nodes = λ x there. in_names s.network x (⊎_elim (λ same. subst (λ y. IsTrue (present s.network y)) (sym same) has) (λ apart. sym (present_other s.network v false x apart) ∙ names_present (after_leave s v).network x there) (cases_eq x v));
  }

-- ---- the edges that are left at a node

-- a node has fewer edges if none of those that are left joins it to a neighbour
degree_falls : (s s' : State) (v u : ℕ) → IsState s → IsState s' → IsSubNetwork s.network s'.network → IsTrue (linked s.network v u) → ((a b : ℕ) → IsIn (a, b) (edge_list s'.network) → (is_end v (a, b) && not (is_end u (a, b))) ≡ is_end v (a, b)) → degree s'.network v ≤ degree s.network v - 1
degree_falls s s' v u good good' within near apart =
    let into = count_within (is_end v) (λ e. is_end v e && not (is_end u e)) (edge_list s'.network) (edge_list s.network) (edges_without_repeats s'.network) (λ e there h. (within.edges e there, apart e.0 e.1 there ∙ h)) in
    omega (arith, edges_at s'.network good'.is_network v, into, at_one s.network good.is_network v u near, edges_at s.network good.is_network v)

alone : (a b x y : ℕ) → (a ≡ b → ⊥) → ((nat_eq x a && nat_eq y b) || (nat_eq x b && nat_eq y a)) ≡ false → (is_end a (x, y) && not (is_end b (x, y))) ≡ is_end a (x, y)
alone a b x y apart h = grind arith

-- each end of a removed edge has one edge less
pub degree_without_edge : (s : State) (a b : ℕ) → IsState s → IsTrue (linked s.network a b) → (degree (after_unlink s a b).network a ≤ degree s.network a - 1) × (degree (after_unlink s a b).network b ≤ degree s.network b - 1)
degree_without_edge s a b good near =
    let apart = linked_apart s.network a b good.is_network near in (
      degree_falls s (after_unlink s a b) a b good (unlink_keeps s a b good) (unlink_within s a b) near (λ x y there. alone a b x y apart (uncrossed s a b x y good there)),
      degree_falls s (after_unlink s a b) b a good (unlink_keeps s a b good) (unlink_within s a b) (linked_back s.network b a ∙ near) (λ x y there. alone b a x y (λ same. apart (sym same)) (swap (nat_eq x a && nat_eq y b) (nat_eq x b && nat_eq y a) (uncrossed s a b x y good there))),
    )
  where
    swap : (c d : Bool) → (c || d) ≡ false → (d || c) ≡ false
    swap c d h = grind arith

-- each neighbour of a node that leaves has one edge less
pub degree_without_node : (s : State) (v u : ℕ) → IsState s → IsTrue (present s.network v) → IsTrue (linked s.network v u) → degree (after_leave s v).network u ≤ degree s.network u - 1
degree_without_node s v u good has near =
    degree_falls s (after_leave s v) u v good (leave_keeps s v good) (leave_within s v good has) (linked_back s.network u v ∙ near)
    (λ x y there. let left = left_was s.network.edges v x y (edges_contain (after_leave s v).network (x, y) there) in apart x y left.0 left.1)
  where
    apart : (x y : ℕ) → (x ≡ v → ⊥) → (y ≡ v → ⊥) → (is_end u (x, y) && not (is_end v (x, y))) ≡ is_end u (x, y)
    apart x y low high = grind arith

-- the target of a node that leaves has one edge less
pub degree_left_at : (s : State) (v : ℕ) → IsState s → IsTrue (present s.network v) → degree_at (after_leave s v).network (pointer s v) ≤ degree_at s.network (pointer s v) - 1
degree_left_at s v good has = grind (arith, degree_without_node, pointer_linked)
