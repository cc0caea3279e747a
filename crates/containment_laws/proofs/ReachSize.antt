-- How many nodes a disturbance can reach: a degree or two, whatever the size of the network. They are near the nodes
-- that it names.
use Rattle.containment_laws.proofs.Prelude.{◌≡◌, ℕ, ◌+◌, ◌≤◌, Bool, true, false, cond, not, ◌&&◌, ◌||◌, [], ◌∷◌, count_by, nat_eq, Option, None, Some, is_some, find, IsTrue, refl, sym, ap, ◌∙◌, subst, inl, inr, ◌⊎◌, ⊎_elim, arith, true≢false, and_parts, or_cases, eqb-true, eq-eqb, not-true, false_from_ne_true, same_Some, Event, Link, Unlink, Point, Flag, Leave, Network, linked, neighbours, names, State, IsState, pointer, married, is_mutual, linked_back, linked_present, near_some, some_is, pointer_linked, married_some, married_from, IsIn, degree, degree_at, none_count, once, in_names, names_without_repeats, is_parted, is_hit, is_in_reach, ReachIsSmall, Any, named_by, IsWithinTwo, ReachIsNear}
use Rattle.machine_laws.proofs.ListCounts.{count_among, count_le, count_or, count_split, at_most_one, one_count}
use Rattle.machine_laws.proofs.Members.{in_kept}
use Rattle.std.proofs.lemmas.Bool.{and_from, or_left, or_right}
use Rattle.containment_laws.proofs.Edits.{mutual_is}
use Rattle.containment_laws.proofs.LostPairs.{in_contains}
use Rattle.containment_laws.proofs.Partings.{main_node, parted_near}

-- ---- counts

linked_few : (net : Network) (a : ℕ) → count_by (linked net a) (names net) ≤ degree net a
linked_few net a = count_among (linked net a) (names net) (neighbours net a) (names_without_repeats net) (λ x there h. in_kept (linked net a) x (names net) h there)

either_few : (net : Network) (p : ℕ → Bool) (a b : ℕ) → ((x : ℕ) → p x ≡ true → IsTrue (linked net a x) ⊎ IsTrue (linked net b x)) → count_by p (names net) ≤ degree net a + degree net b
either_few net p a b near =
    let either = count_le p (λ x. linked net a x || linked net b x) (names net) (λ x there h. ⊎_elim (or_left _ _) (or_right _ _) (near x h)) in
    omega (arith, either, count_or (linked net a) (linked net b) (names net), linked_few net a, linked_few net b)

two_few : (net : Network) (p : ℕ → Bool) (a b : ℕ) → ((x : ℕ) → p x ≡ true → (x ≡ a) ⊎ (x ≡ b)) → count_by p (names net) ≤ 2
two_few net p a b at = count_among p (names net) (a ∷ b ∷ []) (names_without_repeats net) (λ x there h. ⊎_elim (λ low. inl (sym low)) (λ high. inr (inl (sym high))) (at x h))

one_few : (net : Network) (p : ℕ → Bool) (a : ℕ) → ((x : ℕ) → p x ≡ true → x ≡ a) → count_by p (names net) ≤ 1
one_few net p a at = at_most_one p a (names net) (names_without_repeats net) (λ x there. at x)

-- all that pass but u, and for it another neighbour of u that does not pass, are neighbours of u
own_few : (net : Network) (p : ℕ → Bool) (u v : ℕ) → IsIn v (names net) → IsTrue (linked net u v) → (p v ≡ false) → ((x : ℕ) → p x ≡ true → (x ≡ u) ⊎ IsTrue (linked net u x)) → count_by p (names net) ≤ degree net u
own_few net p u v there near_v out near =
    let xs = names net in
    let within = count_le p (λ x. nat_eq u x || (linked net u x && not (nat_eq v x))) xs (λ x at h. one (linked net u x) x h (near x h)) in
    let both = count_or (nat_eq u) (λ x. linked net u x && not (nat_eq v x)) xs in
    let other = one_count (λ x. linked net u x && nat_eq v x) xs v there (and_from (linked net u v) (nat_eq v v) near_v (eq-eqb v v refl)) in
    omega (arith, within, both, once u xs (names_without_repeats net), count_split (linked net u) (nat_eq v) xs, other, linked_few net u)
  where
    one : (l : Bool) (x : ℕ) → p x ≡ true → (x ≡ u) ⊎ (l ≡ true) → (nat_eq u x || (l && not (nat_eq v x))) ≡ true
    one l x h at = grind arith

-- ---- who is in reach

-- a node in reach is hit, parted, or an unmarried neighbour of a parted node
pub reach_cases : (s : State) (event : Event) (v : ℕ) → is_in_reach s event v ≡ true → (is_hit s event v ≡ true) ⊎ (is_parted s event v ≡ true) ⊎ ((married s v ≡ false) × ((w : ℕ) × IsTrue (linked s.network w v) × (is_parted s event w ≡ true)))
reach_cases s event v h =
    ⊎_elim
    (λ own. ⊎_elim (λ hit. inl hit) (λ parted. inr (inl parted)) (or_cases (is_hit s event v) (is_parted s event v) own))
    (λ beside.
    let both = and_parts (not (married s v)) (is_some (find (is_parted s event) (neighbours s.network v))) beside in
    let found = some_is (find (is_parted s event) (neighbours s.network v)) both.1 in
    let near = near_some s.network (is_parted s event) v found.0 found.1 in
    inr (inr (not-true (married s v) both.0, (found.0, linked_back s.network found.0 v ∙ near.0, near.1))))
    (or_cases (is_hit s event v || is_parted s event v) (not (married s v) && is_some (find (is_parted s event) (neighbours s.network v))) h)

-- if only two linked nodes are parted, and none is hit, a node in reach is a neighbour of one of the two
beside_pair : (s : State) (event : Event) (a b : ℕ) → IsTrue (linked s.network a b) → ((x : ℕ) → is_hit s event x ≡ true → ⊥) → ((x : ℕ) → is_parted s event x ≡ true → (x ≡ a) ⊎ (x ≡ b)) → (x : ℕ) → is_in_reach s event x ≡ true → IsTrue (linked s.network a x) ⊎ IsTrue (linked s.network b x)
beside_pair s event a b near none parts x h = grind (arith, linked_back, reach_cases)

-- if no node is parted only a node that is hit is in reach
only_hit : (s : State) (event : Event) → ((x : ℕ) → is_parted s event x ≡ true → ⊥) → (x : ℕ) → is_in_reach s event x ≡ true → is_hit s event x ≡ true
only_hit s event none x h =
    ⊎_elim (λ hit. hit) (λ more. ⊎_elim (λ parted. absurd (none x parted)) (λ beside. absurd (none beside.1.0 beside.1.2)) more) (reach_cases s event x h)

nobody_few : (s : State) (event : Event) → ((x : ℕ) → is_parted s event x ≡ true → ⊥) → ((x : ℕ) → is_hit s event x ≡ true → ⊥) → count_by (is_in_reach s event) (names s.network) ≤ 0
nobody_few s event none calm =
    let zero = none_count (is_in_reach s event) (names s.network) (λ x there. false_from_ne_true (is_in_reach s event x) (λ h. calm x (only_hit s event none x h))) in
    omega (arith, zero)

never : {b : Bool} → b ≡ false → b ≡ true → ⊥
never e h = true≢false (sym h ∙ e)

-- if a node's partner is parted from it, and none is hit, the reach is within their neighbours
pair_few : (s : State) (event : Event) (p : ℕ) → IsState s → pointer s (main_node event) ≡ Some p → ((x : ℕ) → is_hit s event x ≡ true → ⊥) → count_by (is_in_reach s event) (names s.network) ≤ degree s.network (main_node event) + degree s.network p
pair_few s event p good at none =
    either_few s.network (is_in_reach s event) (main_node event) p
    (beside_pair s event (main_node event) p (pointer_linked s (main_node event) p good at) none
    (λ x h. ⊎_elim inl (λ same. inr (same_Some x p (sym same ∙ at))) (parted_near s event x h).1))

-- ---- each event

unlink_few : (s : State) (a b : ℕ) → IsState s → (t : Bool) → is_mutual s a b ≡ t → count_by (is_in_reach s (Unlink a b)) (names s.network) ≤ cond t (degree s.network a + degree s.network b) 0
unlink_few s a b good true pair = pair_few s (Unlink a b) b good (mutual_is s a b pair).0 (λ x. never refl)
unlink_few s a b good false pair =
    nobody_few s (Unlink a b) (λ x h. never pair (and_parts (is_mutual s a b) (nat_eq x a || nat_eq x b) h).0) (λ x. never refl)

-- the nodes that the write of a pointer parts
point_parted : (s : State) (v : ℕ) (target : Option ℕ) (x : ℕ) → is_parted s (Point v target) x ≡ true → (is_mutual s v x || (nat_eq x v && married s v)) ≡ true
point_parted s v target x h = grind arith

point_hit : (s : State) (v : ℕ) (target : Option ℕ) (x : ℕ) → is_hit s (Point v target) x ≡ true → (x ≡ v) × (married s v ≡ false)
point_hit s v None x h = absurd (true≢false (sym h))
point_hit s v (Some y) x h = grind (arith, and_parts, eqb-true, not-true)

point_few : (s : State) (v : ℕ) (target : Option ℕ) → IsState s → (t : Bool) → married s v ≡ t → count_by (is_in_reach s (Point v target)) (names s.network) ≤ cond t (degree s.network v + degree_at s.network (pointer s v)) 1
point_few s v target good true is =
    let pair = married_some s v is in
    let size = ap (degree_at s.network) pair.1 in
    let few = pair_few s (Point v target) pair.0 good pair.1 (λ x h. true≢false (sym is ∙ (point_hit s v target x h).1)) in
    omega (arith, size, few)
point_few s v target good false alone =
    one_few s.network (is_in_reach s (Point v target)) v (λ x h. (point_hit s v target x (only_hit s (Point v target) none x h)).0)
  where
    none : (x : ℕ) → is_parted s (Point v target) x ≡ true → ⊥
    none x h = grind (arith, mutual_is, never, married_from, and_parts, or_cases, point_parted)

leave_few : (s : State) (v : ℕ) → IsState s → (t : Bool) → married s v ≡ t → count_by (is_in_reach s (Leave v)) (names s.network) ≤ cond t (degree_at s.network (pointer s v)) 0
leave_few s v good true is =
    let pair = married_some s v is in
    let size = ap (degree_at s.network) pair.1 in
    let near = pointer_linked s v pair.0 good pair.1 in
    let few = own_few s.network (is_in_reach s (Leave v)) pair.0 v (in_names s.network v (linked_present s.network v pair.0 good.is_network near)) (linked_back s.network pair.0 v ∙ near)
    (false_from_ne_true (is_in_reach s (Leave v) v) (out pair.0))
    (λ x h. ⊎_elim (λ hit. absurd (true≢false (sym hit)))
    (λ more. ⊎_elim
    (λ parted. inl (partner_is pair.0 pair.1 x parted))
    (λ beside. inr (subst (λ y. IsTrue (linked s.network y x)) (partner_is pair.0 pair.1 beside.1.0 beside.1.2) beside.1.1))
    more)
    (reach_cases s (Leave v) x h)) in
    omega (arith, size, few)
  where
    partner_is : (u : ℕ) → pointer s v ≡ Some u → (x : ℕ) → is_mutual s v x ≡ true → x ≡ u
    partner_is u at x pairing = same_Some x u (sym (mutual_is s v x pairing).0 ∙ at)

    out : ℕ → is_in_reach s (Leave v) v ≡ true → ⊥
    out u h = grind (arith, true≢false, pointer_linked, mutual_is, never, reach_cases)
leave_few s v good false alone =
    nobody_few s (Leave v) (λ x h. let at = mutual_is s v x h in never alone (married_from s v x good at.0 at.1)) (λ x. never refl)

pub reach_is_small : ReachIsSmall
reach_is_small s good (Link a b) =
    two_few s.network (is_in_reach s (Link a b)) a b (λ x h.
    ⊎_elim (λ low. inl (eqb-true x a low)) (λ high. inr (eqb-true x b high))
    (or_cases (nat_eq x a) (nat_eq x b) (and_parts (not (married s a) && not (married s b)) (nat_eq x a || nat_eq x b) (only_hit s (Link a b) (λ y. never refl) x h)).1))
reach_is_small s good (Unlink a b) = unlink_few s a b good (is_mutual s a b) refl
reach_is_small s good (Point v target) = point_few s v target good (married s v) refl
reach_is_small s good (Flag v value) =
    one_few s.network (is_in_reach s (Flag v value)) v (λ x h. eqb-true x v (and_parts (nat_eq x v) (cond (married s v) (not value) value) (only_hit s (Flag v value) (λ y. never refl) x h)).0)
reach_is_small s good (Leave v) = leave_few s v good (married s v) refl
reach_is_small s good event = nobody_few s event (λ x. never refl) (λ x. never refl)

-- ---- where they are

hit_named : (s : State) (event : Event) (v : ℕ) → is_hit s event v ≡ true → IsIn v (named_by event)
hit_named s event v h = grind (arith, eqb-true, or_cases, and_parts)

any_named : (s : State) (event : Event) (v a : ℕ) → IsIn a (named_by event) → IsWithinTwo s.network a v → Any (λ x. IsWithinTwo s.network x v) (named_by event)
any_named s event v a named near = let there = in_contains a (named_by event) named in (there.0, a, there.1, there.2, near)

pub reach_is_near : ReachIsNear
reach_is_near s good event v h =
    ⊎_elim
    (λ hit. any_named s event v v (hit_named s event v hit) (inl refl))
    (⊎_elim
    (λ parted. let near = parted_near s event v parted in
    any_named s event v (main_node event) near.0 (⊎_elim inl (λ at. inr (inl (pointer_linked s (main_node event) v good at))) near.1))
    (λ beside.
    let near = parted_near s event beside.1.0 beside.1.2 in
    any_named s event v (main_node event) near.0
    (⊎_elim
    (λ same. inr (inl (subst (λ x. IsTrue (linked s.network x v)) same beside.1.1)))
    (λ at. inr (inr (beside.1.0, pointer_linked s (main_node event) beside.1.0 good at, beside.1.1)))
    near.1)))
    (reach_cases s event v h)
