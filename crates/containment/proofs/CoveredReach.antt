-- The reach from lists that cover it, without a look at a node's neighbours.
use Rattle.containment.proofs.Prelude.{◌≡◌, ℕ, Bool, true, false, cond, not, ◌&&◌, ◌||◌, List, [], ◌∷◌, filter, nat_eq, Option, None, Some, is_some, find, IsTrue, refl, sym, ap, ◌∙◌, subst, inl, inr, ◌⊎◌, ⊎_elim, true≢false, and_parts, and_from, or_cases, or_left, or_right, eqb-true, eq-eqb, not-true, not_from_false, filter_agree, same_Some, Event, Link, Unlink, Point, Flag, Step, Show, Enabled, Matching, Status, Join, Leave, linked, neighbours, names, State, IsState, points, pointer, partner, married, is_mutual, linked_back, near_found, points_from, pointer_linked, partner_some, married_from, is_parted, is_hit, is_in_reach, parts_a_pair, mutual_is, reach_cases, is_hit_or_parted, is_kept}

-- The test covers the reach of the event: each node that is hit or parted passes it, and so does each
-- neighbour of a parted one. If a pair is parted, each unmarried node that passes has such a neighbour.
pub record Covers (s : State) (event : Event) (covers : ℕ → Bool) : Type 0 where
  pub hits : (x : ℕ) → is_hit s event x ≡ true → covers x ≡ true
  pub parts : (x : ℕ) → is_parted s event x ≡ true → (covers x ≡ true) × (parts_a_pair s event ≡ true)
  pub beside : (x w : ℕ) → IsTrue (linked s.network w x) → is_parted s event w ≡ true → covers x ≡ true
  pub back : (x : ℕ) → covers x ≡ true → parts_a_pair s event ≡ true → married s x ≡ false → (w : ℕ) × IsTrue (linked s.network w x) × (is_parted s event w ≡ true)

same_truth : (b c : Bool) → (b ≡ true → c ≡ true) → (c ≡ true → b ≡ true) → b ≡ c
same_truth true c f g = sym (f refl)
same_truth false true f g = g refl
same_truth false false f g = refl

-- a neighbour of one that is parted, not married, is in reach
beside_reached : (s : State) (event : Event) (x w : ℕ) → IsState s → IsTrue (linked s.network w x) → is_parted s event w ≡ true → married s x ≡ false → is_in_reach s event x ≡ true
beside_reached s event x w good near parted alone =
    let found = near_found s.network (is_parted s event) x w good.is_network (linked_back s.network x w ∙ near) parted in
    or_right (is_hit s event x || is_parted s event x) (not (married s x) && is_some (find (is_parted s event) (neighbours s.network x)))
    (and_from (not (married s x)) (is_some (find (is_parted s event) (neighbours s.network x))) (not_from_false (married s x) alone) (ap is_some found.1))

reached_covered : (s : State) (event : Event) (covers : ℕ → Bool) → Covers s event covers → (x : ℕ) → is_in_reach s event x ≡ true → (covers x && is_hit_or_parted s event x) ≡ true
reached_covered s event covers cover x h =
    ⊎_elim
    (λ hit. and_from (covers x) (is_hit_or_parted s event x) (cover.hits x hit) (own (or_left (is_hit s event x) (is_parted s event x) hit)))
    (λ more. ⊎_elim
    (λ parted. and_from (covers x) (is_hit_or_parted s event x) (cover.parts x parted).0 (own (or_right (is_hit s event x) (is_parted s event x) parted)))
    (λ beside. and_from (covers x) (is_hit_or_parted s event x)
    (cover.beside x beside.1.0 beside.1.1 beside.1.2)
    (or_right (is_hit s event x || is_parted s event x) (parts_a_pair s event && not (married s x))
    (and_from (parts_a_pair s event) (not (married s x)) (cover.parts beside.1.0 beside.1.2).1 (not_from_false (married s x) beside.0))))
    more)
    (reach_cases s event x h)
  where
    own : (is_hit s event x || is_parted s event x) ≡ true → is_hit_or_parted s event x ≡ true
    own is = or_left (is_hit s event x || is_parted s event x) (parts_a_pair s event && not (married s x)) is

covered_reached : (s : State) (event : Event) (covers : ℕ → Bool) → IsState s → Covers s event covers → (x : ℕ) → (covers x && is_hit_or_parted s event x) ≡ true → is_in_reach s event x ≡ true
covered_reached s event covers good cover x h =
    let both = and_parts (covers x) (is_hit_or_parted s event x) h in
    ⊎_elim
    (λ own. or_left (is_hit s event x || is_parted s event x) (not (married s x) && is_some (find (is_parted s event) (neighbours s.network x))) own)
    (λ near.
    let is = and_parts (parts_a_pair s event) (not (married s x)) near in
    let alone = not-true (married s x) is.1 in
    let w = cover.back x both.0 is.0 alone in
    beside_reached s event x w.0 good w.1 w.2 alone)
    (or_cases (is_hit s event x || is_parted s event x) (parts_a_pair s event && not (married s x)) both.1)

-- what is kept of two lists that cover the reach is the reach
pub reach_listed : (s : State) (event : Event) (p q : ℕ → Bool) → IsState s → Covers s event (λ x. p x || q x) → filter (is_kept p q (is_hit_or_parted s event)) (names s.network) ≡ filter (is_in_reach s event) (names s.network)
reach_listed s event p q good cover =
    filter_agree (is_kept p q (is_hit_or_parted s event)) (is_in_reach s event)
    (λ x. same_truth (is_kept p q (is_hit_or_parted s event) x) (is_in_reach s event x)
    (covered_reached s event (λ y. p y || q y) good cover x)
    (reached_covered s event (λ y. p y || q y) cover x))
    (names s.network)

never : {b : Bool} → b ≡ false → b ≡ true → ⊥
never e h = true≢false (sym h ∙ e)

-- ---- where a pair is parted

-- of both ends of a pair the neighbours
pair_covers : (s : State) (event : Event) (a b : ℕ) → IsState s → pointer s a ≡ Some b → pointer s b ≡ Some a → ((x : ℕ) → is_hit s event x ≡ true → ⊥) → ((x : ℕ) → is_parted s event x ≡ true → (x ≡ a) ⊎ (x ≡ b)) → is_parted s event a ≡ true → is_parted s event b ≡ true → parts_a_pair s event ≡ true → Covers s event (λ x. linked s.network a x || linked s.network b x)
pair_covers s event a b good at back none ends first second parts = record {
  hits = λ x hit. absurd (none x hit);
  parts = λ x parted. (
    ⊎_elim
        (λ xa. or_right (linked s.network a x) (linked s.network b x) (subst (λ y. IsTrue (linked s.network b y)) (sym xa) (linked_back s.network b a ∙ near)))
        (λ xb. or_left (linked s.network a x) (linked s.network b x) (subst (λ y. IsTrue (linked s.network a y)) (sym xb) near))
        (ends x parted),
    parts,
  );
  beside = λ x w there parted. ⊎_elim
      (λ wa. or_left (linked s.network a x) (linked s.network b x) (subst (λ y. IsTrue (linked s.network y x)) wa there))
      (λ wb. or_right (linked s.network a x) (linked s.network b x) (subst (λ y. IsTrue (linked s.network y x)) wb there))
      (ends w parted);
  back = λ x is parting alone. ⊎_elim (λ there. (a, there, first)) (λ there. (b, there, second)) (or_cases (linked s.network a x) (linked s.network b x) is);
}
  where
    near : IsTrue (linked s.network a b)
    near = pointer_linked s a b good at

same_eq : (a : ℕ) → nat_eq a a ≡ true
same_eq a = eq-eqb a a refl

mutual_from : (s : State) (v w : ℕ) → pointer s v ≡ Some w → pointer s w ≡ Some v → is_mutual s v w ≡ true
mutual_from s v w at back = and_from (points s.registers v w) (points s.registers w v) (points_from s v w at) (points_from s w v back)

-- the neighbours of both, if their edge goes
pub unlink_listed : (s : State) (a b : ℕ) → IsState s → is_mutual s a b ≡ true → filter (is_kept (linked s.network a) (linked s.network b) (is_hit_or_parted s (Unlink a b))) (names s.network) ≡ filter (is_in_reach s (Unlink a b)) (names s.network)
unlink_listed s a b good pair =
    let at = mutual_is s a b pair in
    reach_listed s (Unlink a b) (linked s.network a) (linked s.network b) good
    (pair_covers s (Unlink a b) a b good at.0 at.1 (λ x. never refl)
    (λ x h. ⊎_elim (λ low. inl (eqb-true x a low)) (λ high. inr (eqb-true x b high)) (or_cases (nat_eq x a) (nat_eq x b) (and_parts (is_mutual s a b) (nat_eq x a || nat_eq x b) h).1))
    (and_from (is_mutual s a b) (nat_eq a a || nat_eq a b) pair (or_left (nat_eq a a) (nat_eq a b) (same_eq a)))
    (and_from (is_mutual s a b) (nat_eq b a || nat_eq b b) pair (or_right (nat_eq b a) (nat_eq b b) (same_eq b)))
    pair)

-- those of a node and its partner, if its pointer changes
point_parts : (s : State) (v u : ℕ) (target : Option ℕ) → pointer s v ≡ Some u → (x : ℕ) → (is_mutual s v x || (nat_eq x v && married s v)) ≡ true → (x ≡ v) ⊎ (x ≡ u)
point_parts s v u target at x h =
    ⊎_elim
    (λ pairing. inr (same_Some x u (sym (mutual_is s v x pairing).0 ∙ at)))
    (λ own. inl (eqb-true x v (and_parts (nat_eq x v) (married s v) own).0))
    (or_cases (is_mutual s v x) (nat_eq x v && married s v) h)

point_own : (s : State) (v : ℕ) → married s v ≡ true → (is_mutual s v v || (nat_eq v v && married s v)) ≡ true
point_own s v is = or_right (is_mutual s v v) (nat_eq v v && married s v) (and_from (nat_eq v v) (married s v) (same_eq v) is)

point_other : (s : State) (v u : ℕ) → pointer s v ≡ Some u → pointer s u ≡ Some v → (is_mutual s v u || (nat_eq u v && married s v)) ≡ true
point_other s v u at back = or_left (is_mutual s v u) (nat_eq u v && married s v) (mutual_from s v u at back)

pub point_listed : (s : State) (v u : ℕ) (target : Option ℕ) → IsState s → parts_a_pair s (Point v target) ≡ true → partner s v ≡ Some u → filter (is_kept (linked s.network v) (linked s.network u) (is_hit_or_parted s (Point v target))) (names s.network) ≡ filter (is_in_reach s (Point v target)) (names s.network)
point_listed s v u None good parts paired =
    let at = partner_some s v u paired in
    reach_listed s (Point v None) (linked s.network v) (linked s.network u) good
    (pair_covers s (Point v None) v u good at.0 at.1 (λ x. never refl) (point_parts s v u None at.0) (point_own s v parts) (point_other s v u at.0 at.1) parts)
point_listed s v u (Some w) good parts paired =
    let at = partner_some s v u paired in
    let both = and_parts (not (points s.registers v w)) (married s v) parts in
    reach_listed s (Point v (Some w)) (linked s.network v) (linked s.network u) good
    (pair_covers s (Point v (Some w)) v u good at.0 at.1
    (λ x h. never (ap not both.1) (and_parts (nat_eq x v) (not (married s v)) (and_parts (nat_eq x v && not (married s v)) (not (points s.registers v w)) h).0).1)
    (λ x h. point_parts s v u (Some w) at.0 x (and_parts (not (points s.registers v w)) (is_mutual s v x || (nat_eq x v && married s v)) h).1)
    (and_from (not (points s.registers v w)) (is_mutual s v v || (nat_eq v v && married s v)) both.0 (point_own s v both.1))
    (and_from (not (points s.registers v w)) (is_mutual s v u || (nat_eq u v && married s v)) both.0 (point_other s v u at.0 at.1))
    parts)

-- the partner of one that leaves, and its neighbours
pub leave_listed : (s : State) (v u : ℕ) → IsState s → partner s v ≡ Some u → filter (is_kept (linked s.network u) (λ x. nat_eq x u) (is_hit_or_parted s (Leave v))) (names s.network) ≡ filter (is_in_reach s (Leave v)) (names s.network)
leave_listed s v u good paired = reach_listed s (Leave v) (linked s.network u) (λ x. nat_eq x u) good (record {
  hits = λ x h. absurd (never refl h);
  parts = λ x parted. (or_right (linked s.network u x) (nat_eq x u) (eq-eqb x u (is_u x parted)), ap is_some paired);
  beside = λ x w there parted. or_left (linked s.network u x) (nat_eq x u) (subst (λ y. IsTrue (linked s.network y x)) (is_u w parted) there);
  back = λ x is parting alone. ⊎_elim
      (λ there. (u, there, mutual_from s v u at.0 at.1))
      (λ own. absurd (never alone (subst (λ y. married s y ≡ true) (sym (eqb-true x u own)) (married_from s u v good at.1 at.0))))
      (or_cases (linked s.network u x) (nat_eq x u) is);
})
  where
    at : (pointer s v ≡ Some u) × (pointer s u ≡ Some v)
    at = partner_some s v u paired

    is_u : (x : ℕ) → is_mutual s v x ≡ true → x ≡ u
    is_u x parted = same_Some x u (sym (mutual_is s v x parted).0 ∙ at.0)

-- ---- where none is

-- a node that the write of a pointer may part is in a pair
own_pair : (s : State) (a x : ℕ) → IsState s → (is_mutual s a x || (nat_eq x a && married s a)) ≡ true → married s a ≡ true
own_pair s a x good h =
    ⊎_elim
    (λ pairing. let at = mutual_is s a x pairing in married_from s a x good at.0 at.1)
    (λ own. (and_parts (nat_eq x a) (married s a) own).1)
    (or_cases (is_mutual s a x) (nat_eq x a && married s a) h)

-- a parted node belongs to a parted pair
parting : (s : State) (event : Event) (x : ℕ) → IsState s → is_parted s event x ≡ true → parts_a_pair s event ≡ true
parting s (Unlink a b) x good h = (and_parts (is_mutual s a b) (nat_eq x a || nat_eq x b) h).0
parting s (Point a None) x good h = own_pair s a x good h
parting s (Point a (Some w)) x good h =
    let both = and_parts (not (points s.registers a w)) (is_mutual s a x || (nat_eq x a && married s a)) h in
    and_from (not (points s.registers a w)) (married s a) both.0 (own_pair s a x good both.1)
parting s (Leave a) x good h = let at = mutual_is s a x h in married_from s a x good at.0 at.1
parting s (Link a b) x good h = absurd (never refl h)
parting s (Flag a value) x good h = absurd (never refl h)
parting s (Join a) x good h = absurd (never refl h)
parting s (Step items) x good h = absurd (never refl h)
parting s (Show a) x good h = absurd (never refl h)
parting s Enabled x good h = absurd (never refl h)
parting s Matching x good h = absurd (never refl h)
parting s Status x good h = absurd (never refl h)

calm_covers : (s : State) (event : Event) (covers : ℕ → Bool) → IsState s → parts_a_pair s event ≡ false → ((x : ℕ) → is_hit s event x ≡ true → covers x ≡ true) → Covers s event covers
calm_covers s event covers good calm hits = record {
  hits = hits;
  parts = λ x parted. absurd (never calm (parting s event x good parted));
  beside = λ x w there parted. absurd (never calm (parting s event w good parted));
  back = λ x is parts alone. absurd (never calm parts);
}

-- the two nodes of a new edge
pub link_listed : (s : State) (a b : ℕ) → IsState s → filter (is_kept (λ x. nat_eq x a) (λ x. nat_eq x b) (is_hit_or_parted s (Link a b))) (names s.network) ≡ filter (is_in_reach s (Link a b)) (names s.network)
link_listed s a b good =
    reach_listed s (Link a b) (λ x. nat_eq x a) (λ x. nat_eq x b) good
    (calm_covers s (Link a b) (λ x. nat_eq x a || nat_eq x b) good refl (λ x h. (and_parts (not (married s a) && not (married s b)) (nat_eq x a || nat_eq x b) h).1))

-- the node whose register is written
pub write_listed : (s : State) (v : ℕ) (target : Option ℕ) → IsState s → parts_a_pair s (Point v target) ≡ false → filter (is_kept (λ x. nat_eq x v) (λ x. false) (is_hit_or_parted s (Point v target))) (names s.network) ≡ filter (is_in_reach s (Point v target)) (names s.network)
write_listed s v None good calm =
    reach_listed s (Point v None) (λ x. nat_eq x v) (λ x. false) good
    (calm_covers s (Point v None) (λ x. nat_eq x v || false) good calm (λ x h. absurd (never refl h)))
write_listed s v (Some w) good calm =
    reach_listed s (Point v (Some w)) (λ x. nat_eq x v) (λ x. false) good
    (calm_covers s (Point v (Some w)) (λ x. nat_eq x v || false) good calm
    (λ x h. or_left (nat_eq x v) false (and_parts (nat_eq x v) (not (married s v)) (and_parts (nat_eq x v && not (married s v)) (not (points s.registers v w)) h).0).0))

pub flag_listed : (s : State) (v : ℕ) (value : Bool) → IsState s → filter (is_kept (λ x. nat_eq x v) (λ x. false) (is_hit_or_parted s (Flag v value))) (names s.network) ≡ filter (is_in_reach s (Flag v value)) (names s.network)
flag_listed s v value good =
    reach_listed s (Flag v value) (λ x. nat_eq x v) (λ x. false) good
    (calm_covers s (Flag v value) (λ x. nat_eq x v || false) good refl (λ x h. or_left (nat_eq x v) false (and_parts (nat_eq x v) (cond (married s v) (not value) value) h).0))

kept_of_none : (test : ℕ → Bool) (xs : List ℕ) → filter (is_kept (λ x. false) (λ x. false) test) xs ≡ []
kept_of_none test [] = refl
kept_of_none test (x ∷ xs) = kept_of_none test xs

-- none
pub none_listed : (s : State) (event : Event) → IsState s → parts_a_pair s event ≡ false → ((x : ℕ) → is_hit s event x ≡ false) → [] ≡ filter (is_in_reach s event) (names s.network)
none_listed s event good calm none =
    sym (kept_of_none (is_hit_or_parted s event) (names s.network))
    ∙ reach_listed s event (λ x. false) (λ x. false) good (calm_covers s event (λ x. false) good calm (λ x h. absurd (never (none x) h)))

-- an event of another kind hits no node
pub unhit : (s : State) (event : Event) → ((a b : ℕ) → event ≡ Link a b → ⊥) → ((v : ℕ) (target : Option ℕ) → event ≡ Point v target → ⊥) → ((v : ℕ) (value : Bool) → event ≡ Flag v value → ⊥) → (x : ℕ) → is_hit s event x ≡ false
unhit s (Link a b) no_link no_point no_flag x = absurd (no_link a b refl)
unhit s (Point v target) no_link no_point no_flag x = absurd (no_point v target refl)
unhit s (Flag v value) no_link no_point no_flag x = absurd (no_flag v value refl)
unhit s (Unlink a b) no_link no_point no_flag x = refl
unhit s (Join v) no_link no_point no_flag x = refl
unhit s (Leave v) no_link no_point no_flag x = refl
unhit s (Step items) no_link no_point no_flag x = refl
unhit s (Show v) no_link no_point no_flag x = refl
unhit s Enabled no_link no_point no_flag x = refl
unhit s Matching no_link no_point no_flag x = refl
unhit s Status no_link no_point no_flag x = refl

pub no_names : (xs : List ℕ) → [] ≡ filter (λ x. false) xs
no_names [] = refl
no_names (x ∷ xs) = no_names xs
