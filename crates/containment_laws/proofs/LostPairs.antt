-- A run loses at most one pair of its start for each disturbance that parts a pair.
use Rattle.containment_laws.proofs.Prelude.{length, ◌≡◌, ◌≢◌, ℕ, ◌+◌, ◌≤◌, Bool, true, false, cond, not, ◌&&◌, List, [], ◌∷◌, count_by, Contains, Option, None, Some, filter_map, IsTrue, refl, sym, ap, ◌∙◌, subst, inl, inr, ◌⊎◌, ⊎_elim, arith, cons_option, true≢false, and_parts, not-true, not_from_true, Event, Reply, Accepted, State, IsState, pointer, is_mutual, RuleTable, pair_above, mutual_pairs, Answers, spent_after, Entry, Moment, pairs_apart, IsTable, contains_first, contains_rest, contains_cases, contains_empty, pair_from, pair_listed, answers_keep, end_of_path, IsIn, IsWithoutRepeats, count_into, count_all, none_count, IsInside, IsPath, names_without_repeats, AsksForWork, parts_a_pair, partings_of, partings_in, lost_pairs}
use Rattle.machine_laws.proofs.ListCounts.{count_within, count_split, count_not, count_le}
use Rattle.containment_laws.proofs.Edits.{mutual_from, mutual_is}
use Rattle.containment_laws.proofs.Containment.{calm_keeps_pair}
use Rattle.containment_laws.proofs.Partings.{lost_has, main_node, share, none_parted, unparted_stays}

-- ---- the list of pairs

pub contains_in : {X : Type 0} (x : X) (xs : List X) → Contains xs x → IsIn x xs
contains_in x [] h = absurd (contains_empty x h)
contains_in x (y ∷ xs) h = ⊎_elim (λ same. inl same) (λ there. inr (contains_in x xs there)) (contains_cases y x xs h)

pub in_contains : {X : Type 0} (x : X) (xs : List X) → IsIn x xs → Contains xs x
in_contains x [] h = absurd h
in_contains x (y ∷ xs) (inl same) = subst (Contains (y ∷ xs)) same (contains_first y xs)
in_contains x (y ∷ xs) (inr there) = contains_rest y x xs (in_contains x xs there)

in_given : {X Y : Type 0} (h : X → Option Y) (xs : List X) (y : Y) → IsIn y (filter_map h xs) → (x : X) × IsIn x xs × (h x ≡ Some y)
in_given h [] y at = absurd at
in_given {X = X} {Y = Y} h (x ∷ xs) y at = go (h x) refl (in_given h xs y) at
  where
    go : (o : Option Y) → h x ≡ o → (IsIn y (filter_map h xs) → (z : X) × IsIn z xs × (h z ≡ Some y)) → IsIn y (cons_option o (filter_map h xs)) → (z : X) × IsIn z (x ∷ xs) × (h z ≡ Some y)
    go None e more there = let rest = more there in (rest.0, inr rest.1, rest.2)
    go (Some z) e more (inl same) = (x, inl refl, e ∙ ap Some same)
    go (Some z) e more (inr there) = let rest = more there in (rest.0, inr rest.1, rest.2)

given_once : {X Y : Type 0} (h : X → Option Y) → ((x z : X) (y : Y) → h x ≡ Some y → h z ≡ Some y → x ≡ z) → (xs : List X) → IsWithoutRepeats xs → IsWithoutRepeats (filter_map h xs)
given_once h apart [] single = tt
given_once {X = X} {Y = Y} h apart (x ∷ xs) single = go (h x) refl (given_once h apart xs single.1)
  where
    go : (o : Option Y) → h x ≡ o → IsWithoutRepeats (filter_map h xs) → IsWithoutRepeats (cons_option o (filter_map h xs))
    go None e rest = rest
    go (Some y) e rest = ((λ there. let given = in_given h xs y there in single.0 (subst (λ z. IsIn z xs) (apart given.0 x y given.2 e) given.1)), rest)

above_first : (v : ℕ) (o : Option ℕ) (e : ℕ × ℕ) → pair_above v o ≡ Some e → v ≡ e.0
above_first v o e h = grind arith

pub pairs_once : (s : State) → IsWithoutRepeats (mutual_pairs s)
pairs_once s = grind (arith, given_once, above_first, names_without_repeats)

-- ---- lost pairs

-- none is lost if each stays
none_lost : (s s' : State) → ((v w : ℕ) → pointer s v ≡ Some w → pointer s w ≡ Some v → (pointer s' v ≡ Some w) × (pointer s' w ≡ Some v)) → lost_pairs s s' ≡ 0
none_lost s s' keeps = grind (arith, none_count, pair_from, in_contains, not_from_true, mutual_from)

-- one at most by an accepted disturbance: each that is lost has its first node
one_lost : (t : RuleTable) → IsTable t → (s : State) → IsState s → (n : ℕ) (event : Event) (s' : State) → Answers t s n event Accepted s' → lost_pairs s s' ≤ 1
one_lost t table s good n event s' answers =
    let into = count_into lost (mutual_pairs s) (λ e. main_node event) (λ x. true) (main_node event ∷ []) (pairs_once s) (record {
      lands = λ e there h. inl refl;
      passes = λ e there h. refl;
      apart = λ e f there also h k same. pairs_apart s e f (in_contains e (mutual_pairs s) there) (in_contains f (mutual_pairs s) also) (share e f (main_node event) (has e there h) (has f also k));
    }) in
    let one : count_by {X = ℕ} (λ x. true) (main_node event ∷ []) ≡ 1 = count_all (main_node event ∷ []) in
    omega (arith, into, one)
  where
    lost : ℕ × ℕ → Bool
    lost e = not (is_mutual s' e.0 e.1)

    has : (e : ℕ × ℕ) → IsIn e (mutual_pairs s) → IsTrue (lost e) → (e.0 ≡ main_node event) ⊎ (e.1 ≡ main_node event)
    has e there h =
        lost_has t table s good n event s' answers e (in_contains e (mutual_pairs s) there) (λ kept.
        let pair = pair_from s' e kept in
        true≢false (sym (mutual_from s' e.0 e.1 pair.there pair.back) ∙ not-true (is_mutual s' e.0 e.1) h))

-- at most `most` if the test holds, else 0
pub most_if : (b : Bool) (n most : ℕ) → (b ≡ true → n ≤ most) → (b ≡ false → n ≡ 0) → n ≤ cond b most 0
most_if true n most few none = few refl
most_if false n most few none = omega (arith, none refl)

accepted_lost : (t : RuleTable) → IsTable t → (s : State) → IsState s → (n : ℕ) (event : Event) (s' : State) → Answers t s n event Accepted s' → lost_pairs s s' ≤ cond (parts_a_pair s event) 1 0
accepted_lost t table s good n event s' answers =
    most_if (parts_a_pair s event) (lost_pairs s s') 1 (λ parts. one_lost t table s good n event s' answers)
    (λ none. none_lost s s' (λ v w at back. unparted_stays t table s good n event s' answers v w at back (none_parted s event v good none) (none_parted s event w good none)))

-- no other answer loses one
calm_lost : (t : RuleTable) → AsksForWork t → IsInside t → (s : State) → IsState s → (n : ℕ) (event : Event) (reply : Reply) (s' : State) → Answers t s n event reply s' → reply ≢ Accepted → lost_pairs s s' ≤ 0
calm_lost t asks inside s good n event reply s' answers calm =
    let zero = none_lost s s' (calm_keeps_pair t asks inside s good n event reply s' answers calm) in omega (arith, zero)

answer_lost : (t : RuleTable) → IsTable t → AsksForWork t → IsInside t → (s : State) → IsState s → (n : ℕ) (event : Event) (reply : Reply) (s' : State) → Answers t s n event reply s' → lost_pairs s s' ≤ partings_of s event reply
answer_lost t table asks inside s good n event Accepted s' answers = accepted_lost t table s good n event s' answers
answer_lost t table asks inside s good n event reply s' answers = calm_lost t asks inside s good n event reply s' answers (λ e. cc)

-- a pair that passes a test, and stays, is counted then
still_few : (s s' : State) → IsState s' → (p : ℕ × ℕ → Bool) → count_by (λ e. p e && is_mutual s' e.0 e.1) (mutual_pairs s) ≤ count_by p (mutual_pairs s')
still_few s s' good' p =
    count_within (λ e. p e && is_mutual s' e.0 e.1) p (mutual_pairs s) (mutual_pairs s') (pairs_once s) (λ e there h.
    let pair = pair_from s e (in_contains e (mutual_pairs s) there) in
    let parts = and_parts (p e) (is_mutual s' e.0 e.1) h in
    let still = mutual_is s' e.0 e.1 parts.1 in
    (contains_in e (mutual_pairs s') (pair_listed s' e.0 e.1 good' pair.ordered still.0 still.1), parts.0))

-- a pair lost on the way is lost at first or later
lost_later : (s s' s'' : State) → IsState s' → lost_pairs s s'' ≤ lost_pairs s s' + lost_pairs s' s''
lost_later s s' s'' good' =
    let gone = λ (e : ℕ × ℕ). not (is_mutual s'' e.0 e.1) in
    let at_once = count_le (λ e. gone e && not (is_mutual s' e.0 e.1)) (λ e. not (is_mutual s' e.0 e.1)) (mutual_pairs s) (λ e there h. (and_parts (gone e) (not (is_mutual s' e.0 e.1)) h).1) in
    omega (arith, count_split gone (λ e. is_mutual s' e.0 e.1) (mutual_pairs s), still_few s s' good' gone, at_once)

-- all pairs but the lost ones are left
pub pairs_left : (s s' : State) → IsState s' → length (mutual_pairs s) ≤ length (mutual_pairs s') + lost_pairs s s'
pairs_left s s' good' =
    omega (arith, count_not (λ e. is_mutual s' e.0 e.1) (mutual_pairs s), still_few s s' good' (λ e. true), count_all (mutual_pairs s'))

-- Along any path at most as many of the first pairs are lost as disturbances part one.
pub path_lost : (t : RuleTable) → IsTable t → AsksForWork t → IsInside t → (start : Moment) → IsState start.state → (path : List (Entry × State)) → IsPath t start path → lost_pairs start.state (end_of_path start.state path) ≤ partings_in start.state path
path_lost t table asks inside start good [] walk =
    let zero = none_lost start.state start.state (λ v w at back. (at, back)) in omega (arith, zero)
path_lost t table asks inside start good (((event, reply), s) ∷ path) (answers, walk) =
    let good' = answers_keep t table start.state good start.spent event reply s answers in
    let here = answer_lost t table asks inside start.state good start.spent event reply s answers in
    let later = path_lost t table asks inside (record { state = s; spent = spent_after start.spent reply }) good' path walk in
    let both = lost_later start.state s (end_of_path s path) good' in
    omega (arith, here, later, both)
