-- A node that is counted at one name after another, as open or not as it is now.
use Rattle.suitor_index.proofs.Prelude.{◌≡◌, ◌≢◌, ℕ, ◌+◌, ◌<◌, ◌≤◌, Bool, true, false, cond, ◌&&◌, ◌||◌, List, length, get_or, take, nat_eq, nat_lt, refl, sym, ap, ap₂, subst, ◌∙◌, ⊎_elim, arith, list_any, both_ways, IsStrictlyIncreasing, and_parts, cases_eq, le-ltb, ltb-false, ltb-true, or_cases, ne_eqb, eqb-true, eq-eqb, true≢false, get_or-take, get_or_default, length-take, take_all, Any-from_list_any, list_any_more, list_any_at, AllPairs-from_increasing, and_right, or-false, Option, is_none, nat_le, Tally, asks_for, tally_of, CanTurn, HasNoneAlone, IsTurned, is_null_with_none_but, one_if, not_before}

-- two tests that don't both pass are counted one after the other
one_or : (a b : Bool) → (b ≡ true → a ≡ false) → one_if (a || b) ≡ one_if a + one_if b
one_or a b apart = grind arith

-- what was and is counted at the places of two tests that don't both pass
turned_sum : (was is : Bool) (x y z p q r : ℕ) → r ≡ p + q → y + cond was p 0 ≡ x + cond is p 0 → z + cond was q 0 ≡ y + cond is q 0 → z + cond was r 0 ≡ x + cond is r 0
turned_sum was is x y z p q r e first second = grind arith

pub turned_both : (was is : Bool) (p q r : ℕ → Bool) (a b c : List Tally) → ((k : ℕ) → q k ≡ true → p k ≡ false) → ((k : ℕ) → r k ≡ (p k || q k)) → IsTurned p was is a b → IsTurned q was is b c → IsTurned r was is a c
turned_both was is p q r a b c apart joined first second = record {
  places = second.places ∙ first.places;
  suitors = λ k. second.suitors k ∙ first.suitors k;
  sum = λ k. second.sum k ∙ first.sum k;
  aims = λ k. second.aims k ∙ first.aims k;
  reached = λ k. turned_sum was is _ _ _ _ _ _ (ap one_if (joined k) ∙ one_or (p k) (q k) (apart k)) (first.reached k) (second.reached k);
}

-- the same places by another test
pub turned_alike : (was is : Bool) (p q : ℕ → Bool) (a b : List Tally) → ((k : ℕ) → p k ≡ q k) → IsTurned p was is a b → IsTurned q was is a b
turned_alike was is p q a b same told = record {
  places = told.places;
  suitors = told.suitors;
  sum = told.sum;
  aims = told.aims;
  reached = λ k. subst (λ t. (tally_of b k).reached + cond was (one_if t) 0 ≡ (tally_of a k).reached + cond is (one_if t) 0) (same k) (told.reached k);
}

-- the names so far and the next
pub near_more : (nodes : List ℕ) (i w k : ℕ) → i < length nodes → w ≡ get_or nodes i w → list_any (nat_eq k) (take (i + 1) nodes) ≡ (list_any (nat_eq k) (take i nodes) || nat_eq k w)
near_more nodes i w k inside is = list_any_more (nat_eq k) nodes i w inside ∙ ap (λ x. list_any (nat_eq k) (take i nodes) || nat_eq k x) (sym is)

-- the next is none of those so far
pub near_apart : (nodes : List ℕ) (i w k : ℕ) → IsStrictlyIncreasing nodes → i < length nodes → w ≡ get_or nodes i w → nat_eq k w ≡ true → list_any (nat_eq k) (take i nodes) ≡ false
near_apart nodes i w k rising inside is same = ap (λ x. list_any (nat_eq x) (take i nodes)) (eqb-true k w same) ∙ not_before nodes i w rising inside is

-- the next is one of all
pub near_there : (nodes : List ℕ) (i w : ℕ) → i < length nodes → w ≡ get_or nodes i w → list_any (nat_eq w) nodes ≡ true
near_there nodes i w inside is = list_any_at (nat_eq w) nodes i w inside (eq-eqb w (get_or nodes i w) is)

-- at a place that does not pass a node can turn as before
still : (was is t : Bool) (x y : ℕ) → t ≡ false → y + cond was (one_if t) 0 ≡ x + cond is (one_if t) 0 → y ≡ x
still was is t x y e same = grind arith

can_turn_by : (was is : Bool) (s t : Tally) → t.reached ≡ s.reached → CanTurn was is s → CanTurn was is t
can_turn_by true true s t same can = can
can_turn_by true false s t same can = omega arith
can_turn_by false true s t same can = omega arith
can_turn_by false false s t same can = can

pub can_turn_still : (was is : Bool) (p : ℕ → Bool) (a b : List Tally) (w : ℕ) → IsTurned p was is a b → p w ≡ false → CanTurn was is (tally_of a w) → CanTurn was is (tally_of b w)
can_turn_still was is p a b w told fails =
    can_turn_by was is (tally_of a w) (tally_of b w) (still was is (p w) _ _ fails (told.reached w))

-- v is asked for at each of the names so far
abbrev pub AllAsk : Bool → ℕ → List ℕ → Type 0
AllAsk above v nodes = (k : ℕ) → list_any (nat_eq k) nodes ≡ true → asks_for above k v ≡ true

pub all_ask_more : (above : Bool) (v : ℕ) (nodes : List ℕ) (i w : ℕ) → i < length nodes → w ≡ get_or nodes i w → asks_for above w v ≡ true → AllAsk above v (take i nodes) → AllAsk above v (take (i + 1) nodes)
all_ask_more above v nodes i w inside is asks so_far k listed =
    ⊎_elim
    (λ (before : list_any (nat_eq k) (take i nodes) ≡ true). so_far k before)
    (λ (here : nat_eq k w ≡ true). ap (λ x. asks_for above x v) (eqb-true k w here) ∙ asks)
    (or_cases (list_any (nat_eq k) (take i nodes)) (nat_eq k w) (sym (near_more nodes i w k inside is) ∙ listed))

-- what is among the first is among all
taken_any : (p : ℕ → Bool) (nodes : List ℕ) (i : ℕ) → list_any p (take i nodes) ≡ true → list_any p nodes ≡ true
taken_any p nodes i found =
    let (k, x, low, at, passes) = Any-from_list_any p (take i nodes) found in
    list_any_at p nodes k x (omega (arith, low, length-take i nodes)) (ap p (sym (get_or-take i nodes k x (omega (arith, low, length-take i nodes))) ∙ at) ∙ passes)

-- a name below the index's is before it
any_before : (nodes : List ℕ) (i w k : ℕ) → IsStrictlyIncreasing nodes → i < length nodes → w ≡ get_or nodes i w → list_any (nat_eq k) nodes ≡ true → (w ≤ k → ⊥) → list_any (nat_eq k) (take i nodes) ≡ true
any_before nodes i w k rising inside is listed below =
    let (j, x, low, at, passes) = Any-from_list_any (nat_eq k) nodes listed in
    let same : k ≡ x = eqb-true k x passes in
    let found : get_or nodes j w ≡ k = get_or_default nodes j w x low ∙ at ∙ sym same in
    place j x low at passes found (nat_lt j i) refl
  where
    place : (j x : ℕ) → j < length nodes → get_or nodes j x ≡ x → nat_eq k x ≡ true → get_or nodes j w ≡ k → (b : Bool) → nat_lt j i ≡ b → list_any (nat_eq k) (take i nodes) ≡ true
    place j x low at passes found true before =
        let lt = ltb-true j i before in
        list_any_at (nat_eq k) (take i nodes) j x (omega (arith, lt, low, length-take i nodes)) (ap (nat_eq k) (get_or-take i nodes j x lt ∙ at) ∙ passes)
    place j x low at passes found false after =
        let ge = ltb-false j i after in
        absurd (below (⊎_elim
        (λ (here : i ≡ j). let e = ap (λ n. get_or nodes n w) here in omega (arith, e, found, is))
        (λ (apart : i ≢ j). let lt = AllPairs-from_increasing nodes rising i j w (omega arith) low in omega (arith, lt, found, is))
        (cases_eq i j)))

-- a name that does not ask is above v, and so is every later name
later_ask_not : (above : Bool) (v w k : ℕ) → asks_for above w v ≡ false → w ≤ k → asks_for above k v ≡ false
later_ask_not true v w k none later = let high = ltb-false w v none in le-ltb k v (omega arith)
later_ask_not false v w k none later = absurd (let e : true ≡ false = none in cc)

-- if one does not ask, those so far are all that do
pub asked_so_far : (above : Bool) (v : ℕ) (nodes : List ℕ) (i w k : ℕ) → IsStrictlyIncreasing nodes → i < length nodes → w ≡ get_or nodes i w → asks_for above w v ≡ false → AllAsk above v (take i nodes) → list_any (nat_eq k) (take i nodes) ≡ (list_any (nat_eq k) nodes && asks_for above k v)
asked_so_far above v nodes i w k rising inside is none so_far = both_ways _ _ there back
  where
    there : list_any (nat_eq k) (take i nodes) ≡ true → (list_any (nat_eq k) nodes && asks_for above k v) ≡ true
    there listed = ap₂ (λ (a b : Bool). a && b) (taken_any (nat_eq k) nodes i listed) (so_far k listed)

    back : (list_any (nat_eq k) nodes && asks_for above k v) ≡ true → list_any (nat_eq k) (take i nodes) ≡ true
    back both =
        let parts = and_parts (list_any (nat_eq k) nodes) (asks_for above k v) both in
        any_before nodes i w k rising inside is parts.0 (λ later. true≢false (sym parts.1 ∙ later_ask_not above v w k none later))

-- if all that ask were asked, those are all that ask
pub asked_all : (above : Bool) (v : ℕ) (nodes : List ℕ) (i : ℕ) → length nodes ≤ i → AllAsk above v (take i nodes) → (k : ℕ) → list_any (nat_eq k) (take i nodes) ≡ (list_any (nat_eq k) nodes && asks_for above k v)
asked_all above v nodes i end asked k =
    both_ways _ _
    (λ listed. ap₂ (λ (a b : Bool). a && b) (ap (list_any (nat_eq k)) (sym (take_all i nodes end)) ∙ listed) (asked k listed))
    (λ both. ap (list_any (nat_eq k)) (take_all i nodes end) ∙ (and_parts (list_any (nat_eq k) nodes) (asks_for above k v) both).0)

-- if none of those so far is alone, nor is the next, then none of both is
pub none_more : (was is : Bool) (nodes : List ℕ) (i w : ℕ) (b c : List Tally) → i < length nodes → w ≡ get_or nodes i w → IsTurned (λ k. nat_eq k w) was is b c → HasNoneAlone (λ k. list_any (nat_eq k) (take i nodes)) is b → is_null_with_none_but is (tally_of c w) ≡ false → HasNoneAlone (λ k. list_any (nat_eq k) (take (i + 1) nodes)) is c
none_more was is nodes i w b c inside at told so_far next k =
    ap (λ (p : Bool). p && is_null_with_none_but is (tally_of c k)) (near_more nodes i w k inside at)
    ∙ ⊎_elim
    (λ (same : k ≡ w). and_right (list_any (nat_eq k) (take i nodes) || nat_eq k w) (is_null_with_none_but is (tally_of c k)) (ap (λ x. is_null_with_none_but is (tally_of c x)) same ∙ next))
    (λ (apart : k ≢ w).
    let other = ne_eqb k w apart in
    ap₂ (λ (p q : Bool). (list_any (nat_eq k) (take i nodes) || p) && q) other
    (ap₂ (λ (o : Option ℕ) (n : ℕ). is_none o && nat_le n (one_if is)) (told.aims k) (still was is (nat_eq k w) _ _ other (told.reached k)))
    ∙ ap (λ (p : Bool). p && is_null_with_none_but is (tally_of b k)) (or-false (list_any (nat_eq k) (take i nodes)))
    ∙ so_far k)
    (cases_eq k w)

-- those so far are all that ask
pub none_asked : (p q : ℕ → Bool) (is : Bool) (b : List Tally) → ((k : ℕ) → p k ≡ q k) → HasNoneAlone p is b → HasNoneAlone q is b
none_asked p q is b same none k = ap (λ (x : Bool). x && is_null_with_none_but is (tally_of b k)) (sym (same k)) ∙ none k
