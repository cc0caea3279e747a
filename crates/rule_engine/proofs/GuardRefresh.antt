-- Looks again at several nodes.
use Rattle.rule_engine.proofs.Prelude.{◌≡◌, ℕ, ◌+◌, ◌<◌, Bool, true, false, cond, ◌&&◌, ◌||◌, List, [], ◌∷◌, length, take, get_or, find, Some, is_some, nat_eq, refl, sym, ap, ap₂, ◌∙◌, arith, or_assoc, list_any, and_right, eqb-true, or_parts, list_any_more, IsNetwork, linked, neighbours, State, suits, has_suitor, RuleTable, is_enabled_at, is_suitor, IsRefreshed}
use Rattle.suitor_index.proofs.NeighbourSums.{listed_is_linked}

-- no look
pub looked_none : (t : RuleTable) (s : State) (bits : List Bool) → IsRefreshed t s (λ w. false) bits bits
looked_none t s bits = record { places = refl; each = λ w. refl }

-- a look at some nodes, and then at others
pub looked_both : (t : RuleTable) (s : State) (p q : ℕ → Bool) (a b c : List Bool) → IsRefreshed t s p a b → IsRefreshed t s q b c → IsRefreshed t s (λ w. p w || q w) a c
looked_both t s p q a b c first next = record {
  places = next.places ∙ first.places;
  each = λ w. next.each w ∙ ap (cond (q w) (is_enabled_at t s w)) (first.each w) ∙ by_tests (p w) (q w) (is_enabled_at t s w) (get_or a w false);
}
  where
    by_tests : (p q x y : Bool) → cond q x (cond p x y) ≡ cond (p || q) x y
    by_tests p q x y = grind arith

-- the same nodes, named by another test
pub looked_alike : (t : RuleTable) (s : State) (p q : ℕ → Bool) (a b : List Bool) → ((w : ℕ) → p w ≡ q w) → IsRefreshed t s p a b → IsRefreshed t s q a b
looked_alike t s p q a b agree looked = record {
  places = looked.places;
  each = λ w. looked.each w ∙ ap (λ x. cond x (is_enabled_at t s w) (get_or a w false)) (agree w);
}

-- one more of the nodes that a test names by one item of a list
pub looked_more : {X : Type 0} (t : RuleTable) (s : State) (p : ℕ → Bool) (q : X → ℕ → Bool) (xs : List X) (i : ℕ) (x : X) (a b c : List Bool) → i < length xs → x ≡ get_or xs i x → IsRefreshed t s (λ w. p w || list_any (λ y. q y w) (take i xs)) a b → IsRefreshed t s (q x) b c → IsRefreshed t s (λ w. p w || list_any (λ y. q y w) (take (i + 1) xs)) a c
looked_more t s p q xs i x a b c within is first next =
    looked_alike t s (λ w. (p w || list_any (λ y. q y w) (take i xs)) || q x w) (λ w. p w || list_any (λ y. q y w) (take (i + 1) xs)) a c
    (λ w. or_assoc (p w) (list_any (λ y. q y w) (take i xs)) (q x w) ∙ ap (λ y. p w || (list_any (λ z. q z w) (take i xs) || q y w)) is ∙ ap (λ o. p w || o) (sym (list_any_more (λ y. q y w) xs i x within)))
    (looked_both t s (λ w. p w || list_any (λ y. q y w) (take i xs)) (q x) a b c first next)

-- a test of a name, with which item it is
any_at : (c : ℕ → Bool) (w : ℕ) (xs : List ℕ) → list_any (λ y. nat_eq w y && c y) xs ≡ (list_any (nat_eq w) xs && c w)
any_at c w [] = refl
any_at c w (y ∷ ys) =
    ap (λ b. (nat_eq w y && c y) || b) (any_at c w ys) ∙ shared (nat_eq w y) (list_any (nat_eq w) ys) (c y) (c w) (λ same. ap c (sym (eqb-true w y same)))
  where
    shared : (e b x y : Bool) → (e ≡ true → x ≡ y) → ((e && x) || (b && y)) ≡ ((e || b) && y)
    shared e b x y h = grind arith

-- a search finds an item exactly if one passes
pub found_any : (p : ℕ → Bool) (xs : List ℕ) → is_some (find p xs) ≡ list_any p xs
found_any p [] = refl
found_any p (x ∷ xs) = by (p x) (found_any p xs)
  where
    by : (b : Bool) → is_some (find p xs) ≡ list_any p xs → is_some (cond b (Some x) (find p xs)) ≡ (b || list_any p xs)
    by true e = refl
    by false e = e

-- if none passes no item does
none_at : (c : ℕ → Bool) (w : ℕ) (xs : List ℕ) → list_any c xs ≡ false → list_any (λ y. nat_eq w y && c y) xs ≡ false
none_at c w [] e = refl
none_at c w (y ∷ ys) e =
    let parts = or_parts (c y) (list_any c ys) e in ap₂ (λ (a b : Bool). a || b) (and_right (nat_eq w y) (c y) parts.0) (none_at c w ys parts.1)

-- if no node points at a node there is none to look at
pub looked_unsuited : (t : RuleTable) (s : State) (v : ℕ) (bits : List Bool) → IsNetwork s.network → has_suitor s v ≡ false → IsRefreshed t s (is_suitor s v) bits bits
looked_unsuited t s v bits good none =
    looked_alike t s (λ w. false) (is_suitor s v) bits bits
    (λ w. sym (sym (ap (λ b. b && suits s v w) (listed_is_linked s.network v w good)) ∙ sym (any_at (suits s v) w (neighbours s.network v)) ∙ none_at (suits s v) w (neighbours s.network v) (sym (found_any (suits s v) (neighbours s.network v)) ∙ none)))
    (looked_none t s bits)

-- looks at those neighbours that pass, one after another
pub looked_neighbours : (t : RuleTable) (s : State) (v : ℕ) (c : ℕ → Bool) (list : List ℕ) (a b : List Bool) → IsNetwork s.network → list ≡ neighbours s.network v → IsRefreshed t s (λ w. list_any (λ y. nat_eq w y && c y) list) a b → IsRefreshed t s (λ w. linked s.network v w && c w) a b
looked_neighbours t s v c list a b good is looked =
    looked_alike t s (λ w. list_any (λ y. nat_eq w y && c y) list) (λ w. linked s.network v w && c w) a b
    (λ w. ap (list_any (λ y. nat_eq w y && c y)) is ∙ any_at c w (neighbours s.network v) ∙ ap (λ b. b && c w) (listed_is_linked s.network v w good)) looked
