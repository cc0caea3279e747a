-- The nodes that a scan of all names finds are those of a base.
use Rattle.net_state.proofs.Prelude.{◌≡◌, ℕ, ◌+◌, Bool, true, false, cond, List, ◌∷◌, ◌++◌, map, filter, filter_map, Option, None, Some, SomeIff, option_to_list, refl, sym, ap, ◌∙◌, subst, arith, range_with_len, cons_option, map-id, map-range_with_len_more, filter_map-append, present, State, node_record_at, node_records, place_in, []}

found_in : (s : State) (xs : List ℕ) → filter_map (place_in s) xs ≡ map (node_record_at s) (filter (present s.network) xs)
found_in s [] = refl
found_in s (v ∷ xs) = step (present s.network v) (found_in s xs)
  where
    step : (b : Bool) → filter_map (place_in s) xs ≡ map (node_record_at s) (filter (present s.network) xs) → cons_option (cond b (Some (node_record_at s v)) None) (filter_map (place_in s) xs) ≡ map (node_record_at s) (cond b (v ∷ filter (present s.network) xs) (filter (present s.network) xs))
    step true rest = ap (λ l. node_record_at s v ∷ l) rest
    step false rest = rest

pub places_found : (s : State) → filter_map (place_in s) (range_with_len 1 s.network.size) ≡ node_records s
places_found s = found_in s (range_with_len 1 s.network.size)

pub some_iff_at : {X : Type 0} (o : Option X) (P : Type 0) (v x : X) → SomeIff o P v → o ≡ Some x → x ≡ v
some_iff_at o P v x h e = (let k : P × (x ≡ v) = subst (λ q. SomeIff q P v) e h in k).1

range_more : (a n : ℕ) → range_with_len a (n + 1) ≡ range_with_len a n ++ (a + n) ∷ []
range_more a n =
    sym (map-id (range_with_len a (n + 1))) ∙ map-range_with_len_more (λ x. x) a n (a + n) refl ∙ ap (λ l. l ++ (a + n) ∷ []) (map-id (range_with_len a n))

one_found : {X : Type 0} (o : Option X) → cons_option o [] ≡ option_to_list o
one_found None = refl
one_found (Some x) = refl

-- what is found up to the next name
pub found_more : {X : Type 0} (f : ℕ → Option X) (n v : ℕ) → v ≡ n + 1 → filter_map f (range_with_len 1 (n + 1)) ≡ filter_map f (range_with_len 1 n) ++ option_to_list (f v)
found_more f n v is =
    ap (filter_map f) (range_more 1 n ∙ ap (λ x. range_with_len 1 n ++ x ∷ []) (let same : 1 + n ≡ v = omega (arith, is) in same))
    ∙ filter_map-append f (range_with_len 1 n) (v ∷ [])
    ∙ ap (λ l. filter_map f (range_with_len 1 n) ++ l) (one_found (f v))
