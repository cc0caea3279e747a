-- How many pairs of a set pass a test after a pair is added or removed.
use Rattle.machine_laws.proofs.ChargePrelude.{◌≡◌, ℕ, ◌+◌, ◌≤◌, Bool, true, false, cond, not, ◌&&◌, Some, is_some, List, [], ◌∷◌, count_by, sym, ap, ◌∙◌, arith, is_eq, Ordering, by_order, put, eq_by_cmp_equiv, length-map, sum_by-cons, count_by-le-length, PairSet, pair_cmp, pair_total, pair_exact, contains-remove, tells_apart, Less, Equal, Greater}
use Rattle.std.proofs.Common.{map as list_map}
use Rattle.std.specs.FinMap as map
use Rattle.std.specs.FinMap.Entries.{find}

-- the pairs of a list of entries
abbrev pairs_of : List ((ℕ × ℕ) × Unit {0}) → List (ℕ × ℕ)
pairs_of es = list_map (λ e. e.0) es

-- an entry added at a new pair is counted once, and the others as before
count_put : (p : ℕ × ℕ → Bool) (k : ℕ × ℕ) (es : List ((ℕ × ℕ) × Unit {0})) → is_some (find pair_cmp k es) ≡ false → count_by p (pairs_of (put pair_cmp k tt es)) ≡ count_by p (pairs_of es) + cond (p k) 1 0
count_put p k [] new = sum_by-cons (λ x. cond (p x) 1 0) k [] ∙ omega arith
count_put p k (e ∷ es) new = go (pair_cmp k e.0) (count_put p k es) new
  where
    go : (r : Ordering) → (is_some (find pair_cmp k es) ≡ false → count_by p (pairs_of (put pair_cmp k tt es)) ≡ count_by p (pairs_of es) + cond (p k) 1 0) → is_some (cond (is_eq r) (Some e.1) (find pair_cmp k es)) ≡ false → count_by p (pairs_of (by_order r ((k, tt) ∷ e ∷ es) ((e.0, tt) ∷ es) (e ∷ put pair_cmp k tt es))) ≡ count_by p (pairs_of (e ∷ es)) + cond (p k) 1 0
    go Less more h = let whole = sum_by-cons (λ x. cond (p x) 1 0) k (pairs_of (e ∷ es)) in omega (arith, whole)
    go Equal more h = absurd cc
    go Greater more h =
        let after = sum_by-cons (λ x. cond (p x) 1 0) e.0 (pairs_of (put pair_cmp k tt es)) in
        let before = sum_by-cons (λ x. cond (p x) 1 0) e.0 (pairs_of es) in
        let rest = more h in
        omega (arith, after, before, rest)

-- A set with one pair more has that pair more to count, if it passes.
pub count_with : (p : ℕ × ℕ → Bool) (s : PairSet) (k : ℕ × ℕ) → map.contains_key s k ≡ false → count_by p (map.keys (map.insert s k tt)) ≡ count_by p (map.keys s) + cond (p k) 1 0
count_with p s k absent =
    ap (λ es. count_by p (pairs_of es)) (map.entries-insert pair_total s k tt)
    ∙ count_put p k (map.entries s) (ap is_some (sym (map.get-entries s k)) ∙ absent)

-- a removed pair is absent
pub taken_out : (s : PairSet) (k : ℕ × ℕ) → map.contains_key (map.remove s k) k ≡ false
taken_out s k = contains-remove s k k ∙ ap (λ b. not b && map.contains_key s k) ((eq_by_cmp_equiv pair_total).refl k)

-- a pair that is removed and added again was there before
put_back : (s : PairSet) (k : ℕ × ℕ) → map.contains_key s k ≡ true → map.insert (map.remove s k) k tt ≡ s
put_back s k there =
    map.same_map pair_total pair_exact (map.insert (map.remove s k) k tt) s (λ q. grind (arith, map.get-insert pair_total (map.remove s k) k tt q, map.get-remove pair_total s k q, tells_apart))

-- A set with one pair less has that pair less to count, if it passes.
pub count_without : (p : ℕ × ℕ → Bool) (s : PairSet) (k : ℕ × ℕ) → map.contains_key s k ≡ true → count_by p (map.keys s) ≡ count_by p (map.keys (map.remove s k)) + cond (p k) 1 0
count_without p s k there =
    ap (λ (t : PairSet). count_by p (map.keys t)) (sym (put_back s k there)) ∙ count_with p (map.remove s k) k (taken_out s k)

-- No more pairs pass a test than there are.
pub count_all_few : (p : ℕ × ℕ → Bool) (s : PairSet) → count_by p (map.keys s) ≤ map.len s
count_all_few p s = omega (arith, count_by-le-length p (map.keys s), length-map (map.entries s) (λ e. e.0), map.len-entries s)

-- an empty set has nothing to count
pub count_empty : (p : ℕ × ℕ → Bool) → count_by p (map.keys (map.empty {X = Unit {0}} {R = pair_cmp})) ≡ 0
count_empty p = omega (arith, count_all_few p map.empty, map.len-empty pair_cmp (Unit {0}))
