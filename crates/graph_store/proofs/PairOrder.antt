-- What a set of pairs has after a change.
use Rattle.graph_store.proofs.Prelude.{◌≡◌, ℕ, Bool, true, false, cond, not, ◌&&◌, ◌||◌, ◌+◌, ◌-◌, List, [], ◌∷◌, eqb, sym, ap, ◌∙◌, ◌≤◌, arith, cases_lt, list_any, eq_by_cmp, nat_cmp, both_tied, unsigned_ties, pair_cmp, pair_set, PairSet, pair_total, pair_exact, contains-insert, contains-remove, contains-empty, unit_some}
use Rattle.std.specs.FinMap as map

-- whether two pairs are one
abbrev pub same_pair : ℕ × ℕ → ℕ × ℕ → Bool
same_pair p q = eqb p.0 q.0 && eqb p.1 q.1

-- two pairs tie if both their parts are equal
pair_tied : (p q : ℕ × ℕ) → eq_by_cmp pair_cmp p q ≡ same_pair p q
pair_tied p q =
    sym (both_tied (eqb p.0 q.0) (eqb p.1 q.1) (nat_cmp p.0 q.0) (nat_cmp p.1 q.1) (unsigned_ties p.0 q.0) (unsigned_ties p.1 q.1))

-- an inserted pair is there, and all others are as they were
pub has-insert : (s : PairSet) (p q : ℕ × ℕ) → map.contains_key (map.insert s p tt) q ≡ (same_pair q p || map.contains_key s q)
has-insert s p q = contains-insert s p q ∙ ap (λ b. b || map.contains_key s q) (pair_tied q p)

-- a removed pair is not there, and all others are as they were
pub has-remove : (s : PairSet) (p q : ℕ × ℕ) → map.contains_key (map.remove s p) q ≡ (not (same_pair q p) && map.contains_key s q)
has-remove s p q = contains-remove s p q ∙ ap (λ b. not b && map.contains_key s q) (pair_tied q p)

-- the set of a list has the list's pairs
pub has-pair_set : (ps : List (ℕ × ℕ)) (q : ℕ × ℕ) → map.contains_key (pair_set ps) q ≡ list_any (same_pair q) ps
has-pair_set [] q = contains-empty q
has-pair_set (p ∷ ps) q = has-insert (pair_set ps) p q ∙ ap (λ b. same_pair q p || b) (has-pair_set ps q)

-- a pair that is new adds one
pub count-insert : (s : PairSet) (p : ℕ × ℕ) → map.contains_key s p ≡ false → map.len (map.insert s p tt) ≡ map.len s + 1
count-insert s p absent = map.len-insert pair_total s p tt ∙ ap (λ b. cond b (map.len s) (map.len s + 1)) absent

-- a pair that was there takes one away
pub count-remove : (s : PairSet) (p : ℕ × ℕ) → map.contains_key s p ≡ true → map.len (map.remove s p) ≡ map.len s - 1
count-remove s p there = map.len-remove pair_total s p ∙ ap (λ b. cond b (map.len s - 1) (map.len s)) there

-- a set with a pair has one to count
pub count-some : (s : PairSet) (p : ℕ × ℕ) → map.contains_key s p ≡ true → 1 ≤ map.len s
count-some s p there =
    let none = map.empty_of_len s in
    grind (arith, cases_lt, contains-empty)

-- an empty set has no pair to count
pub count-empty : map.len (map.empty {X = Unit {0}} {R = pair_cmp}) ≡ 0
count-empty = map.len-empty pair_cmp (Unit {0})

-- two sets with the same pairs are equal
pub same_pairs : (s t : PairSet) → ((a b : ℕ) → map.contains_key s (a, b) ≡ map.contains_key t (a, b)) → s ≡ t
same_pairs s t same =
    map.same_map pair_total pair_exact s t (λ q. unit_some (map.get s q) (map.get t q) (same q.0 q.1))
