-- The set of enabled nodes: it is exact if no name is due, and an entry leaves it so outside the marked
-- names.
use Rattle.judged_rounds.proofs.Prelude.{◌≡◌, ◌≢◌, ℕ, suc, ◌+◌, ◌<◌, ◌≤◌, Bool, true, false, cond, Option, None, map, has, drop, ◌++◌, take-append_seam, get_or-map, map-set, length-map, ◌&&◌, ◌||◌, List, [], ◌∷◌, length, get_or, set, take, filter, replicate, nat_eq, is_some, IsTrue, refl, sym, ap, ◌∙◌, subst, inl, inr, ◌⊎◌, ⊎_elim, arith, and_from, cases_eq, cases_lt, true≢false, false_from_ne_true, ne_eqb, get_or-set_same, get_or-set_other, get_or_past, get_or-replicate, length-set, length-replicate, list_any_more, filter_agree, range_with_len, is_in, members, AreNoted, RemovedNames, inside, present, present_range, State, IsState, Event, Reply, RuleTable, rule_at, enabled_names, followed, AreOnBut, MarksAll, is_affected, witness_at, Witness, AgreeAt, RestsOn, is_on}
use Rattle.judged_rounds.proofs.Unhit.{unaffected_agree, followed_size}

-- ---- marks

-- a name is marked
pub marked_one : (size v : ℕ) (was is : List Bool) → v < length was → is ≡ set was v true → MarksAll size (λ u. nat_eq u v) was is
marked_one size v was is there put = record {
  places = ap length put ∙ length-set was v true;
  others = λ u low none.
      ⊎_elim
      (λ (same : u ≡ v). absurd (true≢false (sym (ap (is_in is) same ∙ ap (λ l. is_in l v) put ∙ get_or-set_same was v true false there) ∙ none)))
      (λ (apart : u ≢ v). (sym (ap (λ l. is_in l u) put ∙ get_or-set_other was v u true false apart) ∙ none, ne_eqb u v apart))
      (cases_eq u v);
}

-- a name beyond the size is none of those that count
pub marked_none : (size v : ℕ) (was : List Bool) → size < v → MarksAll size (λ u. nat_eq u v) was was
marked_none size v was past = record { places = refl; others = λ u low none. (none, ne_eqb u v (λ same. omega (arith, same, past, low))) }

-- first the one, then the other
pub marked_both : (size : ℕ) (p q : ℕ → Bool) (a b c : List Bool) → MarksAll size p a b → MarksAll size q b c → MarksAll size (λ u. p u || q u) a c
marked_both size p q a b c x y = record {
  places = y.places ∙ x.places;
  others = λ u low none. let second = y.others u low none in let first = x.others u low second.0 in (first.0, neither (p u) (q u) first.1 second.1);
}
  where
    neither : (m n : Bool) → m ≡ false → n ≡ false → (m || n) ≡ false
    neither m n e f = grind arith

-- a test that asks for less
pub marked_fewer : (size : ℕ) (p q : ℕ → Bool) (was is : List Bool) → ((u : ℕ) → p u ≡ false → q u ≡ false) → MarksAll size p was is → MarksAll size q was is
marked_fewer size p q was is less x = record { places = x.places; others = λ u low none. let it = x.others u low none in (it.0, less u it.1) }

-- the marks of the names in a list that pass a test, one by one
pub marked_passing : (size : ℕ) (p : ℕ → Bool) (xs : List ℕ) (i x : ℕ) (a b c : List Bool) → i < length xs → x ≡ get_or xs i x → MarksAll size (λ u. has (take i xs) u && p u) a b → MarksAll size (λ u. nat_eq u x && p u) b c → MarksAll size (λ u. has (take (i + 1) xs) u && p u) a c
marked_passing size p xs i x a b c low is so_far here =
    marked_fewer size (λ u. (has (take i xs) u && p u) || (nat_eq u x && p u)) (λ u. has (take (i + 1) xs) u && p u) a c
    (λ u none. ap (λ h. h && p u) (list_any_more (nat_eq u) xs i x low ∙ ap (λ y. has (take i xs) u || nat_eq u y) (sym is)) ∙ split (has (take i xs) u) (nat_eq u x) (p u) ∙ none)
    (marked_both size (λ u. has (take i xs) u && p u) (λ u. nat_eq u x && p u) a b c so_far here)
  where
    split : (m n o : Bool) → ((m || n) && o) ≡ ((m && o) || (n && o))
    split m n o = grind arith

-- a slice of a whole `Vec` is put back
pub put_back : (k : ℕ) (new old : List Witness) → length new ≡ k → take k (new ++ drop (length new) old) ≡ new
put_back k new old same = ap (λ (n : ℕ). take n (new ++ drop (length new) old)) (sym same) ∙ take-append_seam new (drop (length new) old)

-- the witness at an index
pub witness_is : (witnesses : List Witness) (v : ℕ) (witness : Witness) → v < length witnesses → witness ≡ get_or witnesses v witness → witness_at witnesses v ≡ witness.node
witness_is witnesses v witness there is = get_or-map (λ w. w.node) witnesses v witness None there ∙ ap (λ (w : Witness). w.node) (sym is)

-- ---- the set

-- a look at a name
pub looked_more : (t : RuleTable) (s : State) (bits bits' due due' : List Bool) (witnesses : List Witness) (v at : ℕ) (witness : Witness) → length witnesses ≡ length bits → at ≡ v → is_in due v ≡ true → due' ≡ set due v false → bits' ≡ set bits v (is_on t s v) → RestsOn t s v witness.node → AreOnBut t s bits due witnesses → AreOnBut t s bits' due' (set witnesses at witness)
looked_more t s bits bits' due due' witnesses v at witness long there marked taken put seen on = record {
  places = ap length put ∙ length-set bits v (is_on t s v) ∙ on.places;
  due_places = ap length taken ∙ length-set due v false ∙ on.due_places;
  each = λ u none.
      ⊎_elim
      (λ (same : u ≡ v). ap (is_in bits') same ∙ ap (λ l. is_in l v) put ∙ get_or-set_same bits v (is_on t s v) false low ∙ ap (is_on t s) (sym same))
      (λ (apart : u ≢ v). ap (λ l. is_in l u) put ∙ get_or-set_other bits v u (is_on t s v) false apart ∙ on.each u (still u apart none))
      (cases_eq u v);
  rests = λ u none.
      ⊎_elim
      (λ (same : u ≡ v). subst (λ x. RestsOn t s x (witness_at (set witnesses at witness) x)) (sym same) (subst (RestsOn t s v) (sym new) seen))
      (λ (apart : u ≢ v). subst (RestsOn t s u) (sym (old u apart)) (on.rests u (still u apart none)))
      (cases_eq u v);
}
  where
    low : v < length bits
    low = let in_due = inside due v marked in let one = on.places in let two = on.due_places in omega (arith, in_due, one, two)

    still : (u : ℕ) → u ≢ v → is_in due' u ≡ false → is_in due u ≡ false
    still u apart none = sym (ap (λ l. is_in l u) taken ∙ get_or-set_other due v u false false apart) ∙ none

    nodes : List Witness → List (Option ℕ)
    nodes = map (λ w. w.node)

    changed : nodes (set witnesses at witness) ≡ set (nodes witnesses) v witness.node
    changed = map-set (λ w. w.node) witnesses at witness ∙ ap (λ i. set (nodes witnesses) i witness.node) there

    new : witness_at (set witnesses at witness) v ≡ witness.node
    new = ap (λ l. get_or l v None) changed ∙ get_or-set_same (nodes witnesses) v witness.node None (let len : length (nodes witnesses) ≡ length witnesses = simp length-map in omega (arith, len, long, low))

    old : (u : ℕ) → u ≢ v → witness_at (set witnesses at witness) u ≡ witness_at witnesses u
    old u apart = ap (λ l. get_or l u None) changed ∙ get_or-set_other (nodes witnesses) v u witness.node None apart

off_absent : (t : RuleTable) (s : State) (v : ℕ) → present s.network v ≡ false → is_on t s v ≡ false
off_absent t s v absent = ap (λ b. b && is_some (rule_at t s v)) absent

-- an absent name rests on anything
rests_absent : (t : RuleTable) (s : State) (v : ℕ) (witness : Option ℕ) → present s.network v ≡ false → RestsOn t s v witness
rests_absent t s v witness absent u good same = off_absent t u v (sym same.presence ∙ absent) ∙ sym (off_absent t s v absent)

-- a name beyond the size is absent
absent_past : (s : State) (v : ℕ) → s.network.size < v → present s.network v ≡ false
absent_past s v past = false_from_ne_true (present s.network v) (λ here. let low = (present_range s.network v here).1 in omega (arith, low, past))

absent_zero : (s : State) → present s.network 0 ≡ false
absent_zero s = false_from_ne_true (present s.network 0) (λ here. let low = (present_range s.network 0 here).0 in omega (arith, low))

-- at first all names are due
pub begun_on : (t : RuleTable) (s : State) (due : List Bool) (witnesses : List Witness) → length due ≡ s.network.size + 1 → ((v : ℕ) → 1 ≤ v → v < length due → is_in due v ≡ true) → AreOnBut t s (replicate (s.network.size + 1) false) due witnesses
begun_on t s due witnesses places all = record {
  places = length-replicate (s.network.size + 1) false;
  due_places = places;
  each = λ v none. nothing v ∙ sym (off_absent t s v (absent v none));
  rests = λ v none. rests_absent t s v (witness_at witnesses v) (absent v none);
}
  where
    nothing : (v : ℕ) → is_in (replicate (s.network.size + 1) false) v ≡ false
    nothing v =
        ⊎_elim
        (λ (low : v < s.network.size + 1). get_or-replicate (s.network.size + 1) v false false low)
        (λ (past : s.network.size + 1 ≤ v). get_or_past (replicate (s.network.size + 1) false) v false (let len = length-replicate (s.network.size + 1) false in omega (arith, len, past)))
        (cases_lt v (s.network.size + 1))

    absent : (v : ℕ) → is_in due v ≡ false → present s.network v ≡ false
    absent v none =
        ⊎_elim
        (λ (same : v ≡ 0). ap (present s.network) same ∙ absent_zero s)
        (λ (some : v ≢ 0).
        ⊎_elim
        (λ (low : v < length due). absurd (true≢false (sym (all v (pos v some) low) ∙ none)))
        (λ (past : length due ≤ v). absent_past s v (omega (arith, past, places)))
        (cases_lt v (length due)))
        (cases_eq v 0)
      where
        pos : (v : ℕ) → v ≢ 0 → 1 ≤ v
        pos v some = grind arith

-- in a state that agrees with the one before, a name still rests on its witness
rests_on : (t : RuleTable) (s s' : State) (v : ℕ) (witness : Option ℕ) → IsState s' → AgreeAt s s' v witness → RestsOn t s v witness → RestsOn t s' v witness
rests_on t s s' v witness good' first rests u good then =
    rests u good
    (record {
      presence = first.presence ∙ then.presence;
      neighbours = first.neighbours ∙ then.neighbours;
      links = λ w. first.links w ∙ then.links w;
      own_pointer = first.own_pointer ∙ then.own_pointer;
      own_flag = first.own_flag ∙ then.own_flag;
      pointers = λ w link may. first.pointers w link may ∙ then.pointers w (sym (first.links w) ∙ link) may;
      flags = λ w link may. first.flags w link may ∙ then.flags w (sym (first.links w) ∙ link) may;
    })
    ∙ sym (rests s' good' first)

-- an entry leaves the set and the witnesses right outside the names that are marked
pub followed_on : (t : RuleTable) (s : State) (event : Event) (reply : Reply) (bits due due' : List Bool) (witnesses : List Witness) → IsState s → IsState (followed s event reply) → ((v : ℕ) → is_in due v ≡ false) → MarksAll s.network.size (is_affected s witnesses event reply) due due' → AreOnBut t s bits due witnesses → AreOnBut t (followed s event reply) bits due' witnesses
followed_on t s event reply bits due due' witnesses good good' none marks on = record {
  places = on.places ∙ ap (λ n. n + 1) (sym (followed_size s event reply));
  due_places = marks.places ∙ on.due_places ∙ ap (λ n. n + 1) (sym (followed_size s event reply));
  each = λ v off. on.each v (none v) ∙ sym (kept v off (cases_lt s.network.size v));
  rests = λ v off. rested v off (cases_lt s.network.size v);
}
  where
    gone : (v : ℕ) → s.network.size < v → present (followed s event reply).network v ≡ false
    gone v past = absent_past (followed s event reply) v (let size = followed_size s event reply in omega (arith, size, past))

    agree : (v : ℕ) → is_in due' v ≡ false → v ≤ s.network.size → AgreeAt s (followed s event reply) v (witness_at witnesses v)
    agree v off low = unaffected_agree s witnesses event reply v good good' (marks.others v low off).1

    kept : (v : ℕ) → is_in due' v ≡ false → (s.network.size < v) ⊎ (v ≤ s.network.size) → is_on t (followed s event reply) v ≡ is_on t s v
    kept v off (inl past) = off_absent t (followed s event reply) v (gone v past) ∙ sym (off_absent t s v (absent_past s v past))
    kept v off (inr low) = on.rests v (none v) (followed s event reply) good' (agree v off low)

    rested : (v : ℕ) → is_in due' v ≡ false → (s.network.size < v) ⊎ (v ≤ s.network.size) → RestsOn t (followed s event reply) v (witness_at witnesses v)
    rested v off (inl past) = rests_absent t (followed s event reply) v (witness_at witnesses v) (gone v past)
    rested v off (inr low) = rests_on t s (followed s event reply) v (witness_at witnesses v) good' (agree v off low) (on.rests v (none v))

kept_twice : (p q : ℕ → Bool) (xs : List ℕ) → filter p (filter q xs) ≡ filter (λ x. q x && p x) xs
kept_twice p q [] = refl
kept_twice p q (x ∷ xs) = let rest = kept_twice p q xs in grind arith

-- if no name is due, the members are the enabled nodes
pub members_on : (t : RuleTable) (s : State) (bits due : List Bool) (witnesses : List Witness) → ((v : ℕ) → is_in due v ≡ false) → AreOnBut t s bits due witnesses → members bits ≡ enabled_names t s
members_on t s bits due witnesses none on =
    let count : length bits ≡ suc s.network.size = let places = on.places in omega (arith, places) in
    ap (λ n. filter (is_in bits) (range_with_len 0 n)) count
    ∙ ap (λ b. cond b (0 ∷ filter (is_in bits) (range_with_len (0 + 1) s.network.size)) (filter (is_in bits) (range_with_len (0 + 1) s.network.size))) (on.each 0 (none 0) ∙ off_absent t s 0 (absent_zero s))
    ∙ ap (λ a. filter (is_in bits) (range_with_len a s.network.size)) (let one : 0 + 1 ≡ 1 = omega arith in one)
    ∙ filter_agree (is_in bits) (λ v. present s.network v && is_some (rule_at t s v)) (λ v. on.each v (none v)) (range_with_len 1 s.network.size)
    ∙ sym (kept_twice (λ v. is_some (rule_at t s v)) (present s.network) (range_with_len 1 s.network.size))

-- whatever is noted, if no name is due and the pending nodes are enabled
pub pending_noted : (t : RuleTable) (s : State) (bits due pending : List Bool) (witnesses : List Witness) (removed : RemovedNames) → ((v : ℕ) → is_in due v ≡ false) → AreOnBut t s bits due witnesses → ((v : ℕ) → IsTrue (is_in pending v) → IsTrue (present s.network v) × IsTrue (is_some (rule_at t s v))) → AreNoted pending bits removed
pending_noted t s bits due pending witnesses removed none on enabled v was gone =
    let both = enabled v was in
    absurd (true≢false (sym (and_from (present s.network v) (is_some (rule_at t s v)) both.0 both.1) ∙ sym (on.each v (none v)) ∙ gone))
