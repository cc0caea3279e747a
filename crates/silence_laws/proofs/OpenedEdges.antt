-- In a stable network only the edges between a parted node and an unmarried one may open.
use Rattle.silence_laws.proofs.Prelude.{◌≡◌, ℕ, ◌+◌, ◌*◌, ◌≤◌, Bool, true, false, not, ◌&&◌, List, [], ◌∷◌, Option, None, Some, nat_eq, IsTrue, refl, ◌∙◌, arith, ◌<◌, ◌||◌, count_by, sym, inl, inr, ◌⊎◌, true≢false, and_parts, or_cases, false_from_ne_true, same_Some, none-some, uncrossed, IsSubNetwork, WaitsOnly, leave_waits, leave_within, unlink_waits, unlink_within, at_both, at_node, at_upper, count_filter, edges_without_repeats, hsu_huang_grows, count_within, count_le, count_or, IsIn, none_count, edges_contain, an_end_paired, hsu_huang_stable_is_zero, married_is, mild_weds, mutual_is, IsMild, most_if, none_parted, is_parted, leave_keeps, unlink_keeps, awaits, is_courted, hsu_huang_charge, after_leave, after_unlink, hsu_huang, linked, names, present, edge_list, IsStable, State, IsState, pointer, married, is_mutual, Event, Unlink, Leave, silent_cost, single_neighbours, single_neighbours_at}
use Rattle.silence_laws.proofs.PairCounts.{in_parted}

-- whether an edge has one end at the node and its other end passes a test
abbrev pub is_edge_to : (ℕ → Bool) → ℕ → ℕ × ℕ → Bool
is_edge_to p v e = (nat_eq e.0 v && p e.1) || (nat_eq e.1 v && p e.0)

-- whether an edge has one end at the node and its other end is unmarried
abbrev pub is_single_edge : State → ℕ → ℕ × ℕ → Bool
is_single_edge s v e = is_edge_to (λ w. not (married s w)) v e

-- whether one end of an edge is parted and its other end is unmarried
abbrev pub is_edge_touched : State → Event → ℕ × ℕ → Bool
is_edge_touched s event e = (is_parted s event e.0 && not (married s e.1)) || (is_parted s event e.1 && not (married s e.0))

-- an edge with a married end keeps one if no parted end is at an unmarried or a parted one
pub end_stays : (m n p q m' n' : Bool) → (m ≡ true) ⊎ (n ≡ true) → ((p && not n) || (q && not m)) ≡ false → (p && q) ≡ false → (m ≡ true → p ≡ false → m' ≡ true) → (n ≡ true → q ≡ false → n' ≡ true) → (m' || n') ≡ true
end_stays m n p q m' n' wed clear inner low high = grind arith

-- in a stable network each edge has a married end
pub end_wed : (uses_flags : Bool) (s : State) → IsState s → IsStable uses_flags s → (e : ℕ × ℕ) → IsIn e (edge_list s.network) → (married s e.0 ≡ true) ⊎ (married s e.1 ≡ true)
end_wed uses_flags s good stable e there = an_end_paired uses_flags s good stable e there ((married s e.0 ≡ true) ⊎ (married s e.1 ≡ true)) (λ h. inl (married_is s e.0 good ∙ h)) (λ h. inr (married_is s e.1 good ∙ h))

pub silent_grows : (s : State) (event : Event) (s' : State) → IsState s → IsState s' → IsStable false s → IsMild hsu_huang s event s' → IsSubNetwork s.network s'.network → WaitsOnly (pointer s) (pointer s') (λ x. false) → ((x y : ℕ) → IsIn (x, y) (edge_list s'.network) → is_parted s event x ≡ true → is_parted s event y ≡ true → ⊥) → hsu_huang_charge s' ≤ 2 * count_by (is_edge_touched s event) (edge_list s'.network)
silent_grows s event s' good good' stable mild within waits apart =
    let grows = hsu_huang_grows s s' (is_edge_touched s event) (λ x. false)
    (λ x y there clear. (
      within.edges (x, y) there,
      λ was.
          let ends = edges_contain s'.network (x, y) there in
          more (married s' x || married s' y) (awaits s' x y) (awaits s' y x) (is_courted s' x && is_courted s' y)
          (end_stays (married s x) (married s y) (is_parted s event x) (is_parted s event y) (married s' x) (married s' y) (end_wed false s good stable (x, y) (within.edges (x, y) there)) clear (not_both (is_parted s event x) (is_parted s event y) (apart x y there))
          (λ wed kept. mild_weds hsu_huang s event s' good' mild x wed kept (good'.is_network.low_present x y ends))
          (λ wed kept. mild_weds hsu_huang s event s' good' mild y wed kept (good'.is_network.high_present x y ends))),
    ))
    waits (λ x there. inl (within.nodes x there)) in
    let zero = hsu_huang_stable_is_zero s good stable in
    let none = none_count (λ (x : ℕ). false) (names s'.network) (λ x there. refl) in
    omega (arith, grows, zero, none)
  where
    more : (e a b c : Bool) → e ≡ true → (e || a || b || c) ≡ true
    more e a b c h = grind arith

    not_both : (p q : Bool) → (p ≡ true → q ≡ true → ⊥) → (p && q) ≡ false
    not_both p q h = grind arith

-- ---- counting such edges

-- there are at most as many as neighbours that pass it
pub edges_few : (s s' : State) → IsState s → IsSubNetwork s.network s'.network → (p : ℕ → Bool) (v : ℕ) → count_by (is_edge_to p v) (edge_list s'.network) ≤ count_by (λ w. linked s.network v w && p w) (names s.network)
edges_few s s' good within p v =
    let left = count_within (is_edge_to p v) (is_edge_to p v) (edge_list s'.network) (edge_list s.network) (edges_without_repeats s'.network) (λ e there h. (within.edges e there, h)) in
    let ends = count_or (λ (e : ℕ × ℕ). nat_eq e.0 v && p e.1) (λ e. nat_eq e.1 v && p e.0) (edge_list s.network) in
    omega (arith, left, ends, at_node s.network good.is_network (λ e. p e.1) v, at_upper s.network good.is_network (λ e. p e.0) v, at_both s.network good.is_network p v, count_filter p (linked s.network v) (names s.network))

pub single_few : (s s' : State) → IsState s → IsSubNetwork s.network s'.network → (v : ℕ) → count_by (is_single_edge s v) (edge_list s'.network) ≤ single_neighbours s v
single_few s s' good within v = edges_few s s' good within (λ w. not (married s w)) v

-- the touched edges are those of the nodes that may be parted
one_touched : (p m : ℕ → Bool) (v : ℕ) (e : ℕ × ℕ) → ((x : ℕ) → p x ≡ true → IsIn x (v ∷ [])) → ((p e.0 && not (m e.1)) || (p e.1 && not (m e.0))) ≡ true → is_edge_to (λ w. not (m w)) v e ≡ true
one_touched p m v e who h = grind (arith, who e.0, who e.1)

two_touched : (p m : ℕ → Bool) (a b : ℕ) (e : ℕ × ℕ) → ((x : ℕ) → p x ≡ true → IsIn x (a ∷ b ∷ [])) → ((p e.0 && not (m e.1)) || (p e.1 && not (m e.0))) ≡ true → (is_edge_to (λ w. not (m w)) a e || is_edge_to (λ w. not (m w)) b e) ≡ true
two_touched p m a b e who h = grind (arith, who e.0, who e.1)

pub touched_at_one : (s s' : State) → IsState s → IsSubNetwork s.network s'.network → (event : Event) (v : ℕ) → ((x : ℕ) → is_parted s event x ≡ true → IsIn x (v ∷ [])) → count_by (is_edge_touched s event) (edge_list s'.network) ≤ single_neighbours s v
touched_at_one s s' good within event v who =
    omega (arith, count_le (is_edge_touched s event) (is_single_edge s v) (edge_list s'.network) (λ e there. one_touched (is_parted s event) (married s) v e who), single_few s s' good within v)

pub touched_at_two : (s s' : State) → IsState s → IsSubNetwork s.network s'.network → (event : Event) (a b : ℕ) → ((x : ℕ) → is_parted s event x ≡ true → IsIn x (a ∷ b ∷ [])) → count_by (is_edge_touched s event) (edge_list s'.network) ≤ single_neighbours s a + single_neighbours s b
touched_at_two s s' good within event a b who =
    let le = count_le (is_edge_touched s event) (λ e. is_single_edge s a e || is_single_edge s b e) (edge_list s'.network) (λ e there. two_touched (is_parted s event) (married s) a b e who) in
    omega (arith, le, count_or (is_single_edge s a) (is_single_edge s b) (edge_list s'.network), single_few s s' good within a, single_few s s' good within b)

pub touched_none : (s : State) (event : Event) (es : List (ℕ × ℕ)) → ((x : ℕ) → is_parted s event x ≡ false) → count_by (is_edge_touched s event) es ≡ 0
touched_none s event es none = grind (arith, none_count, false_from_ne_true, true≢false, and_parts, or_cases)

-- ---- an edge goes

pub unlink_apart : (s : State) (a b : ℕ) → IsState s → (x y : ℕ) → IsIn (x, y) (edge_list (after_unlink s a b).network) → is_parted s (Unlink a b) x ≡ true → is_parted s (Unlink a b) y ≡ true → ⊥
unlink_apart s a b good x y there p q =
    let ordered = (unlink_keeps s a b good).is_network.low_first x y (edges_contain (after_unlink s a b).network (x, y) there) in
    true≢false (sym (across_ends (is_mutual s a b) x y ordered p q) ∙ uncrossed s a b x y good there)
  where
    across_ends : (mu : Bool) (x y : ℕ) → x < y → (mu && (nat_eq x a || nat_eq x b)) ≡ true → (mu && (nat_eq y a || nat_eq y b)) ≡ true → ((nat_eq x a && nat_eq y b) || (nat_eq x b && nat_eq y a)) ≡ true
    across_ends mu x y up p q = grind arith

pub unlink_few : (s : State) (a b : ℕ) → IsState s → IsStable false s → IsMild hsu_huang s (Unlink a b) (after_unlink s a b) → hsu_huang_charge (after_unlink s a b) ≤ silent_cost s (Unlink a b)
unlink_few s a b good stable mild =
    let s' = after_unlink s a b in
    let grows = silent_grows s (Unlink a b) s' good (unlink_keeps s a b good) stable mild (unlink_within s a b) (unlink_waits s a b) (unlink_apart s a b good) in
    most_if (is_mutual s a b) (hsu_huang_charge s') (2 * (single_neighbours s a + single_neighbours s b))
    (λ pair. omega (arith, grows, touched_at_two s s' good (unlink_within s a b) (Unlink a b) a b (in_parted s (Unlink a b))))
    (λ none. omega (arith, grows, touched_none s (Unlink a b) (edge_list s'.network) (λ x. none_parted s (Unlink a b) x good none)))

-- ---- a node goes

pub leave_apart : (s : State) (a : ℕ) → IsState (after_leave s a) → (x y : ℕ) → IsIn (x, y) (edge_list (after_leave s a).network) → is_parted s (Leave a) x ≡ true → is_parted s (Leave a) y ≡ true → ⊥
leave_apart s a good' x y there p q =
    let ordered = good'.is_network.low_first x y (edges_contain (after_leave s a).network (x, y) there) in
    let same = same_Some x y (sym (mutual_is s a x p).0 ∙ (mutual_is s a y q).0) in
    omega (arith, ordered, same)

pub leave_few : (s : State) (a : ℕ) → IsState s → IsStable false s → IsTrue (present s.network a) → IsMild hsu_huang s (Leave a) (after_leave s a) → hsu_huang_charge (after_leave s a) ≤ silent_cost s (Leave a)
leave_few s a good stable has mild = by (pointer s a) refl
  where
    grows : hsu_huang_charge (after_leave s a) ≤ 2 * count_by (is_edge_touched s (Leave a)) (edge_list (after_leave s a).network)
    grows = silent_grows s (Leave a) (after_leave s a) good (leave_keeps s a good) stable mild (leave_within s a good has) (leave_waits s a) (leave_apart s a (leave_keeps s a good))

    who : (p : ℕ) → pointer s a ≡ Some p → (x : ℕ) → is_parted s (Leave a) x ≡ true → IsIn x (p ∷ [])
    who p at x h = inl (same_Some p x (sym at ∙ (mutual_is s a x h).0))

    by : (o : Option ℕ) → pointer s a ≡ o → hsu_huang_charge (after_leave s a) ≤ 2 * single_neighbours_at s o
    by None at = omega (arith, grows, touched_none s (Leave a) (edge_list (after_leave s a).network) (λ x. false_from_ne_true (is_mutual s a x) (λ h. none-some x (sym at ∙ (mutual_is s a x h).0))))
    by (Some p) at = omega (arith, grows, touched_at_one s (after_leave s a) good (leave_within s a good has) (Leave a) p (who p at))
