-- The unmarried nodes. A step of any rule set forms pairs and breaks none, and a new pair takes two from the
-- unmarried nodes.
use Rattle.round_laws.proofs.Prelude.{Bool, ◌≡◌, ℕ, ◌+◌, ◌<◌, ◌≤◌, List, count_by, true, false, not, Some, IsTrue, refl, sym, ap, ◌∙◌, inl, inr, ◌⊎◌, ⊎_elim, arith, cases_lt, cases_Bool, not-true, not_from_false, false_from_ne_true, true≢false, none-some, same_Some, Act, Update, Marry, Seduce, Abandon, Moved, linked, names, node_count, State, IsState, pointer, married, RuleTable, AsksForWork, linked_apart, linked_back, linked_present, null_unmarried, unanswered_unmarried, married_from, married_some, in_names, names_without_repeats, count_agree, count_all, one_count, count_two, count_by-le-length, count_less_two, unmarried_nodes, among_from, IsInside, IsDone}
use Rattle.machine_laws.proofs.NodeMoves.{Deed, idles, updates, marries, seduces, abandons}

pub unmarried_few : (s : State) → unmarried_nodes s ≤ node_count s.network
unmarried_few s = count_by-le-length (λ v. not (married s v)) (names s.network)

-- two linked ones
pub two_unmarried : (s : State) → IsState s → (v w : ℕ) → IsTrue (linked s.network v w) → married s v ≡ false → married s w ≡ false → 2 ≤ unmarried_nodes s
two_unmarried s good v w near single also =
    count_two (λ x. not (married s x)) v w (names s.network) (names_without_repeats s.network)
    (in_names s.network v (linked_present s.network v w good.is_network near))
    (in_names s.network w (linked_present s.network w v good.is_network (linked_back s.network w v ∙ near)))
    (not_from_false (married s v) single) (not_from_false (married s w) also) (linked_apart s.network v w good.is_network near)

-- a node that is enabled, and not to update
mover_unmarried : (t : RuleTable) → AsksForWork t → (s : State) (v : ℕ) (act : Act) → t.guard s v Update ≡ false → IsTrue (t.guard s v act) → married s v ≡ false
mover_unmarried t asks s v Update right guard = absurd (true≢false (sym guard ∙ right))
mover_unmarried t asks s v Marry right guard = null_unmarried s v (asks.marry s v guard).0
mover_unmarried t asks s v Seduce right guard = null_unmarried s v (asks.seduce s v guard).0
mover_unmarried t asks s v Abandon right guard = let at = asks.abandon s v guard in unanswered_unmarried s v at.0 at.1 at.2

pub one_unmarried : (t : RuleTable) → IsInside t → AsksForWork t → (s : State) → IsState s → (v : ℕ) (act : Act) → t.guard s v Update ≡ false → IsTrue (t.guard s v act) → 1 ≤ unmarried_nodes s
one_unmarried t inside asks s good v act right guard =
    one_count (λ x. not (married s x)) (names s.network) v (in_names s.network v (inside.has s v act good guard))
    (not_from_false (married s v) (mover_unmarried t asks s v act right guard))

-- the two nodes of a pair are not unmarried, where a test counts both
pair_counted : (s : State) → IsState s → (q : ℕ → Bool) (v w : ℕ) → pointer s v ≡ Some w → pointer s w ≡ Some v → ((x : ℕ) → married s x ≡ false → IsTrue (q x)) → IsTrue (q v) → IsTrue (q w) → unmarried_nodes s + 2 ≤ count_by q (names s.network)
pair_counted s good q v w at back within here also =
    let among = among_from s good in
    let ends = among.ends v w at in
    count_less_two (λ x. not (married s x)) q v w (names s.network) among.once (λ x h. within x (not-true (married s x) h))
    (record { there = ends.0; was = here; gone = λ h. true≢false (sym (married_from s v w good at back) ∙ not-true (married s v) h) })
    (record { there = ends.1; was = also; gone = λ h. true≢false (sym (married_from s w v good back at) ∙ not-true (married s w) h) })
    (among.apart v w at)

married_two : (s : State) → IsState s → (v : ℕ) → married s v ≡ true → unmarried_nodes s + 2 ≤ node_count s.network
married_two s good v wed =
    let pair = married_some s v wed in
    omega (arith, pair_counted s good (λ x. true) v pair.0 pair.1 pair.2 (λ x h. refl) refl refl, count_all (names s.network))

-- two nodes are married, or none is
pub married_or_not : (s : State) → IsState s → (unmarried_nodes s + 2 ≤ node_count s.network) ⊎ ((v : ℕ) → married s v ≡ false)
married_or_not s good =
    ⊎_elim
    (λ (few : node_count s.network < unmarried_nodes s + 2). inr (λ v. false_from_ne_true (married s v) (λ wed. let two = married_two s good v wed in absurd (omega (arith, two, few)))))
    (λ (enough : unmarried_nodes s + 2 ≤ node_count s.network). inl enough)
    (cases_lt (node_count s.network) (unmarried_nodes s + 2))

-- ---- a step

module _ (t : RuleTable) (asks : AsksForWork t) (s s' : State) (moves : List Moved) (good : IsState s) (done : IsDone t s s' moves) where
  pair_kept : (v w : ℕ) → pointer s v ≡ Some w → pointer s w ≡ Some v → pointer s' v ≡ Some w
  pair_kept v w at back = grind (arith, done.deeds v, none-some, same_Some)

  pub married_stays : (v : ℕ) → married s v ≡ true → married s' v ≡ true
  married_stays v wed =
      let pair = married_some s v wed in
      married_from s' v pair.0 done.is_state (pair_kept v pair.0 pair.1 pair.2) (pair_kept pair.0 v pair.2 pair.1)

  single_was : (v : ℕ) → married s' v ≡ false → married s v ≡ false
  single_was v single = false_from_ne_true (married s v) (λ wed. true≢false (sym (married_stays v wed) ∙ single))

  new_pair : (v : ℕ) → married s v ≡ false → married s' v ≡ true → unmarried_nodes s' + 2 ≤ unmarried_nodes s
  new_pair v single wed =
      let pair = married_some s' v wed in
      let two = pair_counted s' done.is_state (λ x. not (married s x)) v pair.0 pair.1 pair.2 (λ x h. not_from_false (married s x) (single_was x h)) (not_from_false (married s v) single) (not_from_false (married s pair.0) (other pair.0 pair.2)) in
      let same = ap (λ net. count_by (λ x. not (married s x)) (names net)) done.network in
      omega (arith, two, same)
    where
      other : (w : ℕ) → pointer s' w ≡ Some v → married s w ≡ false
      other w back = false_from_ne_true (married s w) (λ h.
          let old = married_some s w h in
          let same : old.0 ≡ v = same_Some old.0 v (sym (pair_kept w old.0 old.1 old.2) ∙ back) in
          true≢false (sym (married_from s v w good (ap (pointer s) (sym same) ∙ old.2) (old.1 ∙ ap Some same)) ∙ single))

  -- there is a new pair, or the same nodes are married
  pub pair_or_not : (unmarried_nodes s' + 2 ≤ unmarried_nodes s) ⊎ (((v : ℕ) → married s' v ≡ married s v) × (unmarried_nodes s' ≡ unmarried_nodes s))
  pair_or_not =
      ⊎_elim
      (λ (few : unmarried_nodes s < unmarried_nodes s' + 2). inr (same few, counted (same few)))
      (λ (enough : unmarried_nodes s' + 2 ≤ unmarried_nodes s). inl enough)
      (cases_lt (unmarried_nodes s) (unmarried_nodes s' + 2))
    where
      same : unmarried_nodes s < unmarried_nodes s' + 2 → (v : ℕ) → married s' v ≡ married s v
      same few v =
          ⊎_elim
          (λ wed. married_stays v wed ∙ sym wed)
          (λ single. false_from_ne_true (married s' v) (λ wed. let two = new_pair v single wed in absurd (omega (arith, two, few))) ∙ sym single)
          (cases_Bool (married s v))

      counted : ((v : ℕ) → married s' v ≡ married s v) → unmarried_nodes s' ≡ unmarried_nodes s
      counted same =
          count_agree (λ v. not (married s' v)) (λ v. not (married s v)) (λ v. ap not (same v)) (names s'.network)
          ∙ ap (λ net. count_by (λ v. not (married s v)) (names net)) done.network
