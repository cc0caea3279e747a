-- Nodes that join and leave: what the others show, and the set of enabled nodes.
use Rattle.rule_engine.proofs.Prelude.{◌≡◌, ℕ, ◌<◌, ◌≤◌, Bool, true, false, cond, is_some, List, length, set, get_or, nat_eq, None, IsTrue, sym, ap, ◌∙◌, subst, ⊎_elim, arith, and_parts, and_from, cases_lt, false_from_ne_true, le-leb, true≢false, get_or-set_same, get_or_past, length-set, Network, IsNetwork, present, with_node, State, IsState, RuleTable, rule_at, after_join, SameAt, present_other, join_keeps, is_enabled_at, AreOn, IsRefreshed, ◌+◌, [], cases_eq, get_or-set_other, neighbours, without_place, present_range}
use Rattle.rule_engine.proofs.EnabledRefresh.{IsLocal, kept_again, same_on}
use Rattle.rule_engine.proofs.FarNodes.{not_same, seat_far}

-- ---- a node that joins

-- it is present then
pub joined_present : (net : Network) (v : ℕ) → IsNetwork net → 1 ≤ v → v ≤ net.size → IsTrue (present (with_node net v) v)
joined_present net v good low high =
    and_from _ _ (le-leb 1 v low) (and_from _ _ (le-leb v net.size high) (get_or-set_same net.here v true false (let l = good.here_len in omega (arith, l, high))))

-- after a join, a look at the node
pub kept_joined : (t : RuleTable) → IsLocal t → (s u : State) (v : ℕ) (bits bits' : List Bool) → IsState s → AreOn t s bits → 1 ≤ v → u ≡ after_join s v → IsRefreshed t u (λ w. nat_eq w v) bits bits' → AreOn t u bits'
kept_joined t local s u v bits bits' was kept low is done =
    let good = join_keeps s v low was in
    kept_again t local s u (λ w. nat_eq w v) bits bits' was kept (subst IsState (sym is) good) (ap (λ q. q.network.size) is)
    (λ x apart. ap (λ q. present q.network x) is ∙ present_other s.network v true x (not_same v x apart))
    (λ w _. subst (λ q. SameAt s q w) (sym is) (seat_far s (set s.network.here v true) w was good)) done

-- ---- a node that leaves

-- it is absent then
pub parted_absent : (net : Network) (v : ℕ) → present (record net { here = set net.here v false }) v ≡ false
parted_absent net v =
    false_from_ne_true _ (λ h. true≢false (sym (and_parts _ _ (and_parts _ _ h).1).1 ∙ cleared net.here))
  where
    cleared : (row : List Bool) → get_or (set row v false) v false ≡ false
    cleared row =
        ⊎_elim
        (λ (below : v < length row). get_or-set_same row v false false below)
        (λ (past : length row ≤ v). get_or_past (set row v false) v false (let same = length-set row v false in omega (arith, same)))
        (cases_lt v (length row))

-- and no rule is enabled there
pub absent_off : (t : RuleTable) (q : State) (v : ℕ) → present q.network v ≡ false → is_enabled_at t q v ≡ false
absent_off t q v absent = ap (λ b. is_some (cond b (rule_at t q v) None)) absent

-- once it has no edge and is absent, it is no member, and the set is right everywhere
pub kept_left : (t : RuleTable) → IsLocal t → (s u : State) (v : ℕ) (bits : List Bool) → IsState s → AreOn t s bits → IsTrue (present s.network v) → neighbours s.network v ≡ [] → IsState u → u ≡ without_place s v → AreOn t u (set bits v false)
kept_left t local s u v bits good kept has none good' is =
    let bounds = present_range s.network v has in
    let size : u.network.size ≡ s.network.size = ap (λ q. q.network.size) is in
    let places = kept.places in
    record {
      places = length-set bits v false ∙ places ∙ ap (λ n. n + 1) (sym size);
      each = λ x. ⊎_elim
          (λ (at : x ≡ v). ap (λ y. get_or (set bits v false) y false) at ∙ get_or-set_same bits v false false (omega (arith, bounds.1, places)) ∙ sym (ap (is_enabled_at t u) at ∙ ap (λ q. is_enabled_at t q v) is ∙ absent_off t (without_place s v) v (parted_absent s.network v)))
          (λ (apart : x ≡ v → ⊥).
          get_or-set_other bits v x false false apart
          ∙ kept.each x
          ∙ same_on t local s u x good good' (ap (λ q. present q.network x) is ∙ present_other s.network v false x apart)
          (subst (λ q. SameAt s q x) (sym is) (seat_far s (set s.network.here v false) x good (subst IsState is good'))))
          (cases_eq x v);
    }
