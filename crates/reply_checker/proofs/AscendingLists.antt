-- Lists of facts about names, by ascending names: a list as long as all facts has all of them.
use Rattle.reply_checker.proofs.Prelude.{◌≡◌, ℕ, ◌+◌, ◌<◌, ◌≤◌, ◌↔◌, zero, suc, Bool, true, false, cond, nat_lt, List, [], ◌∷◌, drop, get_or, length, filter_map, Option, None, Some, is_some, IsTrue, refl, sym, ap, subst, ◌∙◌, ⊎_elim, arith, lt-ltb, option_map, range_with_len, cons_option, cases_lt, true≢false, drop_all, drop_more, length-filter, none-some, cond_some, Act, names, present, State, IsState, partner, points, mutual_pairs, pair_above, RuleTable, enabled, enabled_names, rule_at, present_range, linked_present, option_cases, partner_from, partner_some, points_from, points_true, pointer_linked, sum_agree, AreRising, lower_end_pair, ruled_node}
use Rattle.reply_checker.proofs.NodeCounts.{kept_values, length_filter_map}

nil_of : {X : Type 0} (xs : List X) → length xs ≤ 0 → [] ≡ xs
nil_of [] few = refl
nil_of (x ∷ xs) few = absurd (omega (arith, few))

-- it has all facts if there are at most as many
all_told : {Y : Type 0} (f : ℕ → Option (ℕ × Y)) (k n : ℕ) (items : List (ℕ × Y)) → ((v : ℕ) (p : ℕ × Y) → f v ≡ Some p → v ≤ n + k) → AreRising f n items → length (filter_map f (range_with_len (n + 1) k)) ≤ length items → items ≡ filter_map f (range_with_len (n + 1) k)
all_told f k n [] top up few = nil_of (filter_map f (range_with_len (n + 1) k)) few
all_told f zero n (p ∷ items) top up few = absurd (omega (arith, up.0, top p.0 p up.1))
all_told {Y = Y} f (suc k) n (p ∷ items) top up few =
    let rest = filter_map f (range_with_len (n + 1 + 1) k) in
    let more : (qs : List (ℕ × Y)) → AreRising f (n + 1) qs → length rest ≤ length qs → qs ≡ rest = λ qs u l. all_told f k (n + 1) qs (λ v q e. omega (arith, top v q e)) u l in
    let step : (o : Option (ℕ × Y)) → f (n + 1) ≡ o → filter_map f (range_with_len (n + 1) (suc k)) ≡ cons_option o rest = λ o e. ap (λ x. cons_option x rest) e in
    ⊎_elim
    (λ (above : n + 1 < p.0).
    ⊎_elim
    (λ (none : f (n + 1) ≡ None). more (p ∷ items) (above, up.1, up.2) (omega (arith, few, ap length (step None none))) ∙ sym (step None none))
    (λ (some : (q : ℕ × Y) × (f (n + 1) ≡ Some q)).
    let long = ap length (step (Some some.0) some.1) in
    let same = ap length (more (p ∷ items) (above, up.1, up.2) (omega (arith, few, long))) in
    absurd (omega (arith, few, long, same)))
    (option_cases (f (n + 1))))
    (λ (here : p.0 ≤ n + 1).
    let same : p.0 ≡ n + 1 = omega (arith, here, up.0) in
    let first = step (Some p) (ap f (sym same) ∙ up.1) in
    ap (λ l. p ∷ l) (more items (subst (λ (m : ℕ). AreRising f m items) same up.2) (omega (arith, few, ap length first))) ∙ sym first)
    (cases_lt (n + 1) p.0)

-- all facts ascend
all_rise : {Y : Type 0} (f : ℕ → Option (ℕ × Y)) → ((v : ℕ) (p : ℕ × Y) → f v ≡ Some p → p.0 ≡ v) → (k n m : ℕ) → m ≤ n → AreRising f m (filter_map f (range_with_len (n + 1) k))
all_rise f named zero n m low = tt
all_rise {Y = Y} f named (suc k) n m low =
    step (f (n + 1)) refl (all_rise f named k (n + 1) m (omega arith)) (all_rise f named k (n + 1) (n + 1) (omega arith))
  where
    step : (o : Option (ℕ × Y)) → f (n + 1) ≡ o → AreRising f m (filter_map f (range_with_len (n + 1 + 1) k)) → AreRising f (n + 1) (filter_map f (range_with_len (n + 1 + 1) k)) → AreRising f m (cons_option o (filter_map f (range_with_len (n + 1 + 1) k)))
    step None e without with_it = without
    step (Some p) e without with_it =
        let at : p.0 ≡ n + 1 = named (n + 1) p e in (
          omega (arith, at, low),
          ap f at ∙ e,
          subst (λ (v : ℕ). AreRising f v (filter_map f (range_with_len (n + 1 + 1) k))) (sym at) with_it,
        )

-- a list as long as the facts about the names up to size has all of them exactly if it ascends
all_listed : {Y : Type 0} (f : ℕ → Option (ℕ × Y)) (size : ℕ) (all items : List (ℕ × Y)) → all ≡ filter_map f (range_with_len 1 size) → ((v : ℕ) (p : ℕ × Y) → f v ≡ Some p → (v ≤ size) × (p.0 ≡ v)) → length items ≡ length all → AreRising f 0 items ↔ (items ≡ all)
all_listed f size all items is told as_many =
    let long = ap length is in (
      λ up. all_told f size 0 items (λ v p e. (let at = told v p e in omega (arith, at.0))) up (omega (arith, as_many, long)) ∙ sym is,
      λ same. subst (AreRising f 0) (sym (same ∙ is)) (all_rise f (λ v p e. (told v p e).1) size 0 0 (omega arith)),
    )

-- ---- mutual pairs

-- a pair is the fact of its lower end, which is present
told_pair : (s : State) (v : ℕ) (p : ℕ × ℕ) → lower_end_pair s v ≡ Some p → IsTrue (present s.network v) × (p.0 ≡ v) × (partner s v ≡ Some p.1)
told_pair s v p e = told (present s.network v) (partner s v) e
  where
    told : (b : Bool) (o : Option ℕ) → cond b (pair_above v o) None ≡ Some p → IsTrue b × (p.0 ≡ v) × (o ≡ Some p.1)
    told true (Some w) e =
        let same = (cond_some (nat_lt v w) (v, w) p e).1 in
        (refl, sym (ap (λ q. q.0) same), ap (λ q. Some q.1) same)
    told true None e = absurd (none-some p e)
    told false o e = absurd (none-some p e)

pub pairs_listed : (s : State) (pairs : List (ℕ × ℕ)) → length pairs ≡ length (mutual_pairs s) → AreRising (lower_end_pair s) 0 pairs ↔ (pairs ≡ mutual_pairs s)
pairs_listed s pairs as_many =
    all_listed (lower_end_pair s) s.network.size (mutual_pairs s) pairs (kept_values (present s.network) (λ v. pair_above v (partner s v)) (lower_end_pair s) (λ v. refl) (range_with_len 1 s.network.size))
    (λ v p e. let pair = told_pair s v p e in ((present_range s.network v pair.0).1, pair.1))
    as_many

-- two nodes that point at each other
pair_told : (s : State) (v w : ℕ) → IsState s → v < w → IsTrue (points s.registers v w) → IsTrue (points s.registers w v) → lower_end_pair s v ≡ Some (v, w)
pair_told s v w good up there back =
    let to = points_true s v w there in
    let from = points_true s w v back in
    let here = linked_present s.network v w good.is_network (pointer_linked s v w good to) in
    ap (λ b. cond b (pair_above v (partner s v)) None) here ∙ ap (pair_above v) (partner_from s v w good to from) ∙ ap (λ b. cond b (Some (v, w)) None) (lt-ltb v w up)

-- v points at w, and w's pointer decides whether they are a pair
pub told_back : (s : State) (v w : ℕ) (back : Bool) → IsState s → v < w → IsTrue (points s.registers v w) → back ≡ points s.registers w v → IsTrue back ↔ (lower_end_pair s v ≡ Some (v, w))
told_back s v w back good up there is = (
  λ yes. pair_told s v w good up there (sym is ∙ yes),
  λ e. is ∙ points_from s w v (partner_some s v w (told_pair s v (v, w) e).2).1,
)

-- v does not point at w
pub told_apart : (s : State) (v w : ℕ) → points s.registers v w ≡ false → lower_end_pair s v ≡ Some (v, w) → ⊥
told_apart s v w apart e = true≢false (sym (points_from s v w (partner_some s v w (told_pair s v (v, w) e).2).0) ∙ apart)

-- ---- enabled nodes

-- a rule is the fact of a present node, if it is enabled there
told_rule : (t : RuleTable) (s : State) (v : ℕ) (p : ℕ × Act) → ruled_node t s v ≡ Some p → IsTrue (present s.network v) × (p.0 ≡ v) × (rule_at t s v ≡ Some p.1)
told_rule t s v p e = told (present s.network v) (rule_at t s v) e
  where
    told : (b : Bool) (o : Option Act) → option_map (λ act. (v, act)) (cond b o None) ≡ Some p → IsTrue b × (p.0 ≡ v) × (o ≡ Some p.1)
    told true (Some act) e = let same : (v, act) ≡ p = cc in (refl, sym (ap (λ q. q.0) same), ap (λ q. Some q.1) same)
    told true None e = absurd (none-some p e)
    told false o e = absurd (none-some p e)

mapped : {X Y : Type 0} (h : X → Y) (b : Bool) (o : Option X) → option_map h (cond b o None) ≡ cond b (option_map h o) None
mapped h b o = grind arith

some_mapped : {X Y : Type 0} (h : X → Y) (o : Option X) → is_some (option_map h o) ≡ is_some o
some_mapped h None = refl
some_mapped h (Some x) = refl

-- the enabled nodes are as many as their rules
pub enabled_count : (t : RuleTable) (s : State) → length (enabled_names t s) ≡ length (enabled t s)
enabled_count t s =
    let f : ℕ → Option (ℕ × Act) = λ v. option_map (λ act. (v, act)) (rule_at t s v) in
    length-filter (λ v. is_some (rule_at t s v)) (names s.network)
    ∙ sum_agree (λ v. cond {A = ℕ} (is_some (rule_at t s v)) 1 0) (λ v. cond {A = ℕ} (is_some (f v)) 1 0) (λ v. ap (λ b. cond {A = ℕ} b 1 0) (sym (some_mapped (λ (act : Act). (v, act)) (rule_at t s v)))) (names s.network)
    ∙ sym (length_filter_map f (names s.network))

-- as many nodes with their rules as there are enabled nodes
pub enabled_listed : (t : RuleTable) (s : State) (nodes : List (ℕ × Act)) → length nodes ≡ length (enabled_names t s) → AreRising (ruled_node t s) 0 nodes ↔ (nodes ≡ enabled t s)
enabled_listed t s nodes as_many =
    let f : ℕ → Option (ℕ × Act) = λ v. option_map (λ act. (v, act)) (rule_at t s v) in
    let split : (v : ℕ) → ruled_node t s v ≡ cond (present s.network v) (f v) None = λ v. mapped (λ (act : Act). (v, act)) (present s.network v) (rule_at t s v) in
    all_listed (ruled_node t s) s.network.size (enabled t s) nodes (kept_values (present s.network) f (ruled_node t s) split (range_with_len 1 s.network.size))
    (λ v p e. let node = told_rule t s v p e in ((present_range s.network v node.0).1, node.1))
    (as_many ∙ enabled_count t s)

-- ---- a walk over a list

-- the item at an index, and the rest after it
item_at : {X : Type 0} (items : List X) (at : ℕ) (p : X) → at < length items → p ≡ get_or items at p → drop at items ≡ p ∷ drop (at + 1) items
item_at items at p within is = drop_more items at p within ∙ ap (λ x. x ∷ drop (at + 1) items) (sym is)

-- one more item, which is the fact of its name, above the last one
pub rise_more : {Y : Type 0} (P : Type 0) (f : ℕ → Option (ℕ × Y)) (items : List (ℕ × Y)) (at last next : ℕ) (p : ℕ × Y) → at < length items → p ≡ get_or items at p → next ≡ p.0 → last < next → f p.0 ≡ Some p → P ↔ AreRising f last (drop at items) → P ↔ AreRising f next (drop (at + 1) items)
rise_more P f items at last next p within is name above told so_far =
    let here = item_at items at p within is in (
      λ h. subst (λ (n : ℕ). AreRising f n (drop (at + 1) items)) (sym name) (subst (AreRising f last) here (so_far.0 h)).2,
      λ rest. so_far.1 (subst (AreRising f last) (sym here) (omega (arith, name, above), told, subst (λ (n : ℕ). AreRising f n (drop (at + 1) items)) name rest)),
    )

-- an item that is not above the last one, or is not the fact of its name
pub rise_not : {Y : Type 0} (P : Type 0) (f : ℕ → Option (ℕ × Y)) (items : List (ℕ × Y)) (at last : ℕ) (p : ℕ × Y) → at < length items → p ≡ get_or items at p → (last < p.0 → f p.0 ≡ Some p → ⊥) → P ↔ AreRising f last (drop at items) → P → ⊥
rise_not P f items at last p within is wrong so_far h =
    let up = subst (AreRising f last) (item_at items at p within is) (so_far.0 h) in wrong up.0 up.1

-- after the last item
pub rise_end : {Y : Type 0} (P : Type 0) (f : ℕ → Option (ℕ × Y)) (items : List (ℕ × Y)) (at last : ℕ) → length items ≤ at → P ↔ AreRising f last (drop at items) → P
rise_end P f items at last end so_far = so_far.1 (subst (AreRising f last) (sym (drop_all at items end)) tt)
