-- A disturbance parts at most one pair.
use Rattle.containment_laws.proofs.Prelude.{IsIn, named_by, ◌≡◌, ℕ, true, false, ◌&&◌, ◌||◌, Contains, Some, nat_eq, sym, ◌∙◌, inl, inr, ◌⊎◌, ⊎_elim, arith, true≢false, and_parts, and_cases, and_left, or_cases, cases_eq, eqb-true, false_from_ne_true, same_Some, Event, Link, Unlink, Point, Flag, Join, Leave, Accepted, State, IsState, pointer, married, is_mutual, RuleTable, ShareAnEnd, mutual_pairs, Answers, pairs_apart, IsTable, pair_from, pair_listed, married_from, answers_keep, is_parted, parts_a_pair}
use Rattle.containment_laws.proofs.Edits.{mutual_is}
use Rattle.containment_laws.proofs.Containment.{answered_mild}

-- the node that an event names first
abbrev pub main_node : Event → ℕ
main_node (Link a b) = a
main_node (Unlink a b) = a
main_node (Point a target) = a
main_node (Flag a value) = a
main_node (Join a) = a
main_node (Leave a) = a
main_node event = 0

-- a parted node is that node or its target, and the event names it
pub parted_near : (s : State) (event : Event) (v : ℕ) → is_parted s event v ≡ true → IsIn (main_node event) (named_by event) × ((v ≡ main_node event) ⊎ (pointer s (main_node event) ≡ Some v))
parted_near s event v h = grind (arith, mutual_is, eqb-true, and_parts, or_cases, true≢false)

-- a node that is in a pair with a node other than a is not a's partner
other_partner : (s : State) (a v w : ℕ) → pointer s v ≡ Some w → (w ≡ a → ⊥) → is_mutual s a v ≡ true → ⊥
other_partner s a v w at w_apart h = w_apart (same_Some w a (sym at ∙ (mutual_is s a v h).1))

point_spares : (s : State) (a v w : ℕ) → pointer s v ≡ Some w → (v ≡ a → ⊥) → (w ≡ a → ⊥) → (is_mutual s a v || (nat_eq v a && married s a)) ≡ true → ⊥
point_spares s a v w at v_apart w_apart h = grind (arith, other_partner, eqb-true, and_parts, or_cases)

-- A pair without the event's first node is not parted.
pub spared : (s : State) (event : Event) (v w : ℕ) → pointer s v ≡ Some w → (v ≡ main_node event → ⊥) → (w ≡ main_node event → ⊥) → is_parted s event v ≡ false
spared s event v w at v_apart w_apart = grind (arith, false_from_ne_true, and_parts, eqb-true, same_Some, mutual_is, or_cases, point_spares, other_partner)

unparted : (s : State) (a v : ℕ) → IsState s → married s a ≡ false → (is_mutual s a v || (nat_eq v a && married s a)) ≡ true → ⊥
unparted s a v good alone h = grind (arith, mutual_is, true≢false, married_from, and_parts, or_cases)

-- no node is parted if no pair is
pub none_parted : (s : State) (event : Event) (v : ℕ) → IsState s → parts_a_pair s event ≡ false → is_parted s event v ≡ false
none_parted s event v good none = grind (arith, and_left, false_from_ne_true, unparted, and_parts, true≢false, and_cases, mutual_is, married_from)

-- ---- pairs that stay

-- a pair stays if none of its ends is parted
pub unparted_stays : (t : RuleTable) → IsTable t → (s : State) → IsState s → (n : ℕ) (event : Event) (s' : State) → Answers t s n event Accepted s' → (v w : ℕ) → pointer s v ≡ Some w → pointer s w ≡ Some v → is_parted s event v ≡ false → is_parted s event w ≡ false → (pointer s' v ≡ Some w) × (pointer s' w ≡ Some v)
unparted_stays t table s good n event s' answers v w at back kept also = (answered_mild t s n event s' good answers).pairs v w at back kept (inr also)

pub spared_stays : (t : RuleTable) → IsTable t → (s : State) → IsState s → (n : ℕ) (event : Event) (s' : State) → Answers t s n event Accepted s' → (v w : ℕ) → pointer s v ≡ Some w → pointer s w ≡ Some v → (v ≡ main_node event → ⊥) → (w ≡ main_node event → ⊥) → (pointer s' v ≡ Some w) × (pointer s' w ≡ Some v)
spared_stays t table s good n event s' answers v w at back v_apart w_apart =
    unparted_stays t table s good n event s' answers v w at back (spared s event v w at v_apart w_apart) (spared s event w v back w_apart v_apart)

-- an end of a lost pair is the event's first node
pub lost_has : (t : RuleTable) → IsTable t → (s : State) → IsState s → (n : ℕ) (event : Event) (s' : State) → Answers t s n event Accepted s' → (e : ℕ × ℕ) → Contains (mutual_pairs s) e → (Contains (mutual_pairs s') e → ⊥) → (e.0 ≡ main_node event) ⊎ (e.1 ≡ main_node event)
lost_has t table s good n event s' answers e there lost =
    ⊎_elim inl
    (λ low. ⊎_elim inr
    (λ high. let pair = pair_from s e there in
    let kept = spared_stays t table s good n event s' answers e.0 e.1 pair.there pair.back low high in
    absurd (lost (pair_listed s' e.0 e.1 (answers_keep t table s good n event Accepted s' answers) pair.ordered kept.0 kept.1)))
    (cases_eq e.1 (main_node event)))
    (cases_eq e.0 (main_node event))

pub share : (e f : ℕ × ℕ) (a : ℕ) → (e.0 ≡ a) ⊎ (e.1 ≡ a) → (f.0 ≡ a) ⊎ (f.1 ≡ a) → ShareAnEnd e f
share e f a (inl x) (inl y) = inl (x ∙ sym y)
share e f a (inl x) (inr y) = inr (inl (x ∙ sym y))
share e f a (inr x) (inl y) = inr (inr (inl (x ∙ sym y)))
share e f a (inr x) (inr y) = inr (inr (inr (x ∙ sym y)))

-- So two pairs that a disturbance breaks are the same pair.
pub one_pair_lost : (t : RuleTable) → IsTable t → (s : State) → IsState s → (n : ℕ) (event : Event) (s' : State) → Answers t s n event Accepted s' → (e f : ℕ × ℕ) → Contains (mutual_pairs s) e → Contains (mutual_pairs s) f → (Contains (mutual_pairs s') e → ⊥) → (Contains (mutual_pairs s') f → ⊥) → e ≡ f
one_pair_lost t table s good n event s' answers e f in_e in_f lost_e lost_f =
    pairs_apart s e f in_e in_f (share e f (main_node event) (lost_has t table s good n event s' answers e in_e lost_e) (lost_has t table s good n event s' answers f in_f lost_f))
