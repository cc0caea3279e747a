-- A daemon's choice among the enabled nodes is accepted as a step. Each item's node is enabled, hence present
-- with a rule, and has no wish. Ascending nodes differ, so none was chosen before. There is an item, and only
-- one if the daemon is central. A step is judged by nothing else.
use Rattle.locked_net.proofs.Prelude.{◌≡◌, ℕ, ◌≤◌, Bool, true, false, not, ◌&&◌, ◌||◌, List, [], ◌∷◌, ◌++◌, length, get_or, Option, None, Some, is_some, IsTrue, nat_eq, nat_lt, if◌then◌else◌, refl, ap, ◌∙◌, subst, arith, slice_get, All, list_any, range_with_len, AllByRecursion, option_or, All-filter, filter_passes, recursion_from_All, list_any-append, slice_get_within, get_or_from_slice_get, nat_tests, Act, Item, UnknownNode, ChosenTwice, present, names, State, RuleTable, rule_at, enabled_names, rule_refusal, item_refusal, items_refusal, step_refusal, is_in, members, nodes_of, IsLawful, rising_distinct}
use Rattle.std.specs.List.{IsDistinct}
use Rattle.enabled_set.proofs.Members.{nth_member}
use Rattle.enabled_set.specs.Counts.{tally}

-- ---- the enabled nodes

-- each is present, and has a rule
pub record IsEnabled (t : RuleTable) (s : State) (v : ℕ) : Type 0 where
  pub has : present s.network v ≡ true
  pub rule : is_some (rule_at t s v) ≡ true

pub enabled_at : (t : RuleTable) (s : State) (k v : ℕ) → slice_get (enabled_names t s) k ≡ Some v → IsEnabled t s v
enabled_at t s k v at =
    let within = slice_get_within (enabled_names t s) k v at in
    let rule : ℕ → Bool = λ u. is_some (rule_at t s u) in
    let has = All-filter rule (λ u. present s.network u ≡ true) (names s.network) (filter_passes (present s.network) (range_with_len 1 s.network.size)) k v within in
    subst (IsEnabled t s) (get_or_from_slice_get (enabled_names t s) k v v at) (record { has = has; rule = filter_passes rule (names s.network) k v within })

-- a member is one
member_enabled : (t : RuleTable) (s : State) (bits : List Bool) (v : ℕ) → members bits ≡ enabled_names t s → is_in bits v ≡ true → IsEnabled t s v
member_enabled t s bits v same on =
    let place = tally (is_in bits) v in
    enabled_at t s place v (subst (λ nodes. slice_get nodes place ≡ Some v) same (nth_member bits v place on refl))

-- ---- the items

pub taken_by : (t : RuleTable) (s : State) (item : Item) (here twice : Bool) (rule : Option Act) → here ≡ true → twice ≡ false → is_some rule ≡ true → item.wish ≡ None
    → (if not here then Some UnknownNode else (if twice then Some ChosenTwice else rule_refusal t s item rule)) ≡ None
taken_by t s item here twice rule h n r free = grind arith

pub few_alone : (central : Bool) (n : ℕ) → (IsTrue central → n ≡ 1) → (central && nat_lt 1 n) ≡ false
few_alone central n one = grind arith

-- each of these nodes differs from those of the earlier items
abbrev Fresh : List Item → List ℕ → Type 0
Fresh earlier nodes = AllByRecursion (λ q. list_any (λ i. nat_eq i.node q) earlier ≡ false) nodes

fresh_more : (earlier : List Item) (item : Item) (nodes : List ℕ) → Fresh earlier nodes → AllByRecursion (λ q. nat_eq item.node q ≡ false) nodes → Fresh (earlier ++ item ∷ []) nodes
fresh_more earlier item [] fresh apart = tt
fresh_more earlier item (q ∷ nodes) fresh apart = (grind (arith, list_any-append {X = Item}), fresh_more earlier item nodes fresh.1 apart.1)

fresh_none : (nodes : List ℕ) → Fresh [] nodes
fresh_none [] = tt
fresh_none (q ∷ nodes) = (refl, fresh_none nodes)

-- what an item of a choice is judged by, apart from the items before it
record IsFine (t : RuleTable) (s : State) (item : Item) : Type 0 where
  has : present s.network item.node ≡ true
  rule : is_some (rule_at t s item.node) ≡ true
  free : item.wish ≡ None

items_taken : (t : RuleTable) (s : State) (earlier items : List Item) → AllByRecursion (IsFine t s) items → Fresh earlier (nodes_of items) → IsDistinct nat_eq (nodes_of items) → items_refusal t s earlier items ≡ None
unfolding IsDistinct
items_taken t s earlier [] fine fresh apart = refl
items_taken t s earlier (item ∷ items) fine fresh apart =
    let here : item_refusal t s earlier item ≡ None = taken_by t s item (present s.network item.node) (list_any (λ i. nat_eq i.node item.node) earlier) (rule_at t s item.node) fine.0.has fresh.0 fine.0.rule fine.0.free in
    ap (λ o. option_or o (items_refusal t s (earlier ++ item ∷ []) items)) here ∙ items_taken t s (earlier ++ item ∷ []) items fine.1 (fresh_more earlier item (nodes_of items) fresh.1 apart.0) apart.1

-- ---- the choice

pub lawful_taken : (t : RuleTable) (s : State) (bits : List Bool) (items : List Item) → members bits ≡ enabled_names t s → IsLawful bits t.central items → step_refusal t s items ≡ None
lawful_taken t s bits items same lawful =
    let fine : All (IsFine t s) items = λ k d below.
    let on = member_enabled t s bits (get_or items k d).node same (lawful.chosen k d below) in
    record { has = on.has; rule = on.rule; free = lawful.no_wish k d below }
    in
    let taken = items_taken t s [] items (recursion_from_All (IsFine t s) items fine) (fresh_none (nodes_of items)) (rising_distinct (nodes_of items) lawful.ascending) in
    let alone = few_alone t.central (length items) lawful.one in
    let some = lawful.some in
    grind (arith, nat_tests)
