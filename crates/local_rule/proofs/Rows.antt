-- Rows without a fault: what each of them keeps.
use Rattle.local_rule.proofs.Prelude.{◌≡◌, ◌≢◌, ℕ, zero, suc, ◌+◌, ◌<◌, ◌≤◌, Bool, true, false, cond, ◌||◌, List, [], ◌∷◌, length, map, get_or, nat_eq, nat_le, Option, None, Some, is_some, IfSome, refl, sym, ap, ◌∙◌, ⊎_elim, arith, add-one, cases_Bool, true≢false, eqb-true, eq-eqb, ne_eqb, leb-false, nat_tests, cond-true, cond-false, none-some, same_Some, AllByRecursion, IsStrictlyIncreasing, option_or, NodeRecord, is_at, is_at_from_some, if_some_at, has, RisesFrom, row_fault, rows_fault, record_of, name_in, greatest_in}

-- a row of a star: its name is above the one before it, within the size, and not the node's own; its target
-- is a name within the size, and not its own
pub record IsRow (size me before : ℕ) (r : NodeRecord) : Type 0 where
  pub above : before < r.node
  pub within : r.node ≤ size
  pub apart : r.node ≢ me
  pub target : (w : ℕ) → r.target ≡ Some w → (1 ≤ w) × (w ≤ size) × (w ≢ r.node)

abbrev pub AreRows : ℕ → ℕ → ℕ → List NodeRecord → Type 0
AreRows size me before [] = Unit {0}
AreRows size me before (r ∷ rows) = IsRow size me before r × AreRows size me r.node rows

abbrev pub names_of : List NodeRecord → List ℕ
names_of rows = map (λ (r : NodeRecord). r.node) rows

-- neither has a fault
pub neither : {X : Type 0} (a b : Option X) → option_or a b ≡ None → (a ≡ None) × (b ≡ None)
neither None b e = (refl, e)
neither (Some x) b e = absurd cc

pub none_before : {X : Type 0} (a b : Option X) → a ≡ None → b ≡ None → option_or a b ≡ None
none_before None b e h = h
none_before (Some x) b e h = absurd cc

row_parts : (me before : ℕ) (r : NodeRecord) → row_fault me before r ≡ None → (nat_le r.node before ≡ false) × (nat_eq r.node me ≡ false) × (is_at r.target r.node ≡ false)
row_parts me before r e = grind arith

row_is : (size me before : ℕ) (r : NodeRecord) → row_fault me before r ≡ None → IfSome r.target (λ w. 1 ≤ w) → r.node ≤ size → name_in r.target ≤ size → IsRow size me before r
row_is size me before r e named low high =
    let parts = row_parts me before r e in record {
      above = leb-false r.node before parts.0;
      within = low;
      apart = λ same. true≢false (sym (eq-eqb r.node me same) ∙ parts.1);
      target = λ w at. (
        if_some_at r.target (λ x. 1 ≤ x) w at named,
        (let is = ap name_in at in omega (arith, is)),
        λ same. true≢false (sym (is_at_from_some r.target r.node (at ∙ ap Some same)) ∙ parts.2),
      );
    }

pub rows_are : (size me before : ℕ) (rows : List NodeRecord) → rows_fault me before rows ≡ None → AllByRecursion (λ r. IfSome r.target (λ w. 1 ≤ w)) rows → greatest_in rows ≤ size → AreRows size me before rows
rows_are size me before [] e named fits = tt
rows_are size me before (r ∷ rows) e named fits =
    let parts = neither (row_fault me before r) (rows_fault me r.node rows) e in
    (row_is size me before r parts.0 named.0 (omega arith) (omega arith), rows_are size me r.node rows parts.1 named.1 (omega arith))

-- the names of the rows rise
pub names_rise : (size me before : ℕ) (rows : List NodeRecord) → AreRows size me before rows → RisesFrom (before + 1) (names_of rows)
unfolding RisesFrom
names_rise size me before [] good = tt
names_rise size me before (r ∷ rows) good = (let above = good.0.above in omega arith, names_rise size me r.node rows good.1)

rises_at : (a : ℕ) (xs : List ℕ) → RisesFrom a xs → (k : ℕ) → k + 1 < length xs → get_or xs k 0 < get_or xs (k + 1) 0
unfolding RisesFrom
rises_at a [] up k inside = absurd (omega arith)
rises_at a (x ∷ []) up k inside = absurd (omega arith)
rises_at a (x ∷ y ∷ ys) up zero inside = let le = up.1.0 in omega arith
rises_at a (x ∷ y ∷ ys) up (suc k) inside =
    let h = rises_at (x + 1) (y ∷ ys) up.1 k (omega arith) in simp add-one (simp add-one at h)

pub names_increase : (size me before : ℕ) (rows : List NodeRecord) → AreRows size me before rows → IsStrictlyIncreasing (names_of rows)
names_increase size me before rows good = rises_at (before + 1) (names_of rows) (names_rise size me before rows good)

-- a row that is found
pub found_row : (size me before : ℕ) (rows : List NodeRecord) (v : ℕ) (r : NodeRecord) → AreRows size me before rows → record_of rows v ≡ Some r → (r.node ≡ v) × (before < v) × (v ≤ size) × (v ≢ me)
found_row size me before [] v r good e = absurd (none-some r e)
found_row size me before (x ∷ rows) v r good e =
    ⊎_elim
    (
    λ (here : nat_eq x.node v ≡ true). let same : x ≡ r = same_Some _ _ (sym (cond-true _ _ _ here) ∙ e) in
    let is : x.node ≡ v = eqb-true x.node v here in
    let above = good.0.above in
    let within = good.0.within in (
      ap (λ (y : NodeRecord). y.node) (sym same) ∙ is,
      omega (arith, is),
      omega (arith, is),
      λ own. good.0.apart (is ∙ own),
    )
    )
    (
    λ (other : nat_eq x.node v ≡ false). let rest = found_row size me x.node rows v r good.1 (sym (cond-false _ _ _ other) ∙ e) in
    let above = good.0.above in
    (rest.0, omega (arith, rest.1), rest.2, rest.3)
    )
    (cases_Bool (nat_eq x.node v))

-- among the names are those that have a row
pub has_name : (rows : List NodeRecord) (w : ℕ) → has (names_of rows) w ≡ is_some (record_of rows w)
has_name [] w = refl
has_name (r ∷ rows) w = go (nat_eq w r.node) (nat_eq r.node w) (turned w r.node) (has_name rows w)
  where
    turned : (a b : ℕ) → nat_eq a b ≡ nat_eq b a
    turned a b = grind (arith, nat_tests)

    go : (b c : Bool) → b ≡ c → has (names_of rows) w ≡ is_some (record_of rows w) → (b || has (names_of rows) w) ≡ is_some (cond c (Some r) (record_of rows w))
    go b c same rest = grind arith

-- each row is the one of its name
later_apart : (size me before : ℕ) (rows : List NodeRecord) (v : ℕ) → AreRows size me before rows → v ≤ before → AllByRecursion (λ r. nat_eq v r.node ≡ false) rows
later_apart size me before [] v good low = tt
later_apart size me before (r ∷ rows) v good low =
    let above = good.0.above in
    (ne_eqb v r.node (λ same. omega arith), later_apart size me r.node rows v good.1 (omega arith))

beside : (x : NodeRecord) (rows all : List NodeRecord) → AllByRecursion (λ r. nat_eq x.node r.node ≡ false) all → AllByRecursion (λ r. record_of rows r.node ≡ Some r) all → AllByRecursion (λ r. record_of (x ∷ rows) r.node ≡ Some r) all
beside x rows [] apart own = tt
beside x rows (r ∷ all) apart own = (cond-false _ _ _ apart.0 ∙ own.0, beside x rows all apart.1 own.1)

pub each_found : (size me before : ℕ) (rows : List NodeRecord) → AreRows size me before rows → AllByRecursion (λ r. record_of rows r.node ≡ Some r) rows
each_found size me before [] good = tt
each_found size me before (r ∷ rows) good = (
  cond-true _ _ _ (eq-eqb r.node r.node refl),
  beside r rows rows (later_apart size me r.node rows r.node good.1 (omega arith)) (each_found size me r.node rows good.1),
)
