-- Lists that climb: each number is greater than the one before it, and passes a test.
use Rattle.daemon.proofs.Prelude.{◌≡◌, ℕ, zero, suc, ◌+◌, ◌-◌, ◌<◌, ◌≤◌, Bool, true, false, cond, List, [], ◌∷◌, length, get_or, IsTrue, None, refl, sym, ap, subst, ◌∙◌, arith, ⊎_elim, All, filter, range_with_len, IsStrictlyIncreasing, cases_Bool, get_or_read, All-nil, All-cons, Item, is_in, members, nodes_of, plain, IsLawful}

-- the list climbs from a number on
abbrev pub Climbs : (ℕ → Bool) → ℕ → List ℕ → Type 0
Climbs p low [] = Unit {0}
Climbs p low (x ∷ xs) = (low ≤ x) × (p x ≡ true) × Climbs p (suc x) xs

pub climbs_lower : (p : ℕ → Bool) (low high : ℕ) (xs : List ℕ) → low ≤ high → Climbs p high xs → Climbs p low xs
climbs_lower p low high [] le h = tt
climbs_lower p low high (x ∷ xs) le h = (let e = h.0 in omega arith, h.1, h.2)

-- what passes of the numbers from one on climbs
pub climbs_range : (p : ℕ → Bool) (low n : ℕ) → Climbs p low (filter p (range_with_len low n))
climbs_range p low zero = tt
climbs_range p low (suc n) =
    let rest = climbs_range p (low + 1) n in
    let P : List ℕ → Type 0 = Climbs p low in
    ⊎_elim
    (λ (h : p low ≡ true). subst (λ b. P (cond b (low ∷ filter p (range_with_len (low + 1) n)) (filter p (range_with_len (low + 1) n)))) (sym h) (let le : low ≤ low = omega arith in (le, h, subst (λ k. Climbs p k (filter p (range_with_len (low + 1) n))) (let e : low + 1 ≡ suc low = omega arith in e) rest)))
    (λ (h : p low ≡ false). subst (λ b. P (cond b (low ∷ filter p (range_with_len (low + 1) n)) (filter p (range_with_len (low + 1) n)))) (sym h) (climbs_lower p low (low + 1) (filter p (range_with_len (low + 1) n)) (omega arith) rest))
    (cases_Bool (p low))

pub climbs_members : (bits : List Bool) → Climbs (is_in bits) 0 (members bits)
climbs_members bits = climbs_range (is_in bits) 0 (length bits)

-- each number of the list passes
pub climbs_at : (p : ℕ → Bool) (low : ℕ) (xs : List ℕ) (k : ℕ) → Climbs p low xs → k < length xs → p (get_or xs k 0) ≡ true
climbs_at p low [] k h there = absurd (omega arith)
climbs_at p low (x ∷ xs) zero h there = h.1
climbs_at p low (x ∷ xs) (suc k) h there = climbs_at p (suc x) xs k h.2 (omega arith)

-- the numbers climb by one at each place at least
pub climbs_high : (p : ℕ → Bool) (low : ℕ) (xs : List ℕ) (k : ℕ) → Climbs p low xs → k < length xs → low + k ≤ get_or xs k 0
climbs_high p low [] k h there = absurd (omega arith)
climbs_high p low (x ∷ xs) zero h there = let le = h.0 in omega arith
climbs_high p low (x ∷ xs) (suc k) h there =
    let le = h.0 in
    let more = climbs_high p (suc x) xs k h.2 (omega arith) in
    omega arith

pub climbs_from_first : (p : ℕ → Bool) (low : ℕ) (xs : List ℕ) (k : ℕ) → Climbs p low xs → k < length xs → get_or xs 0 0 + k ≤ get_or xs k 0
climbs_from_first p low [] k h there = absurd (omega arith)
climbs_from_first p low (x ∷ xs) zero h there = omega arith
climbs_from_first p low (x ∷ xs) (suc k) h there =
    let more = climbs_high p (suc x) xs k h.2 (omega arith) in
    omega arith

rises : (p : ℕ → Bool) (low : ℕ) (xs : List ℕ) (k : ℕ) → Climbs p low xs → k + 1 < length xs → get_or xs k 0 < get_or xs (suc k) 0
rises p low [] k h there = absurd (omega arith)
rises p low (x ∷ xs) zero h there = let up = climbs_high p (suc x) xs 0 h.2 (omega arith) in omega arith
rises p low (x ∷ xs) (suc k) h there = rises p (suc x) xs k h.2 (omega arith)

-- There are at most as many members as names, if the first and the last are names.
pub few_members : (bits : List Bool) (list : List ℕ) (first last : ℕ) → list ≡ members bits → 0 < length list → first ≡ get_or list 0 first → last ≡ get_or list (length list - 1) last → 1 ≤ first → last ≤ 65535 → length (members bits) ≤ 65535
few_members bits list first last is some at_first at_last low high =
    let climb : Climbs (is_in bits) 0 list = subst (Climbs (is_in bits) 0) (sym is) (climbs_members bits) in
    let one = get_or_read list 0 first some at_first 0 in
    let end = get_or_read list (length list - 1) last (omega arith) at_last 0 in
    let up = climbs_from_first (is_in bits) 0 list (length list - 1) climb (omega arith) in
    let same = ap length is in
    omega arith

-- the nodes of the items are the names
nodes_plain : (names : List ℕ) → nodes_of (plain names) ≡ names
nodes_plain [] = refl
nodes_plain (v ∷ names) = ap (λ l. v ∷ l) (nodes_plain names)

pub length_plain : (names : List ℕ) → length (plain names) ≡ length names
length_plain [] = refl
length_plain (v ∷ names) = ap suc (length_plain names)

all_pass : (p : ℕ → Bool) (low : ℕ) (names : List ℕ) → Climbs p low names → All (λ (item : Item). IsTrue (p item.node)) (plain names)
all_pass p low [] h = All-nil (λ (item : Item). IsTrue (p item.node))
all_pass p low (v ∷ names) h = All-cons (λ (item : Item). IsTrue (p item.node)) (record { node = v; wish = None }) (plain names) h.1 (all_pass p (suc v) names h.2)

none_wishes : (names : List ℕ) → All (λ (item : Item). item.wish ≡ None) (plain names)
none_wishes [] = All-nil (λ (item : Item). item.wish ≡ None)
none_wishes (v ∷ names) = All-cons (λ (item : Item). item.wish ≡ None) (record { node = v; wish = None }) (plain names) refl (none_wishes names)

-- names of members that climb are a lawful choice
pub lawful_plain : (bits : List Bool) (central : Bool) (names : List ℕ) → Climbs (is_in bits) 0 names → 1 ≤ length names → (IsTrue central → length names ≡ 1) → IsLawful bits central (plain names)
lawful_plain bits central names climb some one =
    let len = length_plain names in
    record {
      some = omega arith;
      chosen = all_pass (is_in bits) 0 names climb;
      ascending = subst IsStrictlyIncreasing (sym (nodes_plain names)) (λ k there. let e : suc k ≡ k + 1 = omega arith in subst (λ j. get_or names k 0 < get_or names j 0) e (rises (is_in bits) 0 names k climb there));
      no_wish = none_wishes names;
      one = λ is_central. len ∙ one is_central;
    }
