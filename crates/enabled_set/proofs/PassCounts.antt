-- The numbers below a number that pass a test, how many there are, and sums of counts.
use Rattle.enabled_set.proofs.Prelude.{◌≡◌, ◌≢◌, ℕ, zero, suc, ◌+◌, ◌-◌, ◌<◌, ◌≤◌, Bool, true, false, cond, List, [], ◌∷◌, ◌++◌, map, length, get_or, set, refl, sym, ap, ◌∙◌, arith, add-one, cases_lt, filter, range_with_len, append-nil, map-id, length-append, get_or-set_other, get_or-set_same, is_in, filter_of_map_range_with_len_more}
use Rattle.enabled_set.specs.Counts.{tally, before, below}

pub below_none : (p : ℕ → Bool) → below p 0 ≡ []
unfolding below
below_none p = refl

-- one number more
pub below_more : (p : ℕ → Bool) (n : ℕ) → below p (suc n) ≡ below p n ++ cond (p n) (n ∷ []) []
unfolding below
below_more p n =
    let same : (m : ℕ) → map (λ (k : ℕ). k) (range_with_len 0 m) ≡ range_with_len 0 m = λ m. map-id (range_with_len 0 m) in
    ap (λ m. filter p (range_with_len 0 m)) (sym (add-one n))
    ∙ ap (filter p) (sym (same (n + 1)))
    ∙ filter_of_map_range_with_len_more p (λ (k : ℕ). k) 0 n n (omega arith)
    ∙ ap (λ l. filter p l ++ cond (p n) (n ∷ []) []) (same n)

-- none more if no number passes
pub below_flat : (p : ℕ → Bool) (a n b : ℕ) → b ≡ a + n → ((k : ℕ) → a ≤ k → k < b → p k ≡ false) → below p b ≡ below p a
below_flat p a zero b e none = ap (below p) (let to : b ≡ a = omega arith in to)
below_flat p a (suc n) b e none =
    ap (below p) (let to : b ≡ suc (a + n) = omega arith in to) ∙ below_more p (a + n)
    ∙ ap (λ t. below p (a + n) ++ cond t ((a + n) ∷ []) []) (none (a + n) (omega arith) (omega arith)) ∙ append-nil (below p (a + n))
    ∙ below_flat p a n (a + n) refl (λ k low high. none k low (omega arith))

pub tally_none : (p : ℕ → Bool) → tally p 0 ≡ 0
unfolding tally below
tally_none p = refl

pub tally_more : (p : ℕ → Bool) (n : ℕ) → tally p (suc n) ≡ tally p n + cond (p n) 1 0
unfolding tally
tally_more p n =
    ap length (below_more p n) ∙ length-append (below p n) (cond (p n) (n ∷ []) [])
    ∙ elim (p n) as (λ b. length (below p n) + length (cond b (n ∷ []) []) ≡ length (below p n) + cond b 1 0) [ true ↦ refl | false ↦ refl ]

pub before_none : (counts : List ℕ) → before counts 0 ≡ 0
unfolding before
before_none counts = refl

pub before_more : (counts : List ℕ) (i : ℕ) → before counts (suc i) ≡ before counts i + get_or counts i 0
unfolding before
before_more counts i = refl

pub before_step : (counts : List ℕ) (i : ℕ) → before counts (i + 1) ≡ before counts i + get_or counts i 0
before_step counts i = ap (before counts) (add-one i) ∙ before_more counts i

pub before_next : (counts : List ℕ) (i j : ℕ) → j ≡ i + 1 → before counts j ≡ before counts i + get_or counts i 0
before_next counts i j e = ap (before counts) e ∙ before_step counts i

-- if one place has more members than remain to be skipped, it has one and none remains to be skipped
pub last : (p : ℕ → Bool) (n left : ℕ) → tally p n + left < tally p (n + 1) → (p n ≡ true) × (left ≡ 0)
last p n left less = let more = ap (tally p) (add-one n) ∙ tally_more p n in grind arith

-- some more numbers add that many at most
pub tally_add : (p : ℕ → Bool) (a n b : ℕ) → b ≡ a + n → (tally p a ≤ tally p b) × (tally p b ≤ tally p a + n)
tally_add p a zero b e =
    let to : b ≡ a = omega arith in (grind arith, grind arith)
tally_add p a (suc n) b e =
    let to : b ≡ suc (a + n) = omega arith in
    grind (arith, tally_add p a n (a + n) refl, tally_more p (a + n))

pub tally_rise : (p : ℕ → Bool) (a b : ℕ) → a ≤ b → tally p a ≤ tally p b
tally_rise p a b h = (tally_add p a (b - a) b (omega arith)).0

-- past a number that passes it rises by one
pub tally_through : (p : ℕ → Bool) (a v b : ℕ) → p v ≡ true → a ≤ v → v < b → tally p a + 1 ≤ tally p b
tally_through p a v b h low high =
    let low_part = tally_rise p a v low in
    let one = rw h at (tally_more p v) in
    let high_part = tally_rise p (suc v) b (omega arith) in
    omega arith

-- a tally stays the same if no number passes
pub tally_flat : (p : ℕ → Bool) (a b : ℕ) → a ≤ b → ((k : ℕ) → a ≤ k → k < b → p k ≡ false) → tally p b ≡ tally p a
unfolding tally
tally_flat p a b up none = ap length (below_flat p a (b - a) b (omega arith) none)

-- if no number from one on passes, no tally is above the tally below that number
pub tally_end : (p : ℕ → Bool) (a b : ℕ) → ((k : ℕ) → a ≤ k → p k ≡ false) → tally p b ≤ tally p a
tally_end p a b none = grind (arith, tally_rise, tally_flat, cases_lt)

-- two tests that agree from a number on
pub tally_shift : (p q : ℕ → Bool) (a n : ℕ) → ((k : ℕ) → k < n → p (a + k) ≡ q k) → tally p (a + n) ≡ tally p a + tally q n
tally_shift p q a zero same = let none = tally_none q in let to : a + 0 ≡ a = omega arith in grind arith
tally_shift p q a (suc n) same =
    let ih = tally_shift p q a n (λ k high. same k (omega arith)) in
    let here = same n (omega arith) in
    let to : a + suc n ≡ suc (a + n) = omega arith in
    grind (arith, tally_more p (a + n), tally_more q n)

-- sums of what each number has, if one number has something else
sum_put : (f g p q : ℕ → ℕ) (v x : ℕ) → q v ≡ x → f 0 ≡ g 0 → ((i : ℕ) → f (suc i) ≡ f i + p i) → ((i : ℕ) → g (suc i) ≡ g i + q i) → (n : ℕ) → ((i : ℕ) → i < n → i ≢ v → q i ≡ p i) → (n ≤ v → g n ≡ f n) × (v < n → g n + p v ≡ f n + x)
sum_put f g p q v x is start more_f more_g zero others = (λ up. sym start, λ low. absurd (omega (arith, low)))
sum_put f g p q v x is start more_f more_g (suc n) others =
    let ih = sum_put f g p q v x is start more_f more_g n (λ i low apart. others i (omega arith) apart) in
    let a = more_f n in
    let b = more_g n in
    let same = others n (omega arith) in
    (λ up. grind arith, λ low. grind arith)

-- a tally if the test of one number has changed, and a sum of counts if one count has
pub tally_put : (p q : ℕ → Bool) (v n : ℕ) (b : Bool) → q v ≡ b → ((k : ℕ) → k < n → k ≢ v → q k ≡ p k) → (n ≤ v → tally q n ≡ tally p n) × (v < n → tally q n + cond (p v) 1 0 ≡ tally p n + cond b 1 0)
tally_put p q v n b here others =
    sum_put (tally p) (tally q) (λ k. cond (p k) 1 0) (λ k. cond (q k) 1 0) v (cond b 1 0) (ap (λ t. cond {A = ℕ} t 1 0) here) (tally_none p ∙ sym (tally_none q)) (tally_more p) (tally_more q) n (λ k low apart. ap (λ t. cond {A = ℕ} t 1 0) (others k low apart))

pub tally_set : (bits : List Bool) (v : ℕ) (b : Bool) (n : ℕ) → v < length bits → (n ≤ v → tally (is_in (set bits v b)) n ≡ tally (is_in bits) n) × (v < n → tally (is_in (set bits v b)) n + cond (is_in bits v) 1 0 ≡ tally (is_in bits) n + cond b 1 0)
tally_set bits v b n there =
    tally_put (is_in bits) (is_in (set bits v b)) v n b (get_or-set_same bits v b false there) (λ k low apart. get_or-set_other bits v k b false apart)

pub before_set : (counts : List ℕ) (j x n : ℕ) → j < length counts → (n ≤ j → before (set counts j x) n ≡ before counts n) × (j < n → before (set counts j x) n + get_or counts j 0 ≡ before counts n + x)
before_set counts j x n there =
    sum_put (before counts) (before (set counts j x)) (λ k. get_or counts k 0) (λ k. get_or (set counts j x) k 0) j x (get_or-set_same counts j x 0 there) (before_none counts ∙ sym (before_none (set counts j x))) (before_more counts) (before_more (set counts j x)) n (λ k low apart. get_or-set_other counts j k x 0 apart)

-- The state of a scan that has summed the blocks up to one: it is after those that it has skipped, and before
-- one with more members than remain to be skipped.
pub record IsPassed (f : ℕ → ℕ) (from at place left sum to_pass : ℕ) : Type 0 where
  pub summed : f at ≡ f from + sum
  pub passed : f place + left ≡ f from + to_pass
  pub low : from ≤ place
  pub high : place ≤ at
  pub stands : place < at → f from + to_pass < f (place + 1)
