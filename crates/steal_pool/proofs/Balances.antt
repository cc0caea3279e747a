-- Each move at an end keeps the rule.
use Rattle.steal_pool.proofs.Prelude.{◌≡◌, ◌≢◌, ℕ, zero, suc, ◌+◌, ◌-◌, ◌<◌, ◌≤◌, List, [], ◌∷◌, ◌++◌, length, set, sym, refl, ap, ◌∙◌, subst, ⊎_elim, append-nil, arith, Option, Some, None, IfSome, MatchOption, sum_by, range_with_len, sum_by-append, sum_by-cons, sum_by-le, sum_by_push, cases_lt, get_or-range_with_len, length-range_with_len, Pushes, Finds, FindsFew, Forks, Merges, at_set, at_snoc, set_else, Block, Ledger, ledger, first_places, block_places, places_in, Knows, Balanced, with_put, ArePlaces, Takes, KnowsAll, rest_of, part_of, joined_ledger}
use mathlib.Core.Option.{some, some-injective, some-ne-none}
use lib.ListN.{get_elem?}
use Rattle.crossbeam_deque.specs.Tasks.{Takes as Leaves}

-- a total after a change of one pass
total_set : (f : Ledger → ℕ) (views : List Ledger) (port : ℕ) (v w : Ledger) → get_elem? views port ≡ some v → sum_by f (set views port w) + f v ≡ sum_by f views + f w
total_set f [] port v w at = absurd (some-ne-none v (sym at))
total_set f (x ∷ xs) zero v w at = let e : f x ≡ f v = ap f (some-injective x v at) in omega (arith, sum_by-cons f x xs, sum_by-cons f w xs)
total_set f (x ∷ xs) (suc port) v w at = omega (arith, total_set f xs port v w at, sum_by-cons f x xs, sum_by-cons f x (set xs port w))

-- if no pass has any of f, and g is 0 if f is, none has any of g
none_of : (f g : Ledger → ℕ) (views : List Ledger) → sum_by f views ≡ 0 → ((j : ℕ) (u : Ledger) → get_elem? views j ≡ some u → f u ≡ 0 → g u ≡ 0) → sum_by g views ≡ 0
none_of f g [] none too = refl
none_of f g (x ∷ xs) none too =
    let cut = sum_by-cons f x xs in
    let first : g x ≡ 0 = too 0 x refl (omega arith) in
    let rest = none_of f g xs (omega arith) (λ j u. too (suc j) u) in
    omega (arith, sum_by-cons g x xs)

-- if one pass has the whole, no other has a part
no_part : (views : List Ledger) (port : ℕ) (v : Ledger) → get_elem? views port ≡ some v → sum_by (λ u. u.parts) views ≡ v.parts → (j : ℕ) (u : Ledger) → j ≢ port → get_elem? views j ≡ some u → u.parts ≡ 0
no_part views port v at all j u other there =
    let gone = ledger 0 0 [] in
    let total = total_set (λ (x : Ledger). x.parts) views port v gone at in
    let most = total_set (λ (x : Ledger). x.parts) (set views port gone) j u gone (set_else views port j gone other ∙ there) in
    omega arith

-- numbers after others weigh both
behind : (h : ℕ → ℕ) (a n m all b : ℕ) → n + m ≡ all → a + n ≡ b → sum_by h (range_with_len a all) ≡ sum_by h (range_with_len a n) + sum_by h (range_with_len b m)
behind h a zero m all b size next =
    let more : sum_by h (range_with_len a all) ≡ sum_by h (range_with_len a m) = (let same : all ≡ m = omega arith in ap (λ (n : ℕ). sum_by h (range_with_len a n)) same) in
    let start : sum_by h (range_with_len a m) ≡ sum_by h (range_with_len b m) = (let same : a ≡ b = omega arith in ap (λ (c : ℕ). sum_by h (range_with_len c m)) same) in
    let none : sum_by h (range_with_len a 0) ≡ 0 = refl in
    omega arith
behind h a (suc n) m zero b size next = absurd (omega arith)
behind h a (suc n) m (suc all) b size next =
    omega (arith, behind h (a + 1) n m all b (omega arith) (omega arith), sum_by-cons h a (range_with_len (a + 1) all), sum_by-cons h a (range_with_len (a + 1) n))

-- blocks weigh what their places do
blocks_weigh : (h : ℕ → ℕ) (xs ys : List Block) → sum_by h (places_in (xs ++ ys)) ≡ sum_by h (places_in xs) + sum_by h (places_in ys)
blocks_weigh h [] ys = let none : sum_by h (places_in []) ≡ 0 = refl in omega arith
blocks_weigh h (x ∷ xs) ys = omega (arith, blocks_weigh h xs ys, sum_by-append h (block_places x) (places_in (xs ++ ys)), sum_by-append h (block_places x) (places_in xs))

-- the places of one block
pub one_block : (b : Block) → places_in (b ∷ []) ≡ block_places b
one_block b = append-nil (block_places b)

-- what each pass knows, after a change of one
known_set : (count : ℕ) (views : List Ledger) (port : ℕ) (w : Ledger) → Knows count w → ((j : ℕ) (u : Ledger) → j ≢ port → get_elem? views j ≡ some u → Knows count u) → (j : ℕ) (u : Ledger) → get_elem? (set views port w) j ≡ some u → Knows count u
known_set count views port w mine others j u at =
    ⊎_elim (λ (x : (j ≡ port) × (w ≡ u)). subst (Knows count) x.1 mine) (λ (x : (j ≢ port) × (get_elem? views j ≡ some u)). others j u x.0 x.1) (at_set views port j w u at)

pub begins : Balanced [] (ledger 64 0 [] ∷ [])
begins = record {
  count = 0;
  whole = refl;
  once = λ h. refl;
  known = λ port v at. ⊎_elim (λ (x : get_elem? {A = Ledger} [] port ≡ some v). absurd (some-ne-none v (sym x))) (λ (x : ledger 64 0 [] ≡ v). subst (Knows 0) x ((λ none. absurd (omega arith)), λ _. refl)) (at_snoc [] (ledger 64 0 []) v port at);
}

pub puts : (port : ℕ) (v : Ledger) (block : Block) → v.parts ≡ 64 → v.count ≡ block.first → Pushes Balanced port v (block ∷ []) (λ w. w ≡ with_put v (block ∷ []))
puts port v block all next items views b at =
    let w = with_put v (block ∷ []) in
    let total = total_set (λ (u : Ledger). u.parts) views port v w at in
    let size : v.count ≡ b.count = (b.known port v at).1 (omega arith) in
    let whole = b.whole in (
      w,
      record {
        count = block.end;
        whole = omega arith;
        once = λ h.
            let s = total_set (λ (u : Ledger). sum_by h u.taken) views port v w at in
            let p = b.once h in
            let filled : block.first < block.end = block.some in
            let m = behind h 0 block.first (block.end - block.first) block.end block.first (omega arith) (omega arith) in
            let e : sum_by h (first_places block.first) ≡ sum_by h (first_places b.count) = ap (λ n. sum_by h (first_places n)) (sym next ∙ size) in
            let a = blocks_weigh h items (block ∷ []) in
            let one : sum_by h (places_in (block ∷ [])) ≡ sum_by h (block_places block) = ap (sum_by h) (one_block block) in
            omega arith;
        known = known_set block.end views port w ((λ none. absurd (omega arith)), λ _. refl)
            (λ j u other there.
            let idle = no_part views port v at (whole ∙ sym all) j u other there in
            ((b.known j u there).0, λ part. absurd (omega arith)));
      },
      refl,
    )

pub takes : (port : ℕ) (v : Ledger) → 0 < v.parts → Leaves Balanced port v 1 (Takes v)
takes port v part xs items views some_left few b at =
    let w = ledger v.parts v.count (v.taken ++ places_in xs) in
    let total = total_set (λ (u : Ledger). u.parts) views port v w at in
    let whole = b.whole in
    let size : v.count ≡ b.count = (b.known port v at).1 part in
    let once : (h : ℕ → ℕ) → sum_by (λ (u : Ledger). sum_by h u.taken) (set views port w) + sum_by h (places_in items) ≡ sum_by h (first_places b.count) = λ h.
    let s = total_set (λ (u : Ledger). sum_by h u.taken) views port v w at in
    let p = b.once h in
    let mine = sum_by-append h v.taken (places_in xs) in
    let rest = blocks_weigh h xs items in
    omega arith in (
      w,
      record {
        count = b.count;
        whole = omega arith;
        once = once;
        known = known_set b.count views port w ((λ none. absurd (omega arith)), λ _. size) (λ j u other there. b.known j u there);
      },
      (
        refl,
        λ h.
            let most = total_set (λ (u : Ledger). sum_by h u.taken) views port v (ledger 0 0 []) at in
            let s = total_set (λ (u : Ledger). sum_by h u.taken) views port v w at in
            let p = once h in
            let e : sum_by h (first_places v.count) ≡ sum_by h (first_places b.count) = ap (λ n. sum_by h (first_places n)) size in
            omega arith,
      ),
    )

pub found : (port : ℕ) (v : Ledger) → Finds Balanced port v (KnowsAll v)
found port v views b at all h =
    let gone = ledger 0 0 [] in
    let whole = b.whole in
    let size : v.count ≡ b.count = (b.known port v at).1 (omega arith) in
    let parts = total_set (λ (u : Ledger). u.parts) views port v gone at in
    let taken = total_set (λ (u : Ledger). sum_by h u.taken) views port v gone at in
    let others = none_of (λ (u : Ledger). u.parts) (λ (u : Ledger). sum_by h u.taken) (set views port gone) (omega arith)
    (λ j u there none. ap (sum_by h) ((known_set b.count views port gone ((λ _. refl), λ part. absurd (omega arith)) (λ k y _ here. b.known k y here) j u there).0 none)) in
    let p = b.once h in
    let e : sum_by h (first_places v.count) ≡ sum_by h (first_places b.count) = ap (λ n. sum_by h (first_places n)) size in
    omega arith

pub found_few : (few port : ℕ) (v : Ledger) → few ≡ 0 → FindsFew Balanced few port v (KnowsAll v)
found_few few port v none [] views least b at = found port v views b at
found_few few port v none (x ∷ xs) views least b at = absurd (omega arith)

pub forks : (port : ℕ) (v : Ledger) → 1 < v.parts → Forks Balanced port v (rest_of v) (part_of v)
forks port v parts items views b at =
    let l = rest_of v in
    let r = part_of v in
    let vs = set views port l in
    let size : v.count ≡ b.count = (b.known port v at).1 (omega arith) in
    let whole = b.whole in
    record {
      count = b.count;
      whole =
          let total = total_set (λ (u : Ledger). u.parts) views port v l at in
          let a = sum_by_push (λ (u : Ledger). u.parts) vs r in
          omega arith;
      once = λ h.
          let s = total_set (λ (u : Ledger). sum_by h u.taken) views port v l at in
          let p = b.once h in
          let a = sum_by_push (λ (u : Ledger). sum_by h u.taken) vs r in
          omega arith;
      known = λ j u there. ⊎_elim (λ (x : get_elem? vs j ≡ some u). known_set b.count views port l ((λ none. absurd (omega arith)), λ _. size) (λ k y other here. b.known k y here) j u x)
          (λ (x : r ≡ u). subst (Knows b.count) x ((λ none. absurd (omega arith)), λ _. size)) (at_snoc vs r u j there);
    }

pub merges : (port : ℕ) (v : Ledger) (other : ℕ) (w : Ledger) → 0 < v.parts → Merges Balanced port v other w (joined_ledger v w) (ledger 0 0 [])
merges port v other w part items views b at apart theirs =
    let both = joined_ledger v w in
    let gone = ledger 0 0 [] in
    let vs = set views port both in
    let size : v.count ≡ b.count = (b.known port v at).1 part in
    let whole = b.whole in
    record {
      count = b.count;
      whole =
          let one = total_set (λ (u : Ledger). u.parts) views port v both at in
          let two = total_set (λ (u : Ledger). u.parts) vs other w gone theirs in
          omega arith;
      once = λ h.
          let one = total_set (λ (u : Ledger). sum_by h u.taken) views port v both at in
          let two = total_set (λ (u : Ledger). sum_by h u.taken) vs other w gone theirs in
          let p = b.once h in
          let a = sum_by-append h v.taken w.taken in
          omega arith;
      known = known_set b.count vs other gone ((λ _. refl), λ some_part. absurd (omega arith))
          (λ j u _ here. known_set b.count views port both ((λ none. absurd (omega arith)), λ _. size) (λ k y _ there. b.known k y there) j u here);
    }

-- a list weighs its length if each item weighs one
ones : (xs : List ℕ) → sum_by (λ _. 1) xs ≡ length xs
ones [] = refl
ones (x ∷ xs) = omega (arith, ones xs, sum_by-cons (λ (_ : ℕ). 1) x xs)

-- the places taken are some that were put, and at most as many
pub within : (count : ℕ) (block : Block) (before taken : List ℕ) → taken ≡ before ++ places_in (block ∷ []) → ArePlaces count taken → (block.end ≤ count) × (length taken ≤ count)
within count block before taken is are = (
  (let above : ℕ → ℕ = λ y. y + 1 - count in
      let e : sum_by above taken ≡ sum_by above (before ++ block_places block) = ap (sum_by above) (is ∙ ap (λ bs. before ++ bs) (one_block block)) in
      let filled : block.first < block.end = block.some in
      let last = behind above block.first (block.end - 1 - block.first) 1 (block.end - block.first) (block.end - 1) (omega arith) (omega arith) in
      let none = sum_by-le above 0 (first_places count) (λ k d below. let len = length-range_with_len 0 count in let at = get_or-range_with_len 0 count k d (omega arith) in omega arith) in
      omega (arith, are above, sum_by-append above before (block_places block))),
  omega (arith, are (λ _. 1), ones taken, ones (first_places count), length-range_with_len 0 count),
)

-- every place that was put weighs in
pub has_place : (count k : ℕ) → k < count → 1 ≤ sum_by (λ y. 1 - ((y - k) + (k - y))) (first_places count)
has_place (suc count) k below =
    let more = behind (λ (y : ℕ). 1 - ((y - k) + (k - y))) 0 count 1 (suc count) count (omega arith) (omega arith) in
    ⊎_elim (λ (less : k < count). let rest = has_place count k less in omega arith) (λ (last : count ≤ k). omega arith) (cases_lt k count)
has_place zero k below = absurd (omega arith)

pub taken_within : (P : Type 0) (v w : Ledger) (result : Option Block) → MatchOption result P (λ block. Takes v (block ∷ []) w) → IfSome result (λ block. (block.end ≤ v.count) × (length w.taken ≤ v.count))
taken_within P v w None taken = tt
taken_within P v w (Some block) taken = within v.count block v.taken w.taken (ap (λ (u : Ledger). u.taken) taken.0) taken.1
