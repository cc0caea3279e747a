-- What is laid out by place is the list of all, once every place was taken.
use Rattle.steal_pool.proofs.Prelude.{◌≡◌, ◌≢◌, ℕ, zero, suc, ◌+◌, ◌-◌, ◌<◌, ◌≤◌, List, [], ◌∷◌, ◌++◌, length, map, take, drop, unwrap_or, length-append, append_assoc, sym, ap, ◌∙◌, subst, ⊎_elim, arith, Option, None, Some, slice_get, slice_set, IfSome, MatchOption, sum_by, range_with_len, cases_eq, length-range_with_len, map-range_with_len_more, sum_by-append, sum_by-cons, sum_by_push, All-nil, All-cons, slice_get-get_or, unwrap_or-slice_get, Block, ledger, Takes, KnowsAll, AreAllPlaces, block_places, places_in, get_or-set_same, get_or-set_other, length-map, length-set, map-append, map-id, same_lists, take-append-drop, Ledger, EndView, AreAllEnds, Item, Verdict, State, RuleTable, verdict_of, verdicts_from, verdicts_of, length-verdicts_of, Hand, Share, hand_hold, judged_hold, AreOf, laid, HavePlacesBelow, at_place, taken_in, IsVerdictTable}
use Rattle.steal_pool.proofs.Joinings.{moved}
use Rattle.steal_pool.proofs.Balances.{has_place, one_block}

-- the verdict at a place is the one there among all
verdict_from : (t : RuleTable) (s : State) (from : ℕ) (items : List Item) (k place : ℕ) (v : Verdict) → from + k ≡ place → k < length items → IfSome (slice_get items k) (λ item. v ≡ verdict_of t s place item) → slice_get (verdicts_from t s from items) k ≡ Some v
verdict_from t s from [] k place v at below is = absurd (omega (arith, below))
verdict_from t s from (i ∷ is) zero place v at below same = ap Some (ap (λ (p : ℕ). verdict_of t s p i) (omega arith) ∙ sym same)
verdict_from t s from (i ∷ is) (suc k) place v at below same = verdict_from t s (from + 1) is k place v (omega arith) (omega (arith, below)) same

pub verdict_there : (t : RuleTable) (s : State) (items : List Item) (place : ℕ) (v : Verdict) → place < length items → IfSome (slice_get items place) (λ item. v ≡ verdict_of t s place item) → slice_get (verdicts_of t s items) place ≡ Some v
verdict_there t s items place v below same = verdict_from t s 0 items place place v (omega arith) below same

-- each verdict has the number of its place
pub place_from : (t : RuleTable) (s : State) (from : ℕ) (items : List Item) (k : ℕ) (v : Verdict) → slice_get (verdicts_from t s from items) k ≡ Some v → (k < length items) × (v.place ≡ from + k)
place_from t s from [] k v is = absurd cc
place_from t s from (i ∷ rest) zero v is = (omega arith, (let e : verdict_of t s from i ≡ v = cc in ap (λ (x : Verdict). x.place) (sym e) ∙ omega arith))
place_from t s from (i ∷ rest) (suc k) v is = let later = place_from t s (from + 1) rest k v is in (omega arith, omega arith)

-- a table is right if nothing was taken
pub no_weight : (all table : List Verdict) → length table ≡ length all → (weight : ℕ → ℕ) → ((k : ℕ) → weight k ≡ 0) → IsVerdictTable all table weight
no_weight all table size weight none = record { size = size; right = λ k below some_weight. absurd (omega (arith, none k)) }

pub writes : (all table : List Verdict) (before after : ℕ → ℕ) (place : ℕ) (v : Verdict) → slice_get all place ≡ Some v → ((k : ℕ) → after k ≡ before k + at_place k place) → IsVerdictTable all table before → place < length table → IsVerdictTable all (slice_set table place v) after
writes all table before after place v is more r below =
    let size = length-set table place v in
    record {
      size = size ∙ r.size;
      right = λ k inside some_weight. ⊎_elim
          (λ (e : k ≡ place). subst (λ (j : ℕ). slice_get (slice_set table place v) j ≡ slice_get all j) (sym e) (slice_get-get_or (slice_set table place v) place v (omega (arith, size, below)) ∙ ap Some (get_or-set_same table place v v below) ∙ sym is))
          (λ (other : k ≢ place).
          slice_get-get_or (slice_set table place v) k v (omega (arith, size, inside, r.size)) ∙ ap Some (get_or-set_other table place k v v other) ∙ sym (slice_get-get_or table k v (omega (arith, inside, r.size)))
          ∙ r.right k inside (let m = more k in let z : at_place k place ≡ 0 = omega arith in omega arith))
          (cases_eq k place);
    }

-- a whole share is laid out
pub lays : (t : RuleTable) (s : State) (items : List Item) (taken : List ℕ) (verdicts table : List Verdict) (before after : ℕ → ℕ) → AreOf (verdicts_of t s items) taken verdicts → ((k : ℕ) → after k ≡ before k + sum_by (at_place k) taken) → IsVerdictTable (verdicts_of t s items) table before → IsVerdictTable (verdicts_of t s items) (laid table verdicts) after
lays t s items [] [] table before after are more r = record { size = r.size; right = λ k below some_weight. r.right k below (omega (arith, more k)) }
lays t s items [] (v ∷ vs) table before after are more r = absurd cc
lays t s items (p ∷ ps) [] table before after are more r = absurd cc
lays t s items (p ∷ ps) (v ∷ vs) table before after are more r =
    let first : slice_get (verdicts_of t s items) p ≡ Some v = cc in
    let rest : AreOf (verdicts_of t s items) ps vs = cc in
    let there = place_from t s 0 items p v first in
    let is : p ≡ v.place = omega arith in
    let size = length-verdicts_of t s items in
    let one = writes (verdicts_of t s items) table before (λ k. before k + at_place k p) v.place v (subst (λ (j : ℕ). slice_get (verdicts_of t s items) j ≡ Some v) is first) (λ k. ap (λ (j : ℕ). before k + at_place k j) is) r (omega (arith, r.size)) in
    lays t s items ps vs (slice_set table v.place v) (λ k. before k + at_place k p) after rest (λ k. omega (arith, more k, sum_by-cons (at_place k) p ps)) one

-- each verdict of a share has a place in the table
pub fits : (t : RuleTable) (s : State) (items : List Item) (taken : List ℕ) (verdicts : List Verdict) → AreOf (verdicts_of t s items) taken verdicts → HavePlacesBelow (length items) verdicts
fits t s items [] [] are = All-nil (λ v. v.place < length items)
fits t s items [] (v ∷ vs) are = absurd cc
fits t s items (p ∷ ps) [] are = absurd cc
fits t s items (p ∷ ps) (v ∷ vs) are =
    let first : slice_get (verdicts_of t s items) p ≡ Some v = cc in
    let rest : AreOf (verdicts_of t s items) ps vs = cc in
    let there = place_from t s 0 items p v first in
    All-cons (λ v. v.place < length items) v vs (omega arith) (fits t s items ps vs rest)

-- if all places were taken, the table is the list of all
pub all_laid : (t : RuleTable) (s : State) (items : List Item) (taken : List ℕ) (table : List Verdict) → AreAllPlaces (length items) taken → IsVerdictTable (verdicts_of t s items) table (λ k. sum_by (at_place k) taken) → table ≡ verdicts_of t s items
all_laid t s items taken table are r =
    let all = verdicts_of t s items in
    same_lists table all r.size (λ k d below. sym (unwrap_or-slice_get table k d) ∙ ap (λ o. unwrap_or o d) (r.right k (omega (arith, r.size)) (
    let size = length-verdicts_of t s items in
    let there = has_place (length items) k (omega (arith, r.size)) in
    omega (arith, are (at_place k)))) ∙ unwrap_or-slice_get all k d)

-- one end more of the first kind, and one less of the second
pub shifted : {X Y : Type 0} → (f : X → EndView) (g : Y → EndView) (count : ℕ) (xs xs' : List X) (ys ys' : List Y) (x : X) (y : Y) → xs' ≡ xs ++ x ∷ [] → ys ≡ ys' ++ y ∷ [] → f x ≡ g y → AreAllEnds count (map f xs ++ map g ys) → AreAllEnds count (map f xs' ++ map g ys')
shifted f g count xs xs' ys ys' x y more less same all =
    let from : map g ys ≡ map g ys' ++ g y ∷ [] = ap (map g) less ∙ map-append g ys' (y ∷ []) in
    let to : map f xs' ≡ map f xs ++ f x ∷ [] = ap (map f) more ∙ map-append f xs (x ∷ []) in
    let now = moved count (map f xs) (map g ys') (g y) (subst (λ l. AreAllEnds count (map f xs ++ l)) from all) in
    subst (λ l. AreAllEnds count (l ++ map g ys')) (sym (to ∙ ap (λ h. map f xs ++ h ∷ []) same)) now

-- one more number, after others
pub more_numbers : (a n j m : ℕ) → a + n ≡ j → n + 1 ≡ m → range_with_len a m ≡ range_with_len a n ++ j ∷ []
more_numbers a n j m at size =
    ap (range_with_len a) (sym size) ∙ sym (map-id (range_with_len a (n + 1))) ∙ map-range_with_len_more (λ x. x) a n j at ∙ ap (λ l. l ++ j ∷ []) (map-id (range_with_len a n))

pub more_places : (first place : ℕ) → first ≤ place → range_with_len first (place + 1 - first) ≡ range_with_len first (place - first) ++ place ∷ []
more_places first place from = more_numbers first (place - first) place (place + 1 - first) (omega arith) (omega arith)

-- one verdict more
pub judges : (all : List Verdict) (taken more : List ℕ) (place : ℕ) (verdicts next : List Verdict) (v : Verdict) → slice_get all place ≡ Some v → more ≡ taken ++ place ∷ [] → next ≡ verdicts ++ v ∷ [] → AreOf all taken verdicts → AreOf all more next
judges all taken more place verdicts next v is took push so_far =
    ap (map Some) push ∙ map-append Some verdicts (v ∷ []) ∙ ap (λ l. l ++ Some v ∷ []) so_far ∙ ap (λ o. map (slice_get all) taken ++ o ∷ []) (sym is) ∙ sym (ap (map (slice_get all)) took ∙ map-append (slice_get all) taken (place ∷ []))

-- one verdict more, of a block's next place
pub judges_one : (all : List Verdict) (taken : List ℕ) (first place : ℕ) (verdicts next : List Verdict) (v : Verdict) → first ≤ place → slice_get all place ≡ Some v → next ≡ verdicts ++ v ∷ [] → AreOf all (taken ++ range_with_len first (place - first)) verdicts → AreOf all (taken ++ range_with_len first (place + 1 - first)) next
judges_one all taken first place verdicts next v from is push so_far =
    judges all (taken ++ range_with_len first (place - first)) (taken ++ range_with_len first (place + 1 - first)) place verdicts next v is (ap (λ (l : List ℕ). taken ++ l) (more_places first place from) ∙ sym (append_assoc taken (range_with_len first (place - first)) (place ∷ []))) push so_far

-- this many places more were taken
pub more_taken : (before after : List ℕ) (block : Block) → after ≡ before ++ block_places block → length after ≡ length before + (block.end - block.first)
more_taken before after block took = omega (arith, ap length took, length-append before (block_places block), length-range_with_len block.first (block.end - block.first))

-- as many verdicts as places
pub as_many : (all : List Verdict) (taken : List ℕ) (verdicts : List Verdict) → AreOf all taken verdicts → length verdicts ≡ length taken
as_many all taken verdicts are = sym (length-map verdicts Some) ∙ ap length are ∙ length-map taken (slice_get all)

pub reweighed : (all table : List Verdict) (before after : ℕ → ℕ) → ((k : ℕ) → after k ≡ before k) → IsVerdictTable all table before → IsVerdictTable all table after
reweighed all table before after same r = record { size = r.size; right = λ k below some. r.right k below (omega (arith, same k)) }

-- no number is between a number and itself
pub no_places : (first : ℕ) → range_with_len first (first - first) ≡ []
no_places first = let none : first - first ≡ 0 = omega arith in ap (range_with_len first) none

-- a table with the verdict of one place more
pub writes_one : (all table : List Verdict) (times : ℕ → ℕ) (first place : ℕ) (verdict : Verdict) → first ≤ place → slice_get all place ≡ Some verdict → place < length table → IsVerdictTable all table (λ k. times k + sum_by (at_place k) (range_with_len first (place - first))) → IsVerdictTable all (slice_set table place verdict) (λ k. times k + sum_by (at_place k) (range_with_len first (place + 1 - first)))
writes_one all table times first place verdict from is below r =
    writes all table (λ k. times k + sum_by (at_place k) (range_with_len first (place - first))) (λ k. times k + sum_by (at_place k) (range_with_len first (place + 1 - first))) place verdict is
    (λ k.
    let more : sum_by (at_place k) (range_with_len first (place + 1 - first)) ≡ sum_by (at_place k) (range_with_len first (place - first) ++ place ∷ []) = ap (sum_by (at_place k)) (more_places first place from) in
    omega (arith, sum_by_push (at_place k) (range_with_len first (place - first)) place)) r below

-- what was taken, with one block more
pub takes_block : (v w : Ledger) (block : Block) → w ≡ ledger v.parts v.count (v.taken ++ places_in (block ∷ [])) → (k : ℕ) → taken_in w k ≡ taken_in v k + sum_by (at_place k) (block_places block)
takes_block v w block took k =
    let all : sum_by (at_place k) w.taken ≡ sum_by (at_place k) (v.taken ++ places_in (block ∷ [])) = ap (λ (u : Ledger). sum_by (at_place k) u.taken) took in
    let one : sum_by (at_place k) (places_in (block ∷ [])) ≡ sum_by (at_place k) (block_places block) = ap (sum_by (at_place k)) (one_block block) in
    omega (arith, sum_by-append (at_place k) v.taken (places_in (block ∷ [])))

pub as_long : {X Y : Type 0} → (xs xs' : List X) (ys ys' : List Y) (x : X) (y : Y) → xs' ≡ xs ++ x ∷ [] → ys ≡ ys' ++ y ∷ [] → {n : ℕ} → length xs + length ys ≡ n → length xs' + length ys' ≡ n
as_long xs xs' ys ys' x y more less size = omega (arith, ap length more, ap length less, length-append xs (x ∷ []), length-append ys' (y ∷ []))

-- if a pass has the whole and found nothing, it knows that all places were taken
pub all_known : (v w : Ledger) (count : ℕ) (result : Option Block) → v.parts ≡ 64 → v.count ≡ count → result ≡ None → MatchOption result ((w ≡ v) × KnowsAll v) (λ block. Takes v (block ∷ []) w) → AreAllPlaces count v.taken
all_known v w count None whole is none told = subst (λ (n : ℕ). AreAllPlaces n v.taken) is (told.1 whole)
all_known v w count (Some block) whole is none told = absurd cc

-- both halves of a list of hands
pub halves_held : (k : ℕ) (hands low high : List Hand) (ours theirs shares : List Share) → low ≡ take k hands → high ≡ drop k hands → map judged_hold ours ≡ map hand_hold low → map judged_hold theirs ≡ map hand_hold high → shares ≡ ours ++ theirs → map judged_hold shares ≡ map hand_hold hands
halves_held k hands low high ours theirs shares first second mine other all =
    ap (map judged_hold) all ∙ map-append judged_hold ours theirs ∙ ap (λ l. l ++ map judged_hold theirs) mine ∙ ap (λ l. map hand_hold low ++ l) other ∙ sym (map-append hand_hold low high) ∙ ap (λ l. map hand_hold (l ++ high)) first ∙ ap (λ l. map hand_hold (take k hands ++ l)) second ∙ ap (map hand_hold) (take-append-drop k hands)
