-- Each place occurs once among all that were taken.
use Rattle.steal_pool.proofs.Prelude.{◌≡◌, ℕ, zero, suc, ◌+◌, cond, List, [], ◌∷◌, ◌++◌, length, map, All, nat_eq, nat_lt, length-append, append_assoc, sym, refl, ap, ◌∙◌, arith, if◌then◌else◌, slice_get, Some, sum_by, range_with_len, map-append, sum_by-append, sum_by_push, Block, DequeEnd, Ledger, ledger, first_places, places_in, ArePlaces, AreAllPlaces, end_taken, AreJoined, Item, Verdict, State, RuleTable, verdicts_of, Hand, Share, hand_number, judged_places, all_taken, AreOf, AreJudged, times, StandOnce, AllStandOnce, places_of}
use Rattle.steal_pool.proofs.VerdictTables.{more_numbers, place_from}

-- one more number below which a place can be
one_below : (place count : ℕ) → (if nat_lt place count then 1 else 0) + cond (nat_eq place count) 1 0 ≡ (if nat_lt place (count + 1) then 1 else 0)
one_below place count = grind arith

-- each place below the count occurs once among all of them
pub each_once : (count place : ℕ) → times place (first_places count) ≡ (if nat_lt place count then 1 else 0)
each_once zero place = grind arith
each_once (suc count) place =
    let weight : ℕ → ℕ = λ x. cond (nat_eq place x) 1 0 in
    let next : count + 1 ≡ suc count = omega arith in
    ap (sum_by weight) (more_numbers 0 count count (suc count) (omega arith) (omega arith)) ∙ sum_by_push weight (first_places count) count ∙ ap (λ n. n + weight count) (each_once count place) ∙ one_below place count ∙ ap (λ (n : ℕ). if nat_lt place n then 1 else 0) next

pub some_stand : (count : ℕ) (taken : List ℕ) → ArePlaces count taken → StandOnce count taken
some_stand count taken are = λ place. omega (arith, are (λ x. cond (nat_eq place x) 1 0), each_once count place)

pub all_stand : (count : ℕ) (taken : List ℕ) → AreAllPlaces count taken → AllStandOnce count taken
all_stand count taken are = λ place. are (λ x. cond (nat_eq place x) 1 0) ∙ each_once count place

-- the verdicts at these places are there
pub judges_its_places : (t : RuleTable) (s : State) (items : List Item) (taken : List ℕ) (verdicts : List Verdict) → AreOf (verdicts_of t s items) taken verdicts → places_of verdicts ≡ taken
judges_its_places t s items [] [] are = refl
judges_its_places t s items [] (v ∷ vs) are = absurd cc
judges_its_places t s items (p ∷ ps) [] are = absurd cc
judges_its_places t s items (p ∷ ps) (v ∷ vs) are =
    let first : slice_get (verdicts_of t s items) p ≡ Some v = cc in
    let rest : AreOf (verdicts_of t s items) ps vs = cc in
    let here : v.place ≡ p = (place_from t s 0 items p v first).1 ∙ omega arith in
    ap (λ (n : ℕ). n ∷ places_of vs) here ∙ ap (λ (l : List ℕ). p ∷ l) (judges_its_places t s items ps vs rest)

-- without items there are no verdicts, so none was taken
no_item : (taken : List ℕ) (verdicts : List Verdict) → AreOf [] taken verdicts → taken ≡ []
no_item [] verdicts are = refl
no_item (p ∷ ps) [] are = absurd cc
no_item (p ∷ ps) (v ∷ vs) are = absurd cc

none_taken : (t : RuleTable) (s : State) (shares : List Share) → All (AreJudged t s []) shares → all_taken shares ≡ []
none_taken t s [] all = refl
none_taken t s (x ∷ xs) all =
    ap (λ (l : List ℕ). l ++ all_taken xs) (no_item (judged_places x) _ (all 0 x (omega arith))) ∙ none_taken t s xs (λ k d within. all (suc k) d (omega arith))

pub none_stand : (t : RuleTable) (s : State) (items : List Item) (shares : List Share) → length items ≡ 0 → All (AreJudged t s items) shares → AllStandOnce (length items) (all_taken shares ++ [])
none_stand t s [] shares none all = all_stand 0 (all_taken shares ++ []) (λ h. omega (arith, ap (sum_by h) (none_taken t s shares all), sum_by-append h (all_taken shares) []))
none_stand t s (i ∷ is) shares none all = absurd (omega (arith, none))

-- what was taken by one share more
last_taken : (h : ℕ → ℕ) (xs : List Share) (x : Share) → sum_by h (all_taken (xs ++ x ∷ [])) ≡ sum_by h (all_taken xs) + sum_by h (judged_places x)
last_taken h [] x = omega (arith, sum_by-append h (judged_places x) [])
last_taken h (y ∷ ys) x = omega (arith, last_taken h ys x, sum_by-append h (judged_places y) (all_taken ys), sum_by-append h (judged_places y) (all_taken (ys ++ x ∷ [])))

-- the end of one share more
pub moves_taken : (h : ℕ → ℕ) (ends ends' : List DequeEnd) (shares rest all : List Share) (share : Share) → ends' ≡ ends ++ share.end ∷ [] → shares ≡ rest ++ share ∷ [] → sum_by (λ e. sum_by h (end_taken e)) ends + sum_by h (all_taken shares) ≡ sum_by h (all_taken all) → sum_by (λ e. sum_by h (end_taken e)) ends' + sum_by h (all_taken rest) ≡ sum_by h (all_taken all)
moves_taken h ends ends' shares rest all share more less same =
    let weigh : DequeEnd → ℕ = λ e. sum_by h (end_taken e) in
    let to : sum_by weigh ends' ≡ sum_by weigh ends + weigh share.end = ap (sum_by weigh) more ∙ sum_by_push weigh ends share.end in
    let from : sum_by h (all_taken shares) ≡ sum_by h (all_taken rest) + sum_by h (judged_places share) = ap (λ l. sum_by h (all_taken l)) less ∙ last_taken h rest share in
    omega arith

-- what is taken once all shares are joined, and what they took, are all places
pub all_merged : (count : ℕ) (shares : List Share) (ends : List DequeEnd) (v : Ledger) (left : List ℕ) → AreJoined count ends v → ((h : ℕ → ℕ) → sum_by (λ e. sum_by h (end_taken e)) ends ≡ sum_by h (all_taken shares)) → AreAllPlaces count (v.taken ++ left) → AllStandOnce count (all_taken shares ++ left)
all_merged count shares ends v left joined same all = all_stand count (all_taken shares ++ left) (λ h. omega (arith, joined.taken h, same h, all h, sum_by-append h v.taken left, sum_by-append h (all_taken shares) left))

-- one more block after those taken since
pub took_more : (first left : List ℕ) (v w : Ledger) (block : Block) → w ≡ ledger v.parts v.count (v.taken ++ places_in (block ∷ [])) → v.taken ≡ first ++ left → w.taken ≡ first ++ (left ++ places_in (block ∷ []))
took_more first left v w block took before =
    ap (λ (u : Ledger). u.taken) took ∙ ap (λ (l : List ℕ). l ++ places_in (block ∷ [])) before ∙ append_assoc first left (places_in (block ∷ []))

-- one hand more, with the next number
pub one_numbered : (hands hands' : List Hand) (hand : Hand) → hands' ≡ hands ++ hand ∷ [] → hand_number hand ≡ length hands → map hand_number hands ≡ range_with_len 0 (length hands) → map hand_number hands' ≡ range_with_len 0 (length hands')
one_numbered hands hands' hand more next before =
    let size : length hands' ≡ length hands + 1 = omega (arith, ap length more, length-append hands (hand ∷ [])) in
    ap (map hand_number) more ∙ map-append hand_number hands (hand ∷ []) ∙ ap (λ (l : List ℕ). l ++ hand_number hand ∷ []) before ∙ ap (λ (n : ℕ). range_with_len 0 (length hands) ++ n ∷ []) next ∙ sym (more_numbers 0 (length hands) (length hands) (length hands') (omega arith) (omega arith))
