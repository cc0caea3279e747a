-- A run by Manne's rules with most rounds, in a complete network, one node at a time. At first all nodes are
-- null and flagged: one round updates all flags. In a second round all but the last court the last, and in a
-- third it takes its neighbour by name. Then for each pair there are four rounds: its two nodes update their
-- flags; all that point at it leave; all of these but the last court the last; and that takes one.
use Rattle.round_laws.proofs.Prelude.{◌≡◌, ℕ, zero, suc, ◌+◌, ◌*◌, ◌/◌, ◌<◌, ◌≤◌, ◌⊎◌, inl, inr, Bool, true, false, not, Option, None, Some, IsTrue, refl, sym, ap, ◌∙◌, subst, ⊎_elim, arith, cases_eq, none-some, linked, State, IsState, pointer, flag, married, present_range, linked_present, linked_back, null_unmarried, married_from, manne, enabled_names, IsIn}
use Rattle.dense_laws.proofs.HighPairs.{points_low, AreHigh, OthersKeep, high_still, high_same, high_with_pair, null_alone}
use Rattle.dense_laws.proofs.Plays.{IsPlayed}
use Rattle.dense_laws.proofs.Games.{enabled_is, anyone, To, to_all, IsTurn, round}
use Rattle.dense_laws.proofs.Schedule.{IsComplete, IsAt, to_shape}
use Rattle.round_laws.proofs.Plays.{Plays, Rounds, rounds_game}
use Rattle.round_laws.proofs.MannePlays.{may_update, may_take, may_court_top, may_leave, paired_idle, waiting_idle, top_idle}

-- a move of a pointer keeps all flags, and an update all pointers
kept : {X : Type 0} (a b : ℕ → X) (v : ℕ) → OthersKeep a b v → b v ≡ a v → (u : ℕ) → b u ≡ a u
kept a b v others here u = ⊎_elim (λ same. ap b same ∙ here ∙ ap a (sym same)) (λ apart. others u apart) (cases_eq u v)

to_pointers : (n v : ℕ) (target : Option ℕ) (s : State) (Shape : (ℕ → Option ℕ) → (ℕ → Bool) → Type 0) → IsComplete s.network n → IsPlayed manne s v target (flag s v) → ((p' : ℕ → Option ℕ) (f' : ℕ → Bool) → OthersKeep (pointer s) p' v → p' v ≡ target → ((u : ℕ) → f' u ≡ flag s u) → Shape p' f') → IsTurn manne s v (IsAt n Shape)
to_pointers n v target s Shape complete p next = to_shape manne n v target (flag s v) s Shape complete p (λ p' f' others here also same. next p' f' others here (kept (flag s) f' v also same))

to_flags : (n v : ℕ) (s : State) (Shape : (ℕ → Option ℕ) → (ℕ → Bool) → Type 0) → IsComplete s.network n → IsPlayed manne s v (pointer s v) (married s v) → ((p' : ℕ → Option ℕ) (f' : ℕ → Bool) → ((u : ℕ) → p' u ≡ pointer s u) → OthersKeep (flag s) f' v → f' v ≡ married s v → Shape p' f') → IsTurn manne s v (IsAt n Shape)
to_flags n v s Shape complete p next = to_shape manne n v (pointer s v) (married s v) s Shape complete p (λ p' f' others here also same. next p' f' (kept (pointer s) p' v others here) also same)

-- the nodes above m are in pairs, of such nodes, and flagged; those up to m are not flagged
record IsHigh (n m : ℕ) (p : ℕ → Option ℕ) (f : ℕ → Bool) : Type 0 where
  pairs : AreHigh n m p
  set : (v : ℕ) → m < v → v ≤ n → f v ≡ true
  unset : (v : ℕ) → 1 ≤ v → v ≤ m → f v ≡ false

high_on : (n m v : ℕ) (p p' : ℕ → Option ℕ) (f f' : ℕ → Bool) → v ≤ m → OthersKeep p p' v → ((u : ℕ) → f' u ≡ f u) → IsHigh n m p f → IsHigh n m p' f'
high_on n m v p p' f f' low others same it = let pairs = high_still n m v p p' low others it.pairs in grind arith

-- an enabled node is from 1 to m
enabled_low : (n m : ℕ) (s : State) (v : ℕ) → IsState s → IsComplete s.network n → IsHigh n m (pointer s) (flag s) → IsIn v (enabled_names manne s) → (1 ≤ v) × (v ≤ m)
enabled_low n m s v good complete high there =
    let is = enabled_is manne s v there in
    let range = present_range s.network v is.0 in
    let most = complete.within v is.0 in
    let paired = λ (up : m < v). paired_idle s good v is.1.0 (high.pairs.wed v up most) (high.set v up most) is.1.1 in
    (range.0, omega (arith, paired))

-- no null node is above m
none_above : (n m : ℕ) (s : State) → IsState s → IsComplete s.network n → IsHigh n m (pointer s) (flag s) → (v x : ℕ) → m < x → IsTrue (linked s.network v x) → pointer s x ≡ None → ⊥
none_above n m s good complete it v x high near null =
    let has = linked_present s.network x v good.is_network (linked_back s.network x v ∙ near) in
    null_alone (pointer s) x null (it.pairs.wed x high (complete.within x has))

-- ---- all leave

-- of 1 to m, which point or pointed at m + 2, a node of a pair, the first j have left
record IsLeft (n m j : ℕ) (p : ℕ → Option ℕ) (f : ℕ → Bool) : Type 0 where
  high : IsHigh n m p f
  below : m + 2 ≤ n
  idle : (v : ℕ) → 1 ≤ v → v ≤ j → p v ≡ None
  stuck : (v : ℕ) → j < v → v ≤ m → p v ≡ Some (m + 2)

left_on : (n m j : ℕ) (p p' : ℕ → Option ℕ) (f f' : ℕ → Bool) → j < m → OthersKeep p p' (j + 1) → p' (j + 1) ≡ None → ((u : ℕ) → f' u ≡ f u) → IsLeft n m j p f → IsLeft n m (j + 1) p' f'
left_on n m j p p' f f' more others here same it =
    let high = high_on n m (j + 1) p p' f f' (omega (arith, more)) others same it.high in grind (arith, cases_eq)

leave_one : (n m j : ℕ) (s : State) → j < m → IsAt n (IsLeft n m j) s → IsTurn manne s (j + 1) (IsAt n (IsLeft n m (j + 1)))
leave_one n m j s more it =
    let below = it.shape.below in
    let high = it.shape.high in
    to_pointers n (j + 1) None s (IsLeft n m (j + 1)) it.complete
    (may_leave s it.good (j + 1) (m + 2) (it.complete.has (j + 1) (omega arith) (omega (arith, below, more)))
    (it.shape.stuck (j + 1) (omega arith) (omega (arith, more)))
    (λ back. let far = high.pairs.above (m + 2) (j + 1) (omega arith) back in absurd (omega (arith, far, more)))
    (high.unset (j + 1) (omega arith) (omega (arith, more))) (high.set (m + 2) (omega arith) below))
    (λ p' f' others here same. left_on n m j (pointer s) p' (flag s) f' more others here same it.shape)

-- ---- all but the last court it

-- of 1 to m - 1 the first j point at m; m and the others are null
record IsCourted (n m j : ℕ) (p : ℕ → Option ℕ) (f : ℕ → Bool) : Type 0 where
  high : IsHigh n m p f
  below : m ≤ n
  middle : p m ≡ None
  hopes : (v : ℕ) → 1 ≤ v → v ≤ j → p v ≡ Some m
  idle : (v : ℕ) → j < v → v < m → p v ≡ None

-- who points at a node that is null, and not m
nobody_at : (n m j x : ℕ) (p : ℕ → Option ℕ) (f : ℕ → Bool) → IsCourted n m j p f → x ≤ m → (x ≡ m → 1 ≤ j → ⊥) → (u : ℕ) → p u ≡ Some x → 1 ≤ u → ⊥
nobody_at n m j x p f it low only u at one = grind (arith, it.high.pairs.above u x, it.middle, it.hopes u, it.idle u, cases_eq u m)

court_on : (n m j : ℕ) (p p' : ℕ → Option ℕ) (f f' : ℕ → Bool) → j + 1 < m → OthersKeep p p' (j + 1) → p' (j + 1) ≡ Some m → ((u : ℕ) → f' u ≡ f u) → IsCourted n m j p f → IsCourted n m (j + 1) p' f'
court_on n m j p p' f f' more others here same it =
    let high = high_on n m (j + 1) p p' f f' (omega (arith, more)) others same it.high in grind (arith, cases_eq)

court_one : (n m j : ℕ) (s : State) → j + 1 < m → IsAt n (IsCourted n m j) s → IsTurn manne s (j + 1) (IsAt n (IsCourted n m (j + 1)))
court_one n m j s more it =
    let below = it.shape.below in
    let high = it.shape.high in
    to_pointers n (j + 1) (Some m) s (IsCourted n m (j + 1)) it.complete
    (may_court_top s it.good (j + 1) m (it.complete.has (j + 1) (omega arith) (omega (arith, more, below)))
    (it.complete.near (j + 1) m (omega arith) (omega (arith, more, below)) (omega (arith, more)) below (λ e. absurd (omega (arith, e, more))))
    more (it.shape.idle (j + 1) (omega arith) more) (high.unset (j + 1) (omega arith) (omega (arith, more))) it.shape.middle (high.unset m (omega (arith, more)) (omega arith))
    (λ u at. nobody_at n m j (j + 1) (pointer s) (flag s) it.shape (omega (arith, more)) (λ same some. absurd (omega (arith, same, more))) u at (points_low s u (j + 1) it.good at))
    (none_above n m s it.good it.complete high (j + 1)))
    (λ p' f' others here same. court_on n m j (pointer s) p' (flag s) f' more others here same it.shape)

-- ---- the last takes one

-- the nodes above k are in pairs; k + 1 and k + 2, which are one, are flagged up to j; 1 to k point at k + 2
record IsFresh (n k j : ℕ) (p : ℕ → Option ℕ) (f : ℕ → Bool) : Type 0 where
  pairs : AreHigh n k p
  below : k + 2 ≤ n
  from : k ≤ j
  stuck : (v : ℕ) → 1 ≤ v → v ≤ k → p v ≡ Some (k + 2)
  set : (v : ℕ) → k < v → v ≤ n → (v ≤ j) ⊎ (k + 2 < v) → f v ≡ true
  unset : (v : ℕ) → 1 ≤ v → v ≤ k + 2 → (v ≤ k) ⊎ (j < v) → f v ≡ false

take_on : (n k : ℕ) (p p' : ℕ → Option ℕ) (f f' : ℕ → Bool) → OthersKeep p p' (k + 2) → p' (k + 2) ≡ Some (k + 1) → ((u : ℕ) → f' u ≡ f u) → IsCourted n (k + 2) (k + 1) p f → IsFresh n k k p' f'
take_on n k p p' f f' others here same it =
    let pairs = high_with_pair n k p p' others here (it.hopes (k + 1) (omega arith) (omega arith)) it.high.pairs in grind arith

take_one : (n k : ℕ) (s : State) → IsAt n (IsCourted n (k + 2) (k + 1)) s → IsTurn manne s (k + 2) (IsAt n (IsFresh n k k))
take_one n k s it =
    let below = it.shape.below in
    to_pointers n (k + 2) (Some (k + 1)) s (IsFresh n k k) it.complete
    (may_take s it.good (k + 2) (k + 1) (it.complete.has (k + 2) (omega arith) below) (it.complete.near (k + 2) (k + 1) (omega arith) below (omega arith) (omega (arith, below)) (λ e. absurd (omega (arith, e)))) it.shape.middle (it.shape.high.unset (k + 2) (omega arith) (omega arith)) (it.shape.hopes (k + 1) (omega arith) (omega arith)))
    (λ p' f' others here same. take_on n k (pointer s) p' (flag s) f' others here same it.shape)

-- ---- its two nodes update their flags

update_on : (n k j : ℕ) (p p' : ℕ → Option ℕ) (f f' : ℕ → Bool) → ((u : ℕ) → p' u ≡ p u) → OthersKeep f f' (j + 1) → f' (j + 1) ≡ true → IsFresh n k j p f → IsFresh n k (j + 1) p' f'
update_on n k j p p' f f' same others here it =
    let pairs = high_same n k p p' same it.pairs in grind (arith, cases_eq)

update_one : (n k j : ℕ) (s : State) → j < k + 2 → IsAt n (IsFresh n k j) s → IsTurn manne s (j + 1) (IsAt n (IsFresh n k (j + 1)))
update_one n k j s more it =
    let below = it.shape.below in
    let from = it.shape.from in
    let pair = it.shape.pairs.wed (j + 1) (omega (arith, from)) (omega (arith, below, more)) in
    let wed = married_from s (j + 1) pair.0 it.good pair.1 pair.2 in
    to_flags n (j + 1) s (IsFresh n k (j + 1)) it.complete
    (may_update s it.good (j + 1) (it.complete.has (j + 1) (omega arith) (omega (arith, below, more))) (it.shape.unset (j + 1) (omega arith) (omega (arith, more)) (inr (omega arith)) ∙ sym (ap not wed)))
    (λ p' f' same others here. update_on n k j (pointer s) p' (flag s) f' same others (here ∙ wed) it.shape)

-- ---- from one kind of state to another

fresh_left : (n k j : ℕ) (p : ℕ → Option ℕ) (f : ℕ → Bool) → j ≡ k + 2 → IsFresh n k j p f → IsLeft n k 0 p f
fresh_left n k j p f e it = grind arith

left_courted : (n m j k : ℕ) (p : ℕ → Option ℕ) (f : ℕ → Bool) → m ≡ k + 2 → j ≡ m → IsLeft n m j p f → IsCourted n (k + 2) 0 p f
left_courted n m j k p f e all it = grind arith

-- all are null, and all but the first j are flagged
pub record IsRaw (n j : ℕ) (p : ℕ → Option ℕ) (f : ℕ → Bool) : Type 0 where
  pub null : (v : ℕ) → p v ≡ None
  pub unset : (v : ℕ) → 1 ≤ v → v ≤ j → f v ≡ false
  pub set : (v : ℕ) → j < v → v ≤ n → f v ≡ true

raw_on : (n j : ℕ) (p p' : ℕ → Option ℕ) (f f' : ℕ → Bool) → ((u : ℕ) → p' u ≡ p u) → OthersKeep f f' (j + 1) → f' (j + 1) ≡ false → IsRaw n j p f → IsRaw n (j + 1) p' f'
raw_on n j p p' f f' same others here it = grind (arith, cases_eq)

raw_one : (n j : ℕ) (s : State) → j < n → IsAt n (IsRaw n j) s → IsTurn manne s (j + 1) (IsAt n (IsRaw n (j + 1)))
raw_one n j s more it =
    let single = null_unmarried s (j + 1) (it.shape.null (j + 1)) in
    to_flags n (j + 1) s (IsRaw n (j + 1)) it.complete
    (may_update s it.good (j + 1) (it.complete.has (j + 1) (omega arith) (omega (arith, more))) (it.shape.set (j + 1) (omega arith) (omega (arith, more)) ∙ sym (ap not single)))
    (λ p' f' same others here. raw_on n j (pointer s) p' (flag s) f' same others (here ∙ single) it.shape)

raw_courted : (n j k : ℕ) (p : ℕ → Option ℕ) (f : ℕ → Bool) → n ≡ k + 2 → j ≡ n → IsRaw n j p f → IsCourted n (k + 2) 0 p f
raw_courted n j k p f e all it = record {
  high = record { pairs = record { above = λ v u up at. absurd (none-some u (sym (it.null v) ∙ at)); wed = λ v up most. absurd (omega (arith, up, most, e)) }; set = λ v up most. absurd (omega (arith, up, most, e)); unset = λ v low most. it.unset v low (omega (arith, most, e, all)) };
  below = omega (arith, e);
  middle = it.null (k + 2);
  hopes = λ v one none. absurd (omega (arith, one, none));
  idle = λ v one high. it.null v;
}

-- ---- rounds

-- all leave
left_then : (n r k : ℕ) → ((spent : ℕ) (s : State) → IsAt n (IsLeft n (r + 1) (r + 1)) s → Plays manne spent s anyone k) → (spent : ℕ) (s : State) → IsAt n (IsLeft n (r + 1) 0) s → Plays manne spent s anyone (k + 1)
left_then n r k more =
    round manne (Rounds manne) (rounds_game manne) 0 r r (r + 1) (λ j. IsAt n (IsLeft n (r + 1) j)) (IsAt n (IsLeft n (r + 1) (r + 1))) (omega arith) (λ j s below it. leave_one n (r + 1) j s (omega (arith, below)) it) (λ s it. leave_one n (r + 1) r s (omega arith) it)
    (λ s v it there. let low = enabled_low n (r + 1) s v it.good it.complete it.shape.high there in to_all 0 r (r + 1) v low.0 low.1 refl) 0 k more

-- all but the last court it
court_then : (n r k : ℕ) → ((spent : ℕ) (s : State) → IsAt n (IsCourted n (r + 2) (r + 1)) s → Plays manne spent s anyone k) → (spent : ℕ) (s : State) → IsAt n (IsCourted n (r + 2) 0) s → Plays manne spent s anyone (k + 1)
court_then n r k more =
    round manne (Rounds manne) (rounds_game manne) 0 r r (r + 1) (λ j. IsAt n (IsCourted n (r + 2) j)) (IsAt n (IsCourted n (r + 2) (r + 1))) (omega arith) (λ j s below it. court_one n (r + 2) j s (omega (arith, below)) it) (λ s it. court_one n (r + 2) r s (omega arith) it)
    (λ s v it there. let low = enabled_low n (r + 2) s v it.good it.complete it.shape.high there in to_all 0 r (r + 1) v low.0 (not_top s v it there low.0 low.1) refl) 0 k more
  where
    not_top : (s : State) (v : ℕ) → IsAt n (IsCourted n (r + 2) 0) s → IsIn v (enabled_names manne s) → 1 ≤ v → v ≤ r + 2 → v ≤ r + 1
    not_top s v it there one most =
        let is = enabled_is manne s v there in
        let high = it.shape.high in
        let idle = λ (same : v ≡ r + 2). top_idle s v is.1.0 (ap (pointer s) same ∙ it.shape.middle) (high.unset v one most) (λ u at. nobody_at n (r + 2) 0 v (pointer s) (flag s) it.shape most (λ e some. absurd (omega (arith, some))) u at (points_low s u v it.good at)) (λ x up near null. none_above n (r + 2) s it.good it.complete high v x (omega (arith, up, same)) near null) is.1.1 in
        omega (arith, most, idle)

-- the last takes one: no other node is enabled
hoped_then : (n k c : ℕ) → ((spent : ℕ) (s : State) → IsAt n (IsFresh n k k) s → Plays manne spent s anyone c) → (spent : ℕ) (s : State) → IsAt n (IsCourted n (k + 2) (k + 1)) s → Plays manne spent s anyone (c + 1)
hoped_then n k c more =
    round manne (Rounds manne) (rounds_game manne) (k + 1) 0 (k + 1) (k + 2) (λ j. IsAt n (IsCourted n (k + 2) j)) (IsAt n (IsFresh n k k)) (omega arith) (λ j s below it. court_one n (k + 2) j s (omega (arith, below)) it) (take_one n k)
    (λ s v it there. let low = enabled_low n (k + 2) s v it.good it.complete it.shape.high there in inr (only s v it there low.0 low.1)) 0 c more
  where
    only : (s : State) (v : ℕ) → IsAt n (IsCourted n (k + 2) (k + 1)) s → IsIn v (enabled_names manne s) → 1 ≤ v → v ≤ k + 2 → v ≡ k + 2
    only s v it there one most =
        let is = enabled_is manne s v there in
        let high = it.shape.high in
        let idle = λ (below : v < k + 2). waiting_idle s v (k + 2) is.1.0 (it.shape.hopes v one (omega (arith, below))) (λ back. none-some v (sym it.shape.middle ∙ back)) (high.unset v one most) (high.unset (k + 2) (omega arith) (omega arith)) below is.1.1 in
        omega (arith, most, idle)

-- the two update: no other node is enabled
fresh_then : (n k c : ℕ) → ((spent : ℕ) (s : State) → IsAt n (IsLeft n k 0) s → Plays manne spent s anyone c) → (spent : ℕ) (s : State) → IsAt n (IsFresh n k k) s → Plays manne spent s anyone (c + 1)
fresh_then n k c more =
    round manne (Rounds manne) (rounds_game manne) k 1 (k + 1) (k + 1 + 1) (λ j. IsAt n (IsFresh n k j)) (IsAt n (IsFresh n k (k + 1 + 1))) (omega arith) (λ j s below it. update_one n k j s (omega (arith, below)) it) (λ s it. update_one n k (k + 1) s (omega arith) it) within 0 c
    (λ spent s it. more spent s (record { good = it.good; complete = it.complete; shape = fresh_left n k (k + 1 + 1) (pointer s) (flag s) (omega arith) it.shape }))
  where
    within : (s : State) (v : ℕ) → IsAt n (IsFresh n k k) s → IsIn v (enabled_names manne s) → To k (k + 1) (k + 1 + 1) v
    within s v it there =
        let is = enabled_is manne s v there in
        let one = (present_range s.network v is.0).0 in
        let most = it.complete.within v is.0 in
        let pairs = it.shape.pairs in
        let high = λ (up : k + 2 < v). paired_idle s it.good v is.1.0 (pairs.wed v (omega (arith, up)) most) (it.shape.set v (omega (arith, up)) most (inr up)) is.1.1 in
        let low = λ (down : v ≤ k). waiting_idle s v (k + 2) is.1.0 (it.shape.stuck v one down) (λ back. let far = pairs.above (k + 2) v (omega arith) back in omega (arith, far, down)) (it.shape.unset v one (omega (arith, down)) (inl down)) (it.shape.unset (k + 2) (omega arith) (omega arith) (inr (omega arith))) (omega (arith, down)) is.1.1 in
        to_all k (k + 1) (k + 1 + 1) v (omega (arith, low)) (omega (arith, high)) refl

-- three rounds, until the new pair is flagged
pair_then : (n k c : ℕ) → ((spent : ℕ) (s : State) → IsAt n (IsLeft n k 0) s → Plays manne spent s anyone c) → (spent : ℕ) (s : State) → IsAt n (IsCourted n (k + 2) 0) s → Plays manne spent s anyone (c + 1 + 1 + 1)
pair_then n k c more = court_then n k (c + 1 + 1) (hoped_then n k (c + 1) (fresh_then n k c more))

less : (spent : ℕ) (s : State) (k k' : ℕ) → k' ≤ k → Plays manne spent s anyone k → Plays manne spent s anyone k'
less spent s k k' few it = (rounds_game manne).less spent s anyone 0 0 k k' (omega arith) few it

at_once : (spent : ℕ) (s : State) → Plays manne spent s anyone 0
at_once spent s = (rounds_game manne).at_once spent s anyone

from_stuck : (n m : ℕ) (spent : ℕ) (s : State) → IsAt n (IsLeft n m 0) s → Plays manne spent s anyone (m + 2 * (m / 2))
from_stuck n zero spent s it = less spent s 0 (zero + 2 * (zero / 2)) (omega arith) (at_once spent s)
from_stuck n (suc zero) spent s it =
    less spent s (0 + 1) (suc zero + 2 * (suc zero / 2)) (omega arith) (left_then n 0 0 (λ spent s left. at_once spent s) spent s it)
from_stuck n (suc (suc k)) spent s it =
    less spent s (k + 2 * (k / 2) + 1 + 1 + 1 + 1) (suc (suc k) + 2 * (suc (suc k) / 2)) (omega arith)
    (left_then n (k + 1) (k + 2 * (k / 2) + 1 + 1 + 1)
    (λ spent s left. pair_then n k (k + 2 * (k / 2)) (from_stuck n k) spent s
    (record { good = left.good; complete = left.complete; shape = left_courted n (k + 1 + 1) (k + 1 + 1) k (pointer s) (flag s) (omega arith) refl left.shape }))
    spent s (subst (λ m. IsAt n (IsLeft n m 0) s) (let is : suc (suc k) ≡ k + 1 + 1 = omega arith in is) it))

-- all update
raw_then : (n r k : ℕ) → r + 1 ≡ n → ((spent : ℕ) (s : State) → IsAt n (IsRaw n (r + 1)) s → Plays manne spent s anyone k) → (spent : ℕ) (s : State) → IsAt n (IsRaw n 0) s → Plays manne spent s anyone (k + 1)
raw_then n r k e more =
    round manne (Rounds manne) (rounds_game manne) 0 r r (r + 1) (λ j. IsAt n (IsRaw n j)) (IsAt n (IsRaw n (r + 1))) (omega arith) (λ j s below it. raw_one n j s (omega (arith, below, e)) it) (λ s it. raw_one n r s (omega (arith, e)) it)
    (λ s v it there. let is = enabled_is manne s v there in let range = present_range s.network v is.0 in let most = it.complete.within v is.0 in to_all 0 r (r + 1) v range.0 (omega (arith, most, e)) refl) 0 k more

pub from_raw : (n : ℕ) (spent : ℕ) (s : State) → IsAt n (IsRaw n 0) s → Plays manne spent s anyone (n + 2 * (n / 2))
from_raw zero spent s it = less spent s 0 (zero + 2 * (zero / 2)) (omega arith) (at_once spent s)
from_raw (suc zero) spent s it =
    less spent s (0 + 1) (suc zero + 2 * (suc zero / 2)) (omega arith) (raw_then (suc zero) 0 0 (omega arith) (λ spent s left. at_once spent s) spent s it)
from_raw (suc (suc k)) spent s it =
    less spent s (k + 2 * (k / 2) + 1 + 1 + 1 + 1) (suc (suc k) + 2 * (suc (suc k) / 2)) (omega arith)
    (raw_then (suc (suc k)) (k + 1) (k + 2 * (k / 2) + 1 + 1 + 1) (omega arith)
    (λ spent s raw. pair_then (suc (suc k)) k (k + 2 * (k / 2)) (from_stuck (suc (suc k)) k) spent s
    (record { good = raw.good; complete = raw.complete; shape = raw_courted (suc (suc k)) (k + 1 + 1) k (pointer s) (flag s) (omega arith) (omega arith) raw.shape }))
    spent s it)
