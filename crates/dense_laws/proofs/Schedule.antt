-- A run by Hsu and Huang's rules with most moves and with most rounds, in a complete network. Of m nodes that
-- point at a node of a pair all leave, in one round. Then all but the last court the last, and it takes its
-- neighbour by name, in a second round; and the m - 2 others point at it. A single node leaves, in one round.
use Rattle.dense_laws.proofs.Prelude.{◌≡◌, ℕ, zero, suc, ◌+◌, ◌*◌, ◌<◌, ◌≤◌, ◌⊎◌, inr, Bool, Option, None, Some, IsTrue, refl, ap, ◌∙◌, subst, arith, cases_eq, Network, linked, present, State, IsState, pointer, flag, present_range, pointer_linked, linked_present, hsu_huang, enabled_names, IsIn}
use Rattle.rule_machine.specs.RuleTable.{RuleTable}
use Rattle.dense_laws.proofs.HighPairs.{points_low, AreHigh, OthersKeep, high_still, high_with_pair}
use Rattle.dense_laws.proofs.Plays.{IsPlayed, then}
use Rattle.dense_laws.proofs.HsuHuangPlays.{may_take, may_court, may_leave, paired_idle, hoping_idle}
use Rattle.dense_laws.proofs.Games.{enabled_is, anyone, To, to_all, IsGame, IsTurn, turn_on, row, round}

-- the nodes 1 to n, each two of them linked
pub record IsComplete (net : Network) (n : ℕ) : Type 0 where
  pub has : (v : ℕ) → 1 ≤ v → v ≤ n → IsTrue (present net v)
  pub within : (v : ℕ) → IsTrue (present net v) → v ≤ n
  pub near : (v w : ℕ) → 1 ≤ v → v ≤ n → 1 ≤ w → w ≤ n → (v ≡ w → ⊥) → IsTrue (linked net v w)

-- a state of the complete network of n nodes, with such pointers and flags
pub record IsAt (n : ℕ) (Shape : (ℕ → Option ℕ) → (ℕ → Bool) → Type 0) (s : State) : Type 0 where
  pub good : IsState s
  pub complete : IsComplete s.network n
  pub shape : Shape (pointer s) (flag s)

-- a move leads to another shape
pub to_shape : (t : RuleTable) (n v : ℕ) (target : Option ℕ) (value : Bool) (s : State) (Shape : (ℕ → Option ℕ) → (ℕ → Bool) → Type 0) → IsComplete s.network n → IsPlayed t s v target value → ((p' : ℕ → Option ℕ) (f' : ℕ → Bool) → OthersKeep (pointer s) p' v → p' v ≡ target → OthersKeep (flag s) f' v → f' v ≡ value → Shape p' f') → IsTurn t s v (IsAt n Shape)
to_shape t n v target value s Shape complete p next = record {
  target = target;
  value = value;
  played = p;
  next = record { good = p.is_state; complete = complete; shape = next (pointer (then s p.m)) (flag (then s p.m)) p.others p.here p.flag_others p.flag_here };
}

-- the same for pointers alone
abbrev Points : ℕ → ((ℕ → Option ℕ) → Type 0) → State → Type 0
Points n Shape s = IsAt n (λ p f. Shape p) s

to_pointers : (n v : ℕ) (target : Option ℕ) (s : State) (Shape : (ℕ → Option ℕ) → Type 0) → IsComplete s.network n → IsPlayed hsu_huang s v target (flag s v) → ((p' : ℕ → Option ℕ) → OthersKeep (pointer s) p' v → p' v ≡ target → Shape p') → IsTurn hsu_huang s v (Points n Shape)
to_pointers n v target s Shape complete p next = to_shape hsu_huang n v target (flag s v) s (λ p f. Shape p) complete p (λ p' f' others here also same. next p' others here)

-- if the nodes above m are in pairs, an enabled node is from 1 to m
enabled_low : (n m : ℕ) (s : State) (v : ℕ) → IsComplete s.network n → AreHigh n m (pointer s) → IsIn v (enabled_names hsu_huang s) → (1 ≤ v) × (v ≤ m)
enabled_low n m s v complete high there =
    let is = enabled_is hsu_huang s v there in
    let range = present_range s.network v is.0 in
    let paired = λ (up : m < v). paired_idle s v is.1.0 (high.wed v up (complete.within v is.0)) is.1.1 in
    (range.0, omega (arith, paired))

-- ---- all leave

-- of 1 to m, which point or pointed at m + 2, a node of a pair, the first j have left
record IsLeft (n m j : ℕ) (p : ℕ → Option ℕ) : Type 0 where
  high : AreHigh n m p
  below : m + 2 ≤ n
  chain : p (m + 2) ≡ Some (m + 1)
  idle : (v : ℕ) → 1 ≤ v → v ≤ j → p v ≡ None
  stuck : (v : ℕ) → j < v → v ≤ m → p v ≡ Some (m + 2)

left_on : (n m j : ℕ) (p p' : ℕ → Option ℕ) → j < m → OthersKeep p p' (j + 1) → p' (j + 1) ≡ None → IsLeft n m j p → IsLeft n m (j + 1) p'
left_on n m j p p' more others here it =
    let high = high_still n m (j + 1) p p' (omega (arith, more)) others it.high in grind (arith, cases_eq)

leave_one : (n m j : ℕ) (s : State) → j < m → Points n (IsLeft n m j) s → IsTurn hsu_huang s (j + 1) (Points n (IsLeft n m (j + 1)))
leave_one n m j s more it =
    to_pointers n (j + 1) None s (IsLeft n m (j + 1)) it.complete
    (may_leave s it.good (j + 1) (m + 2) (m + 1) (it.complete.has (j + 1) (omega arith) (let le = it.shape.below in omega (arith, le, more))) (it.shape.stuck (j + 1) (omega arith) (omega (arith, more))) it.shape.chain (λ e. absurd (omega (arith, e, more))))
    (λ p' others here. left_on n m j (pointer s) p' more others here it.shape)

-- ---- all but the last court it, and it takes one

-- of 1 to m - 1 the first j point at m, which is null, and so do those from top on; the others are null
record IsCourted (n m top j : ℕ) (p : ℕ → Option ℕ) : Type 0 where
  high : AreHigh n m p
  below : m ≤ n
  within : top ≤ m
  middle : p m ≡ None
  hopes : (v : ℕ) → 1 ≤ v → v < m → (v ≤ j) ⊎ (top ≤ v) → p v ≡ Some m
  idle : (v : ℕ) → j < v → v < top → p v ≡ None

court_on : (n m top j : ℕ) (p p' : ℕ → Option ℕ) → j + 1 < top → OthersKeep p p' (j + 1) → p' (j + 1) ≡ Some m → IsCourted n m top j p → IsCourted n m top (j + 1) p'
court_on n m top j p p' more others here it =
    let within = it.within in
    let high = high_still n m (j + 1) p p' (omega (arith, more, within)) others it.high in
    grind (arith, cases_eq)

court_one : (n m top j : ℕ) (s : State) → j + 1 < top → Points n (IsCourted n m top j) s → IsTurn hsu_huang s (j + 1) (Points n (IsCourted n m top (j + 1)))
court_one n m top j s more it =
    to_pointers n (j + 1) (Some m) s (IsCourted n m top (j + 1)) it.complete
    (may_court s it.good (j + 1) m (it.complete.has (j + 1) (omega arith) (omega (arith, more, within, below)))
    (it.complete.near (j + 1) m (omega arith) (omega (arith, more, within, below)) (omega (arith, more, within)) below (λ e. absurd (omega (arith, e, more, within))))
    (it.shape.idle (j + 1) (omega arith) more) it.shape.middle (λ u at. lone (pointer s) u it.shape at (points_low s u (j + 1) it.good at)))
    (λ p' others here. court_on n m top j (pointer s) p' more others here it.shape)
  where
    within : top ≤ m
    within = it.shape.within

    below : m ≤ n
    below = it.shape.below

    lone : (p : ℕ → Option ℕ) (u : ℕ) → IsCourted n m top j p → p u ≡ Some (j + 1) → 1 ≤ u → ⊥
    lone p u it at low = grind (arith, it.high.above u (j + 1), it.middle, it.hopes u, it.idle u, cases_eq u m)

take_on : (n k top j : ℕ) (p p' : ℕ → Option ℕ) → j + 1 ≡ top → OthersKeep p p' (k + 2) → p' (k + 2) ≡ Some (k + 1) → IsCourted n (k + 2) top j p → IsLeft n k 0 p'
take_on n k top j p p' e others here it = grind (arith, high_with_pair)

take_one : (n k top j : ℕ) (s : State) → j + 1 ≡ top → Points n (IsCourted n (k + 2) top j) s → IsTurn hsu_huang s (k + 2) (Points n (IsLeft n k 0))
take_one n k top j s e it =
    to_pointers n (k + 2) (Some (k + 1)) s (IsLeft n k 0) it.complete
    (may_take s it.good (k + 2) (k + 1) (it.complete.has (k + 2) (omega arith) below) (it.complete.near (k + 2) (k + 1) (omega arith) below (omega arith) (omega (arith, below)) (λ e. absurd (omega (arith, e)))) it.shape.middle (hoped (pointer s) it.shape))
    (λ p' others here. take_on n k top j (pointer s) p' e others here it.shape)
  where
    below : k + 2 ≤ n
    below = it.shape.below

    hoped : (p : ℕ → Option ℕ) → IsCourted n (k + 2) top j p → p (k + 1) ≡ Some (k + 2)
    hoped p it = grind (arith, it.hopes (k + 1))

-- ---- from m nodes that point at a node of a pair

courted_from : (n m j k : ℕ) (p : ℕ → Option ℕ) → m ≡ k + 2 → j ≡ m → IsLeft n m j p → IsCourted n (k + 2) (k + 2) 0 p
courted_from n m j k p e all it = grind arith

-- ---- from a cycle

-- all point at the next one, and the last at the first
pub record IsCycle (n : ℕ) (p : ℕ → Option ℕ) : Type 0 where
  pub last : p n ≡ Some 1
  pub rest : (v : ℕ) → 1 ≤ v → v < n → p v ≡ Some (v + 1)

-- n left the cycle, and so did the first j
record IsCut (n j : ℕ) (p : ℕ → Option ℕ) : Type 0 where
  last : p n ≡ None
  idle : (v : ℕ) → 1 ≤ v → v ≤ j → p v ≡ None
  rest : (v : ℕ) → j < v → v < n → p v ≡ Some (v + 1)

cut_on : (n j : ℕ) (p p' : ℕ → Option ℕ) → j + 2 < n → OthersKeep p p' (j + 1) → p' (j + 1) ≡ None → IsCut n j p → IsCut n (j + 1) p'
cut_on n j p p' more others here it = grind (arith, cases_eq)

cut_one : (n j : ℕ) (s : State) → j + 2 < n → Points n (IsCut n j) s → IsTurn hsu_huang s (j + 1) (Points n (IsCut n (j + 1)))
cut_one n j s more it =
    to_pointers n (j + 1) None s (IsCut n (j + 1)) it.complete
    (may_leave s it.good (j + 1) (j + 1 + 1) (j + 1 + 1 + 1) (it.complete.has (j + 1) (omega arith) (omega (arith, more))) (it.shape.rest (j + 1) (omega arith) (omega (arith, more))) (it.shape.rest (j + 1 + 1) (omega arith) (omega (arith, more))) (λ e. absurd (omega (arith, e))))
    (λ p' others here. cut_on n j (pointer s) p' more others here it.shape)

open_on : (n : ℕ) (p p' : ℕ → Option ℕ) → OthersKeep p p' n → p' n ≡ None → IsCycle n p → IsCut n 0 p'
open_on n p p' others here it = grind arith

open_cycle : (n : ℕ) (s : State) → 3 ≤ n → Points n (IsCycle n) s → IsTurn hsu_huang s n (Points n (IsCut n 0))
open_cycle n s three it =
    to_pointers n n None s (IsCut n 0) it.complete
    (may_leave s it.good n 1 (1 + 1) (it.complete.has n (omega (arith, three)) (omega arith)) it.shape.last (it.shape.rest 1 (omega arith) (omega (arith, three))) (λ e. absurd (omega (arith, e, three))))
    (λ p' others here. open_on n (pointer s) p' others here it.shape)

-- no node is above n
all_high : (n : ℕ) (s : State) → IsState s → IsComplete s.network n → AreHigh n n (pointer s)
all_high n s good complete = record {
  above = λ v u up at. let most = complete.within v (linked_present s.network v u good.is_network (pointer_linked s v u good at)) in absurd (omega (arith, most, up));
  wed = λ v up most. absurd (omega (arith, most, up));
}

-- all but two have left, one of these points at the other, which is null
cut_to : (n j k : ℕ) (p : ℕ → Option ℕ) → n ≡ k + 2 → j ≡ k → 1 ≤ k → AreHigh n n p → IsCut n j p → IsCourted n (k + 2) (k + 1) 0 p
cut_to n j k p e all some high it = grind (arith, cases_eq)

-- once n is null, its suitor n - 1 is not enabled
cut_enabled : (n j : ℕ) (s : State) (v : ℕ) → 1 ≤ j → j + 2 ≡ n → Points n (IsCut n 0) s → IsIn v (enabled_names hsu_huang s) → (v ≡ n → ⊥) → (0 < v) × (v ≤ j)
cut_enabled n j s v some e it there apart =
    let is = enabled_is hsu_huang s v there in
    let range = present_range s.network v is.0 in
    let most = it.complete.within v is.0 in
    let hoping = λ (same : v + 1 ≡ n). hoping_idle s v n is.1.0 (it.shape.rest v (omega (arith, range)) (omega (arith, same)) ∙ ap Some same) it.shape.last is.1.1 in
    (range.0, omega (arith, hoping, most, apart, e))

-- ---- the run

module _ (Game : ℕ → State → (ℕ → Type 0) → ℕ → ℕ → Type 0) (game : IsGame hsu_huang Game) where
  -- a round in which all leave
  left_then : (n r q c : ℕ) → ((spent : ℕ) (s : State) → Points n (IsLeft n (r + 1) (r + 1)) s → Game spent s anyone q c) → (spent : ℕ) (s : State) → Points n (IsLeft n (r + 1) 0) s → Game spent s anyone (q + 2 * r + 2) (c + 1)
  left_then n r q c more =
      round hsu_huang Game game 0 r r (r + 1) (λ j. Points n (IsLeft n (r + 1) j)) (Points n (IsLeft n (r + 1) (r + 1))) (omega arith) (λ j s below it. leave_one n (r + 1) j s (omega (arith, below)) it) (λ s it. leave_one n (r + 1) r s (omega arith) it)
      (λ s v it there. let low = enabled_low n (r + 1) s v it.complete it.shape.high there in to_all 0 r (r + 1) v low.0 low.1 refl) q c more

  -- a round in which all but the last court the last, and it takes one
  hoped_then : (n k top r q c : ℕ) → r + 1 ≡ top → ((spent : ℕ) (s : State) → Points n (IsLeft n k 0) s → Game spent s anyone q c) → (spent : ℕ) (s : State) → Points n (IsCourted n (k + 2) top 0) s → Game spent s anyone (q + 2 * r + 2) (c + 1)
  hoped_then n k top r q c e more =
      round hsu_huang Game game 0 r r (k + 2) (λ j. Points n (IsCourted n (k + 2) top j)) (Points n (IsLeft n k 0)) (omega arith) (λ j s below it. court_one n (k + 2) top j s (omega (arith, below, e)) it) (λ s it. take_one n k top r s e it)
      within q c more
    where
      to : (m v : ℕ) → 1 ≤ v → v ≤ m → (top ≤ v → v < m → ⊥) → To 0 r m v
      to m v low high late = grind (arith, cases_eq v m)

      within : (s : State) (v : ℕ) → Points n (IsCourted n (k + 2) top 0) s → IsIn v (enabled_names hsu_huang s) → To 0 r (k + 2) v
      within s v it there =
          let is = enabled_is hsu_huang s v there in
          let low = enabled_low n (k + 2) s v it.complete it.shape.high there in
          to (k + 2) v low.0 low.1 (λ up down. hoping_idle s v (k + 2) is.1.0 (it.shape.hopes v low.0 down (inr up)) it.shape.middle is.1.1)

  from_stuck : (n m : ℕ) (spent : ℕ) (s : State) → Points n (IsLeft n m 0) s → Game spent s anyone (m * m + 2 * m) m
  from_stuck n zero spent s it = game.less spent s anyone 1 (zero * zero + 2 * zero) 0 zero (omega arith) (omega arith) (game.at_once spent s anyone)
  from_stuck n (suc zero) spent s it =
      game.less spent s anyone (1 + 2 * 0 + 2) (suc zero * suc zero + 2 * suc zero) (0 + 1) (suc zero) (omega arith) (omega arith)
      (left_then n 0 1 0 (λ spent s left. game.at_once spent s anyone) spent s it)
  from_stuck n (suc (suc k)) spent s it =
      game.less spent s anyone (k * k + 2 * k + 2 * (k + 1) + 2 + 2 * (k + 1) + 2) (suc (suc k) * suc (suc k) + 2 * suc (suc k)) (k + 1 + 1) (suc (suc k)) (omega arith) (omega arith)
      (left_then n (k + 1) (k * k + 2 * k + 2 * (k + 1) + 2) (k + 1)
      (λ spent s left. hoped_then n k (k + 2) (k + 1) (k * k + 2 * k) k (omega arith) (from_stuck n k) spent s
      (record { good = left.good; complete = left.complete; shape = courted_from n (k + 1 + 1) (k + 1 + 1) k (pointer s) (omega arith) (omega arith) left.shape }))
      spent s (subst (λ m. Points n (IsLeft n m 0) s) (let is : suc (suc k) ≡ k + 1 + 1 = omega arith in is) it))

  pub from_cycle : (k : ℕ) (spent : ℕ) (s : State) → Points (k + 3) (IsCycle (k + 3)) s → Game spent s anyone (k * k + 8 * k + 11) (k + 3)
  from_cycle k spent s it =
      game.less spent s anyone ((k + 1) * (k + 1) + 2 * (k + 1) + 2 * (k + 1) + 2 + 2 * k + 2 + 2) (k * k + 8 * k + 11) (k + 1 + 1 + 1) (k + 3) (omega arith) (omega arith)
      (turn_on hsu_huang Game game s (k + 3) (Points (k + 3) (IsCut (k + 3) 0)) ((k + 1) * (k + 1) + 2 * (k + 1) + 2 * (k + 1) + 2 + 2 * k + 2) (k + 1 + 1 + 1) anyone (λ v. v ≡ k + 3 → ⊥) (open_cycle (k + 3) s (omega arith) it)
      (λ u all apart same. apart same)
      (λ spent s cut. game.among spent s (λ v. v ≡ k + 3 → ⊥) (To 0 k (k + 1)) ((k + 1) * (k + 1) + 2 * (k + 1) + 2 * (k + 1) + 2 + 2 * k + 2) (k + 1 + 1 + 1)
      (λ v there apart. let low = cut_enabled (k + 3) (k + 1) s v (omega arith) (omega arith) cut there apart in to_all 0 k (k + 1) v low.0 low.1 refl)
      (row hsu_huang Game game k (k + 1) (λ j. Points (k + 3) (IsCut (k + 3) j)) (Points (k + 3) (IsCut (k + 3) (k + 1))) (λ j s below it. cut_one (k + 3) j s (omega (arith, below)) it) (λ s it. cut_one (k + 3) k s (omega arith) it) ((k + 1) * (k + 1) + 2 * (k + 1) + 2 * (k + 1) + 2) (k + 1 + 1)
      (λ spent s cut. hoped_then (k + 3) (k + 1) (k + 1 + 1) (k + 1) ((k + 1) * (k + 1) + 2 * (k + 1)) (k + 1) (omega arith) (from_stuck (k + 3) (k + 1)) spent s
      (record { good = cut.good; complete = cut.complete; shape = cut_to (k + 3) (k + 1) (k + 1) (pointer s) (omega arith) (omega arith) (omega arith) (all_high (k + 3) s cut.good cut.complete) cut.shape }))
      k 0 (omega arith) spent s cut))
      spent)

  -- two null nodes
  pub from_null_two : (spent : ℕ) (s : State) → IsState s → IsComplete s.network 2 → pointer s 1 ≡ None → pointer s 2 ≡ None → Game spent s anyone 4 1
  from_null_two spent s good complete one two =
      hoped_then 2 0 2 1 0 0 (omega arith) (λ spent s left. game.less spent s anyone 1 0 0 0 (omega arith) (omega arith) (game.at_once spent s anyone)) spent s
      (record { good = good; complete = complete; shape = courted (pointer s) (all_high 2 s good complete) one two })
    where
      courted : (p : ℕ → Option ℕ) → AreHigh 2 2 p → p 1 ≡ None → p 2 ≡ None → IsCourted 2 2 2 0 p
      courted p high one two = grind (arith, cases_eq)
