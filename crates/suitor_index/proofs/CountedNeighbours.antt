-- Tallies that are counted neighbour by neighbour, and node by node.
use Rattle.suitor_index.proofs.Prelude.{◌≡◌, ◌≢◌, ℕ, ◌+◌, ◌%◌, ◌<◌, ◌≤◌, Bool, cond, ◌&&◌, List, length, get_or, set, take, Option, IsTrue, sym, ap, subst, ◌∙◌, ⊎_elim, arith, sum_by, count_by, cases_eq, get_or-set_same, get_or-set_other, length-set, present, neighbours, State, suits, points, pointer, flag, Tally, empty_tally, reduced, tally_of, tally_at, name_if, is_reached, asks_for, one_if, HasTallyRoom}
use Rattle.std.proofs.lemmas.List.Sums.{sum_by_more, sum_by_more_le_part}
use Rattle.suitor_index.proofs.NeighbourSums.{near_ones}
use Rattle.suitor_index.proofs.OpenTargets.{reached_is}

-- the tally holds what is counted among these nodes
pub record IsTallyOf (above : Bool) (opens : Option ℕ → Bool → Bool) (s : State) (v : ℕ) (nodes : List ℕ) (t : Tally) : Type 0 where
  pub suitors : t.suitors ≡ count_by (suits s v) nodes
  pub reached : t.reached ≡ count_by (is_reached above opens s v) nodes
  pub sum : t.sum % 65536 ≡ sum_by (name_if (suits s v)) nodes % 65536
  pub aim : t.pointer ≡ pointer s v

more : (f : ℕ → ℕ) (nodes : List ℕ) (i w : ℕ) → i < length nodes → w ≡ get_or nodes i w → sum_by f (take (i + 1) nodes) ≡ sum_by f (take i nodes) + f w
more f nodes i w inside is = sum_by_more f nodes i w inside ∙ ap (λ x. sum_by f (take i nodes) + f x) (sym is)

one_sum_more : (a b n more all : ℕ) → a % 65536 ≡ (b + n) % 65536 → b % 65536 ≡ more % 65536 → all ≡ more + n → a % 65536 ≡ all % 65536
one_sum_more a b n more all counted so_far is = omega arith

-- one more neighbour is counted
pub tally_more : (above : Bool) (opens : Option ℕ → Bool → Bool) (s : State) (v : ℕ) (nodes : List ℕ) (i w : ℕ) (t t' : Tally) → i < length nodes → w ≡ get_or nodes i w → IsTallyOf above opens s v (take i nodes) t → t'.suitors ≡ t.suitors + one_if (points s.registers w v) → t'.sum % 65536 ≡ (t.sum + cond (points s.registers w v) w 0) % 65536 → t'.reached ≡ t.reached + one_if (asks_for above v w && opens (pointer s w) (flag s w)) → t'.pointer ≡ t.pointer → IsTallyOf above opens s v (take (i + 1) nodes) t'
tally_more above opens s v nodes i w t t' inside is so_far suitors sum reached aims = record {
  suitors = suitors ∙ ap (λ n. n + one_if (points s.registers w v)) so_far.suitors ∙ sym (more (λ x. cond (suits s v x) 1 0) nodes i w inside is);
  reached = reached
      ∙ ap (λ n. n + one_if (asks_for above v w && opens (pointer s w) (flag s w))) so_far.reached
      ∙ ap (λ b. count_by (is_reached above opens s v) (take i nodes) + one_if b) (sym (reached_is above opens s v w))
      ∙ sym (more (λ x. cond (is_reached above opens s v x) 1 0) nodes i w inside is);
  sum = one_sum_more _ t.sum _ _ _ sum so_far.sum (more (name_if (suits s v)) nodes i w inside is);
  aim = aims ∙ so_far.aim;
}

one_small : (b : Bool) → cond b 1 0 ≤ 1
one_small b = grind arith

-- there is room to count the next neighbour
pub room_for_next : (above : Bool) (opens : Option ℕ → Bool → Bool) (s : State) (v : ℕ) (nodes : List ℕ) (i w : ℕ) (t : Tally) → s.network.size ≤ 65535 → nodes ≡ neighbours s.network v → i < length nodes → w ≡ get_or nodes i w → IsTallyOf above opens s v (take i nodes) t → HasTallyRoom t × (t.reached < 65535)
room_for_next above opens s v nodes i w t few all inside is so_far =
    let ones = near_ones s.network v (λ x. 1) (λ x. (let le : 1 ≤ 1 = omega arith in le)) in
    let ones' = ap (λ l. sum_by (λ x. 1) l) all in
    let suitors = sum_by_more_le_part (λ x. cond (suits s v x) 1 0) (λ x. 1) nodes i w inside (λ x. one_small (suits s v x)) in
    let reached = sum_by_more_le_part (λ x. cond (is_reached above opens s v x) 1 0) (λ x. 1) nodes i w inside (λ x. one_small (is_reached above opens s v x)) in
    let a = so_far.suitors in
    let b = so_far.reached in
    (omega (arith, ones, ones', suitors, a), omega (arith, ones, ones', reached, b))

-- the entries of the first names are counted
pub record AreCounted (above : Bool) (opens : Option ℕ → Bool → Bool) (s : State) (below : ℕ) (tallies : List Tally) : Type 0 where
  pub places : length tallies ≡ s.network.size + 1
  pub counted : (v : ℕ) → v ≤ below → IsTrue (present s.network v) → reduced (tally_of tallies v) ≡ tally_at above opens s v

-- the entry of one more name is counted
pub counted_more : (above : Bool) (opens : Option ℕ → Bool → Bool) (s : State) (below k : ℕ) (t : Tally) (tallies : List Tally) → AreCounted above opens s below tallies → below < s.network.size → k ≡ below + 1 → reduced t ≡ tally_at above opens s k → AreCounted above opens s (below + 1) (set tallies k t)
counted_more above opens s below k t tallies so_far within at is = record {
  places = length-set tallies k t ∙ so_far.places;
  counted = λ v low has.
      ⊎_elim
      (λ (here : v ≡ k). ap reduced (ap (tally_of (set tallies k t)) here ∙ get_or-set_same tallies k t empty_tally (let p = so_far.places in omega (arith, p, at, within))) ∙ is ∙ sym (ap (tally_at above opens s) here))
      (λ (other : v ≢ k). ap reduced (get_or-set_other tallies k v t empty_tally other) ∙ so_far.counted v (omega (arith, other, low, at)) has)
      (cases_eq v k);
}

-- a name that is absent has no entry to be counted
pub counted_absent : (above : Bool) (opens : Option ℕ → Bool → Bool) (s : State) (below k : ℕ) (tallies : List Tally) → AreCounted above opens s below tallies → k ≡ below + 1 → (IsTrue (present s.network k) → ⊥) → AreCounted above opens s (below + 1) tallies
counted_absent above opens s below k tallies so_far at absent = record {
  places = so_far.places;
  counted = λ v low has.
      ⊎_elim
      (λ (here : v ≡ k). absurd (absent (subst (λ x. IsTrue (present s.network x)) here has)))
      (λ (other : v ≢ k). so_far.counted v (omega (arith, other, low, at)) has)
      (cases_eq v k);
}
