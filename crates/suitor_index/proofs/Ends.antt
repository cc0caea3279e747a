-- What an edge that comes or goes changes in the counts of its two ends.
use Rattle.suitor_index.proofs.Prelude.{◌≡◌, ◌≢◌, ℕ, ◌+◌, ◌%◌, ◌≤◌, Bool, true, false, cond, ◌&&◌, List, Option, nat_eq, IsTrue, sym, ap, ap₂, ◌∙◌, ⊎_elim, arith, sum_by, cases_eq, eq-eqb, ne_eqb, eqb-true, Network, linked, linked_comm, names, neighbours, present, Registers, points, pointer_of, flag_of, Tally, state_of, asks_for, tally_of, tally_at, IsIndexOf, one_if, IsTurned, CanTurn, refl}
use Rattle.suitor_index.proofs.NeighbourSums.{near_turn, near_same}
use Rattle.suitor_index.proofs.OpenTargets.{open_is}
use Rattle.suitor_index.proofs.OtherTallies.{tally_is, tally_small, turn_step}

-- The networks differ in the edge between a and b alone: whether it was there, and whether it is there. No pointer
-- crosses it.
pub record IsEdgeTurn (net now : Network) (r : Registers) (a b : ℕ) (was is : Bool) : Type 0 where
  pub same : now ≡ record net { edges = now.edges }
  pub has_a : IsTrue (present net a)
  pub has_b : IsTrue (present net b)
  pub apart : a ≢ b
  pub before : linked net a b ≡ was
  pub after : linked now a b ≡ is
  pub others : (k x : ℕ) → (k ≡ a → x ≡ b → ⊥) → (k ≡ b → x ≡ a → ⊥) → linked net k x ≡ linked now k x
  pub not_there : points r a b ≡ false
  pub not_back : points r b a ≡ false

-- from the other end
pub edge_swapped : (net now : Network) (r : Registers) (a b : ℕ) (was is : Bool) → IsEdgeTurn net now r a b was is → IsEdgeTurn net now r b a was is
edge_swapped net now r a b was is e = record {
  same = e.same;
  has_a = e.has_b;
  has_b = e.has_a;
  apart = λ same. e.apart (sym same);
  before = linked_comm net b a ∙ e.before;
  after = linked_comm now b a ∙ e.after;
  others = λ k x not_ba not_ab. e.others k x not_ab not_ba;
  not_there = e.not_back;
  not_back = e.not_there;
}

-- at one end
end_sum : (net now : Network) (a b : ℕ) (was is : Bool) (f : ℕ → ℕ) → names net ≡ names now → IsTrue (present net b) → linked net a b ≡ was → linked now a b ≡ is → ((x : ℕ) → x ≢ b → linked net a x ≡ linked now a x) → sum_by f (neighbours now a) + cond was (f b) 0 ≡ sum_by f (neighbours net a) + cond is (f b) 0
end_sum net now a b was is f nodes here before after others =
    let turn = near_turn net now a b f f nodes here (λ x apart. ap (λ l. cond l (f x) 0) (others x apart)) in
    omega (arith, turn, ap (λ l. cond l (f b) 0) before, ap (λ l. cond l (f b) 0) after)

at_ends : (was is x y : Bool) (p q m n s t : ℕ) → (x ≡ true → y ≡ false) → cond x p 0 ≡ m → cond y q 0 ≡ n → t + cond was (cond x p (cond y q 0)) 0 ≡ s + cond is (cond x p (cond y q 0)) 0 → t + cond was m 0 + cond was n 0 ≡ s + cond is m 0 + cond is n 0
at_ends was is x y p q m n s t apart first second sum = grind arith

nothing : (b c : Bool) → ◌≡◌ {A = ℕ} (cond b 0 0) (cond c 0 0)
nothing b c = grind arith

-- sums over the neighbours in the two networks, of which the edge adds these two terms
edge_sum : (net now : Network) (r : Registers) (a b : ℕ) (was is : Bool) (k : ℕ) (f : ℕ → ℕ) (m n : ℕ) → IsEdgeTurn net now r a b was is → cond (nat_eq k a) (f b) 0 ≡ m → cond (nat_eq k b) (f a) 0 ≡ n → sum_by f (neighbours now k) + cond was m 0 + cond was n 0 ≡ sum_by f (neighbours net k) + cond is m 0 + cond is n 0
edge_sum net now r a b was is k f m n e first second =
    let nodes : names net ≡ names now = sym (ap names e.same) in
    at_ends was is (nat_eq k a) (nat_eq k b) (f b) (f a) m n _ _ (λ at. ne_eqb k b (λ kb. e.apart (sym (eqb-true k a at) ∙ kb))) first second (
    ⊎_elim
    (λ (same : k ≡ a). rw (eq-eqb k a same) (end_sum net now k b was is f nodes e.has_b (ap (λ x. linked net x b) same ∙ e.before) (ap (λ x. linked now x b) same ∙ e.after) (λ x apart. e.others k x (λ _ xb. apart xb) (λ kb _. e.apart (sym same ∙ kb)))))
    (λ (not_a : k ≢ a).
    ⊎_elim
    (λ (same : k ≡ b). rw (ne_eqb k a not_a, eq-eqb k b same) (end_sum net now k a was is f nodes e.has_a (ap (λ x. linked net x a) same ∙ linked_comm net b a ∙ e.before) (ap (λ x. linked now x a) same ∙ linked_comm now b a ∙ e.after) (λ x apart. e.others k x (λ ka _. not_a ka) (λ _ xa. apart xa))))
    (λ (not_b : k ≢ b). rw (ne_eqb k a not_a, ne_eqb k b not_b) (ap₂ ◌+◌ (sym (near_same net now k f f nodes (λ x. ap (λ l. cond l (f x) 0) (e.others k x (λ ka _. not_a ka) (λ kb _. not_b kb))))) (nothing was is)))
    (cases_eq k b))
    (cases_eq k a)
    )

-- no suitor is counted over the edge
no_pointer : (r : Registers) (a b k n : ℕ) → points r b a ≡ false → cond (nat_eq k a) (cond (points r b k) n 0) 0 ≡ 0
no_pointer r a b k n fails = grind (arith, eqb-true)

nothing_more : (was is : Bool) (s t : ℕ) → t + cond was 0 0 + cond was 0 0 ≡ s + cond is 0 0 + cond is 0 0 → t ≡ s
nothing_more was is s t sum = grind arith

same_suitors : (net now : Network) (r : Registers) (a b : ℕ) (was is : Bool) (k : ℕ) (n : ℕ → ℕ) → IsEdgeTurn net now r a b was is → sum_by (λ x. cond (points r x k) (n x) 0) (neighbours now k) ≡ sum_by (λ x. cond (points r x k) (n x) 0) (neighbours net k)
same_suitors net now r a b was is k n e =
    nothing_more was is _ _ (edge_sum net now r a b was is k (λ x. cond (points r x k) (n x) 0) 0 0 e (no_pointer r a b k (n b) e.not_back) (no_pointer r b a k (n a) e.not_there))

-- whether b counts as open at a, if k is a
open_end : (above o : Bool) (a b k : ℕ) → cond (nat_eq k a) (cond (asks_for above k b && o) 1 0) 0 ≡ one_if ((asks_for above a b && o) && nat_eq k a)
open_end above o a b k = grind (arith, eqb-true)

-- w alone, if v, its neighbour over the edge, is open and asked for
abbrev pub end_of : Bool → (Option ℕ → Bool → Bool) → Registers → ℕ → ℕ → ℕ → Bool
end_of above opens r v w k = (asks_for above w v && opens (pointer_of r v) (flag_of r v)) && nat_eq k w

-- the open nodes that are asked for at k in the two states
reached_turned : (above : Bool) (opens : Option ℕ → Bool → Bool) (net now : Network) (r : Registers) (a b : ℕ) (was is : Bool) (k : ℕ) → IsEdgeTurn net now r a b was is → (tally_at above opens (state_of now r) k).reached + cond was (one_if (end_of above opens r b a k)) 0 + cond was (one_if (end_of above opens r a b k)) 0 ≡ (tally_at above opens (state_of net r) k).reached + cond is (one_if (end_of above opens r b a k)) 0 + cond is (one_if (end_of above opens r a b k)) 0
reached_turned above opens net now r a b was is k e =
    let open_at : ℕ → Bool = λ x. opens (pointer_of r x) (flag_of r x) in
    let sum = edge_sum net now r a b was is k (λ x. cond (asks_for above k x && open_at x) 1 0) _ _ e (open_end above (open_at b) a b k) (open_end above (open_at a) b a k) in
    omega (arith, sum, open_is above opens (state_of net r) k, open_is above opens (state_of now r) k)

one_end : (was is x y : Bool) (s t : ℕ) → x ≡ true → y ≡ false → t + cond was (one_if x) 0 + cond was (one_if y) 0 ≡ s + cond is (one_if x) 0 + cond is (one_if y) 0 → t + cond was 1 0 ≡ s + cond is 1 0
one_end was is x y s t here there sum = grind arith

pub end_elsewhere : (above : Bool) (opens : Option ℕ → Bool → Bool) (r : Registers) (v w k : ℕ) → k ≢ w → end_of above opens r v w k ≡ false
end_elsewhere above opens r v w k apart = grind (arith, eqb-true)

-- the count at an end can follow, if it counts the other
pub end_can_turn : (above : Bool) (opens : Option ℕ → Bool → Bool) (net now : Network) (r : Registers) (a b : ℕ) (was is : Bool) (start : List Tally) → IsEdgeTurn net now r a b was is → IsIndexOf above opens (state_of net r) start → now.size ≤ 65535 → (asks_for above a b && opens (pointer_of r b) (flag_of r b)) ≡ true → CanTurn was is (tally_of start a)
end_can_turn above opens net now r a b was is start e index few counts =
    let here : end_of above opens r b a a ≡ true = ap₂ (λ p q. p && q) counts (eq-eqb a a refl) in
    turn_step was is (tally_of start a) (tally_at above opens (state_of net r) a) (tally_at above opens (state_of now r) a) (tally_small above opens (state_of now r) a few) (ap (λ (x : Tally). x.reached) (index.counted a e.has_a))
    (one_end was is _ _ _ _ here (end_elsewhere above opens r a b a e.apart) (reached_turned above opens net now r a b was is a e))

-- updated for the edge at both ends, the tallies are those of the state after
pub index_ends : (above : Bool) (opens : Option ℕ → Bool → Bool) (net now : Network) (r : Registers) (a b : ℕ) (was is : Bool) (start half done : List Tally) → IsEdgeTurn net now r a b was is → IsIndexOf above opens (state_of net r) start → IsTurned (end_of above opens r b a) was is start half → IsTurned (end_of above opens r a b) was is half done → IsIndexOf above opens (state_of now r) done
index_ends above opens net now r a b was is start half done e index one two = record {
  places = two.places ∙ one.places ∙ index.places ∙ ap (λ n. n.size + 1) (sym e.same);
  counted = λ k has.
      let t = index.counted k (ap (λ n. present n k) (sym e.same) ∙ has) in
      tally_is (tally_of done k) (tally_at above opens (state_of now r) k)
      (two.suitors k ∙ one.suitors k ∙ ap (λ (x : Tally). x.suitors) t ∙ sym (same_suitors net now r a b was is k (λ x. 1) e))
      (let p = two.reached k in let q = one.reached k in let x = ap (λ (x : Tally). x.reached) t in omega (arith, p, q, x, reached_turned above opens net now r a b was is k e))
      (ap (λ n. n % 65536) (two.sum k ∙ one.sum k) ∙ ap (λ (x : Tally). x.sum) t ∙ ap (λ n. n % 65536) (sym (same_suitors net now r a b was is k (λ x. x) e)))
      (two.aims k ∙ one.aims k ∙ ap (λ (x : Tally). x.pointer) t);
}
