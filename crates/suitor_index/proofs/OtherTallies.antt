-- What one node's registers change in the counts of the others.
use Rattle.suitor_index.proofs.Prelude.{◌≡◌, ◌≢◌, ℕ, ◌+◌, ◌%◌, ◌≤◌, Bool, true, false, cond, ◌&&◌, List, Option, Some, nat_eq, ⊎_elim, cases_eq, IsTrue, refl, sym, ap, ap₂, ◌∙◌, subst, arith, sum_by, list_any, Network, IsNetwork, linked, neighbours, present, State, Registers, IsState, is_at, points, pointer_of, flag_of, is_open, asks_for, is_reached, linked_back, points_true, suitor_linked, is_at_from_some, Tally, state_of, suits, name_if, reduced, tally_of, tally_at, IsIndexOf, one_if, AddsSuitor, IsRepointed, IsTurned, HasSuitor, HasTallyRoom, CanTurn, near_found, is_some, ltb-true}
use Rattle.suitor_index.proofs.NeighbourSums.{near_turn, near_ones, listed_is_linked}
use Rattle.suitor_index.proofs.Sums.{count_some}
use Rattle.suitor_index.proofs.OpenTargets.{open_is}

-- two tables of registers that differ at v alone
pub record AreAlike (v : ℕ) (r q : Registers) : Type 0 where
  pub pointers : (x : ℕ) → x ≢ v → pointer_of r x ≡ pointer_of q x
  pub flags : (x : ℕ) → x ≢ v → flag_of r x ≡ flag_of q x

-- k is in the list of v's neighbours, and its guard asks for v
abbrev pub near : Bool → Network → ℕ → ℕ → Bool
near above net v k = list_any (nat_eq k) (neighbours net v) && asks_for above k v

held : (l b : Bool) (n : ℕ) → (b ≡ true → l ≡ true) → cond l (cond b n 0) 0 ≡ cond b n 0
held l b n h = grind arith

-- a node that points at k is its neighbour
pub held_at : (net : Network) (r : Registers) (v k n : ℕ) → IsState (state_of net r) → cond (linked net k v) (cond (points r v k) n 0) 0 ≡ cond (points r v k) n 0
held_at net r v k n good = held (linked net k v) (points r v k) n (λ at. suitor_linked (state_of net r) k v good (points_true (state_of net r) v k at))

-- sums over k's suitors
suitors_turned : (net : Network) (r q : Registers) (v k : ℕ) (n : ℕ → ℕ) → IsState (state_of net r) → IsState (state_of net q) → AreAlike v r q → IsTrue (present net v) → sum_by (λ x. cond (points q x k) (n x) 0) (neighbours net k) + cond (points r v k) (n v) 0 ≡ sum_by (λ x. cond (points r x k) (n x) 0) (neighbours net k) + cond (points q v k) (n v) 0
suitors_turned net r q v k n before now alike here =
    let turn = near_turn net net k v (λ x. cond (points q x k) (n x) 0) (λ x. cond (points r x k) (n x) 0) refl here (λ x apart. ap (λ o. cond (linked net k x) (cond (is_at o k) (n x) 0) 0) (sym (alike.pointers x apart))) in
    omega (arith, turn, held_at net r v k (n v) before, held_at net q v k (n v) now)

swap_and : (l a b : Bool) → cond l (one_if (a && b)) 0 ≡ cond b (one_if (l && a)) 0
swap_and l a b = grind arith

open_term : (above : Bool) (opens : Option ℕ → Bool → Bool) (net : Network) (r : Registers) (v k : ℕ) → IsNetwork net → cond (linked net k v) (cond (asks_for above k v && is_open opens (state_of net r) v) 1 0) 0 ≡ cond (is_open opens (state_of net r) v) (one_if (near above net v k)) 0
open_term above opens net r v k is_network =
    swap_and (linked net k v) (asks_for above k v) (is_open opens (state_of net r) v)
    ∙ ap (λ b. cond (is_open opens (state_of net r) v) (one_if (b && asks_for above k v)) 0) (linked_back net k v ∙ sym (listed_is_linked net v k is_network))

-- the sum of the names of k's suitors
abbrev pub names_at : State → ℕ → ℕ
names_at s k = sum_by (name_if (suits s k)) (neighbours s.network k)

-- how the tallies at k in two states are equal except for v
pub record IsTallyTurned (above : Bool) (opens : Option ℕ → Bool → Bool) (net : Network) (r q : Registers) (v k : ℕ) : Type 0 where
  pub suitors : (tally_at above opens (state_of net q) k).suitors + one_if (points r v k) ≡ (tally_at above opens (state_of net r) k).suitors + one_if (points q v k)
  pub sum : names_at (state_of net q) k + cond (points r v k) v 0 ≡ names_at (state_of net r) k + cond (points q v k) v 0
  pub reached : (tally_at above opens (state_of net q) k).reached + cond (is_open opens (state_of net r) v) (one_if (near above net v k)) 0 ≡ (tally_at above opens (state_of net r) k).reached + cond (is_open opens (state_of net q) v) (one_if (near above net v k)) 0

pub tally_turned : (above : Bool) (opens : Option ℕ → Bool → Bool) (net : Network) (r q : Registers) (v k : ℕ) → IsState (state_of net r) → IsState (state_of net q) → AreAlike v r q → IsTrue (present net v) → IsTallyTurned above opens net r q v k
tally_turned above opens net r q v k before now alike here =
    let s = state_of net r in
    let u = state_of net q in
    let same : (x : ℕ) → x ≢ v → is_open opens u x ≡ is_open opens s x = λ x apart. ap₂ opens (sym (alike.pointers x apart)) (sym (alike.flags x apart)) in
    let turn = near_turn net net k v (λ x. cond (asks_for above k x && is_open opens u x) 1 0) (λ x. cond (asks_for above k x && is_open opens s x) 1 0) refl here (λ x apart. ap (λ b. cond (linked net k x) (cond (asks_for above k x && b) 1 0) 0) (same x apart)) in
    record {
      suitors = suitors_turned net r q v k (λ x. 1) before now alike here;
      sum = suitors_turned net r q v k (λ x. x) before now alike here;
      reached = omega (arith, turn, open_is above opens s k, open_is above opens u k, open_term above opens net r v k before.is_network, open_term above opens net q v k before.is_network);
    }

-- tallies are equal if each count and the pointer is
pub tally_is : (t u : Tally) → t.suitors ≡ u.suitors → t.reached ≡ u.reached → t.sum % 65536 ≡ u.sum → t.pointer ≡ u.pointer → reduced t ≡ u
tally_is t u a b c d = λ i. record { suitors = a i; reached = b i; sum = c i; pointer = d i }

cancel_sum : (a b c d w i : ℕ) → (a + w) % 65536 ≡ (b + i) % 65536 → b % 65536 ≡ c % 65536 → d + w ≡ c + i → a % 65536 ≡ d % 65536
cancel_sum a b c d w i told was turned = omega arith

cancel : (a b c d w i : ℕ) → a + w ≡ b + i → b ≡ c → d + w ≡ c + i → a ≡ d
cancel a b c d w i told was turned = omega arith

-- the tallies of the state before, updated for v's change, are those of the state after
pub index_turned : (above : Bool) (opens : Option ℕ → Bool → Bool) (net : Network) (r q : Registers) (v : ℕ) (start pointed turned : List Tally) → IsState (state_of net r) → IsState (state_of net q) → AreAlike v r q → IsTrue (present net v) → IsIndexOf above opens (state_of net r) start → IsRepointed (pointer_of r v) (pointer_of q v) v start pointed → IsTurned (near above net v) (is_open opens (state_of net r) v) (is_open opens (state_of net q) v) pointed turned → IsIndexOf above opens (state_of net q) turned
index_turned above opens net r q v start pointed turned before now alike here index told told_open = record {
  places = told_open.places ∙ told.places ∙ index.places;
  counted = λ k has.
      let t = tally_turned above opens net r q v k before now alike here in
      let was = index.counted k has in
      tally_is (tally_of turned k) (tally_at above opens (state_of net q) k)
      (told_open.suitors k ∙ cancel _ _ _ _ _ _ (told.suitors k) (ap (λ (x : Tally). x.suitors) was) t.suitors)
      (cancel _ _ _ _ _ _ (told_open.reached k) (told.reached k ∙ ap (λ (x : Tally). x.reached) was) t.reached)
      (ap (λ n. n % 65536) (told_open.sum k) ∙ cancel_sum _ _ (names_at (state_of net r) k) (names_at (state_of net q) k) _ _ (told.sum k) (ap (λ (x : Tally). x.sum) was) t.sum)
      (told_open.aims k
      ∙ ⊎_elim
      (λ (here : k ≡ v). ap (λ x. (tally_of pointed x).pointer) here ∙ told.aim ∙ sym (ap (pointer_of q) here))
      (λ (apart : k ≢ v). told.others k apart ∙ ap (λ (x : Tally). x.pointer) was ∙ alike.pointers k apart)
      (cases_eq k v));
}

-- a count is at most 65,535, and so is each of its parts
one_small : (b : Bool) → cond b 1 0 ≤ 1
one_small b = grind arith

pub record IsSmall (t : Tally) : Type 0 where
  pub suitors : t.suitors ≤ 65535
  pub reached : t.reached ≤ 65535

pub tally_small : (above : Bool) (opens : Option ℕ → Bool → Bool) (s : State) (k : ℕ) → s.network.size ≤ 65535 → IsSmall (tally_at above opens s k)
tally_small above opens s k few = record {
  suitors = omega (arith, near_ones s.network k (λ x. cond (points s.registers x k) 1 0) (λ x. one_small (points s.registers x k)));
  reached = omega (arith, near_ones s.network k (λ x. cond (is_reached above opens s k x) 1 0) (λ x. one_small (is_reached above opens s k x)));
}

-- a node's pointer is counted at its target
pub has_suitor : (above : Bool) (opens : Option ℕ → Bool → Bool) (net : Network) (r : Registers) (v w : ℕ) (ts : List Tally) → IsState (state_of net r) → IsIndexOf above opens (state_of net r) ts → IsTrue (present net v) → IsTrue (present net w) → pointer_of r v ≡ Some w → HasSuitor (tally_of ts w)
has_suitor above opens net r v w ts good index here has at =
    let aims = is_at_from_some (pointer_of r v) w at in
    let found = near_found net (suits (state_of net r) w) w v good.is_network (suitor_linked (state_of net r) w v good at) aims in
    let some = ltb-true 0 _ (count_some (suits (state_of net r) w) (neighbours net w) ∙ ap is_some found.1) in
    omega (arith, some, ap (λ (x : Tally). x.suitors) (index.counted w has))

-- there is room to count it at its new target
pub has_room : (above : Bool) (opens : Option ℕ → Bool → Bool) (net : Network) (r q : Registers) (v w : ℕ) (start left : List Tally) → IsState (state_of net r) → IsState (state_of net q) → AreAlike v r q → IsTrue (present net v) → IsTrue (present net w) → net.size ≤ 65535 → IsIndexOf above opens (state_of net r) start → AddsSuitor (pointer_of r v) v left start → pointer_of q v ≡ Some w → HasTallyRoom (tally_of left w)
has_room above opens net r q v w start left before now alike here has few index told at =
    let t = tally_turned above opens net r q v w before now alike here in
    let was = index.counted w has in
    let small = tally_small above opens (state_of net q) w few in
    let aims = is_at_from_some (pointer_of q v) w at in
    let one : one_if (points q v w) ≡ 1 = ap one_if aims in
    let low = small.suitors in
    omega (arith, t.suitors, told.suitors w, ap (λ (x : Tally). x.suitors) was, one, low)

pub turn_step : (was is : Bool) (t before now : Tally) → IsSmall now → t.reached ≡ before.reached → now.reached + cond was 1 0 ≡ before.reached + cond is 1 0 → CanTurn was is t
turn_step true true t before now small same turned = tt
turn_step false false t before now small same turned = tt
turn_step true false t before now small same turned = omega (arith, same, turned)
turn_step false true t before now small same turned = let low = small.reached in omega (arith, same, turned, low)

-- there is room to count v as open if it opens, and it is counted if it closes
pub can_turn : (above : Bool) (opens : Option ℕ → Bool → Bool) (net : Network) (r q : Registers) (v k : ℕ) (start pointed : List Tally) → IsState (state_of net r) → IsState (state_of net q) → AreAlike v r q → IsTrue (present net v) → IsTrue (present net k) → near above net v k ≡ true → net.size ≤ 65535 → IsIndexOf above opens (state_of net r) start → IsRepointed (pointer_of r v) (pointer_of q v) v start pointed → CanTurn (is_open opens (state_of net r) v) (is_open opens (state_of net q) v) (tally_of pointed k)
can_turn above opens net r q v k start pointed before now alike here has listed few index told =
    let t = tally_turned above opens net r q v k before now alike here in
    let was = index.counted k has in
    let s = state_of net r in
    let u = state_of net q in
    turn_step (is_open opens s v) (is_open opens u v) (tally_of pointed k) (tally_at above opens s k) (tally_at above opens u k) (tally_small above opens u k few)
    (told.reached k ∙ ap (λ (x : Tally). x.reached) was)
    (subst (λ b. (tally_at above opens u k).reached + cond (is_open opens s v) (one_if b) 0 ≡ (tally_at above opens s k).reached + cond (is_open opens u v) (one_if b) 0) listed t.reached)
