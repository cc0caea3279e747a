-- A node's counts decide whether a search among its neighbours finds something.
use Rattle.suitor_index.proofs.Prelude.{◌≡◌, ◌≢◌, ℕ, zero, suc, ◌+◌, ◌%◌, ◌≤◌, Bool, true, false, cond, not, ◌&&◌, reverse, find, Option, Some, None, SomeIff, is_some, nat_eq, nat_lt, nat_le, IsTrue, MatchOption, refl, sym, ap, ap₂, ◌∙◌, subst, ⊎_elim, arith, count_by, sum_by, and_parts, cases_eq, eq-eqb, false_from_ne_true, le-leb, lt-leb, lt-ltb, ne_eqb, true≢false, Network, IsNetwork, linked, neighbours, State, IsState, suits, has_suitor, first_suitor, is_open, is_reached, near_found, near_some, linked_back, linked_present, present_range, Tally, reduced, suitor_count, tally_at, name_if, IsLoneSuitor, one_if}
use Rattle.suitor_index.proofs.NeighbourSums.{near_turn}
use Rattle.suitor_index.proofs.Sums.{count_some, count_none, count_one, count_reverse}

pub suitors_counted : (above : Bool) (opens : Option ℕ → Bool → Bool) (s : State) (v : ℕ) (t : Tally) → reduced t ≡ tally_at above opens s v → nat_lt 0 t.suitors ≡ has_suitor s v
suitors_counted above opens s v t is = ap (λ (u : Tally). nat_lt 0 u.suitors) is ∙ count_some (suits s v) (neighbours s.network v)

-- the open neighbours, if the guards ask for any
pub open_counted : (above : Bool) (opens : Option ℕ → Bool → Bool) (s : State) (v : ℕ) (t : Tally) → above ≡ false → reduced t ≡ tally_at above opens s v → t.reached ≡ count_by (is_open opens s) (neighbours s.network v)
open_counted above opens s v t any is =
    ap (λ (u : Tally). u.reached) is ∙ ap (λ a. count_by (is_reached a opens s v) (neighbours s.network v)) any

-- and those above the node, if they ask for those alone
pub open_above_counted : (above : Bool) (opens : Option ℕ → Bool → Bool) (s : State) (v : ℕ) (t : Tally) → above ≡ true → reduced t ≡ tally_at above opens s v → t.reached ≡ count_by (λ w. is_open opens s w && nat_lt v w) (reverse (neighbours s.network v))
open_above_counted above opens s v t higher is =
    ap (λ (u : Tally). u.reached) is
    ∙ ap (λ a. count_by (is_reached a opens s v) (neighbours s.network v)) higher
    ∙ sym (count_reverse (λ w. is_open opens s w && nat_lt v w) (neighbours s.network v))

-- no suitor
pub no_suitor_counted : (above : Bool) (opens : Option ℕ → Bool → Bool) (s : State) (v : ℕ) (t : Tally) → reduced t ≡ tally_at above opens s v → t.suitors ≡ 0 → None ≡ first_suitor s v
no_suitor_counted above opens s v t is none =
    sym (count_none (suits s v) (neighbours s.network v) (sym (ap (λ (u : Tally). u.suitors) is) ∙ none))

-- one suitor, whose name is the sum
pub one_suitor_counted : (above : Bool) (opens : Option ℕ → Bool → Bool) (s : State) (v : ℕ) (t : Tally) (o : Option ℕ) → IsState s → reduced t ≡ tally_at above opens s v → s.network.size ≤ 65535 → t.sum ≤ 65535 → t.suitors ≡ 1 → SomeIff o ((1 ≤ t.sum) × (t.sum ≤ 65535)) t.sum → o ≡ first_suitor s v
one_suitor_counted above opens s v t o is_state is few small one named =
    let w = sum_by (name_if (suits s v)) (neighbours s.network v) in
    let low : t.sum % 65536 ≡ w % 65536 = ap (λ (u : Tally). u.sum) is in
    let found : first_suitor s v ≡ Some w = count_one (suits s v) (neighbours s.network v) (sym (ap (λ (u : Tally). u.suitors) is) ∙ one) in
    let near = near_some s.network (suits s v) v w found in
    let bounds = present_range s.network w (linked_present s.network w v is_state.is_network (linked_back s.network w v ∙ near.0)) in
    let sum : t.sum ≡ w = omega (arith, low, small, bounds.1, few) in
    named_some o _ t.sum named (omega (arith, sum, bounds.0), small) ∙ ap Some sum ∙ sym found
  where
    named_some : (o : Option ℕ) (P : Type 0) (x : ℕ) → SomeIff o P x → P → o ≡ Some x
    named_some None P x h p = absurd (h p)
    named_some (Some y) P x h p = ap Some h.1

-- one count is another plus a part, so it is at most the part if the other is 0
at_most_part : (a b : ℕ) (part : Bool) → a ≡ b + one_if part → nat_le a (one_if part) ≡ not (nat_lt 0 b)
at_most_part a zero part is = le-leb a (one_if part) (omega (arith, is))
at_most_part a (suc b) part is = lt-leb a (one_if part) (omega (arith, is)) ∙ ap not (sym (lt-ltb 0 (suc b) (omega arith)))

-- v is at most one of the neighbours that pass
pub others_counted : (net : Network) (p : ℕ → Bool) (w v : ℕ) → IsNetwork net → IsTrue (linked net w v) → nat_le (count_by p (neighbours net w)) (one_if (p v)) ≡ not (is_some (find (λ x. not (nat_eq x v) && p x) (neighbours net w)))
others_counted net p w v is_network h =
    let here = linked_present net v w is_network (linked_back net v w ∙ h) in
    let turn = near_turn net net w v (λ x. one_if (p x)) (λ x. one_if (not (nat_eq x v) && p x)) refl here (
    λ x apart. ap (λ b. cond (linked net w x) (one_if (not b && p x)) 0) (sym (ne_eqb x v apart))
    ) in
    let mine = ap (λ b. cond b (one_if (p v)) 0) h in
    let gone : cond (linked net w v) (one_if (not (nat_eq v v) && p v)) 0 ≡ 0 = ap (λ b. cond (linked net w v) (one_if (not b && p v)) 0) (eq-eqb v v refl) ∙ nothing (linked net w v) 0 in
    at_most_part (count_by p (neighbours net w)) (count_by (λ x. not (nat_eq x v) && p x) (neighbours net w)) (p v) (omega (arith, turn, mine, gone))
    ∙ ap not (count_some (λ x. not (nat_eq x v) && p x) (neighbours net w))
  where
    nothing : (b : Bool) (x : ℕ) → cond b x x ≡ x
    nothing b x = grind arith

-- if one neighbour points at a node, it is the first that does, and no other does
pub lone : (s : State) (v w : ℕ) → IsState s → suitor_count s v ≡ 1 → first_suitor s v ≡ Some w → IsLoneSuitor s v w
lone s v w is_state one first = record {
  here = linked_present net w v good (linked_back net w v ∙ near.0);
  alone = λ x. ⊎_elim
      (λ (same : x ≡ w). ap (λ y. linked net v y && suits s v y) same ∙ ap₂ (λ (b c : Bool). b && c) near.0 near.1 ∙ sym (eq-eqb x w same))
      (λ (apart : x ≡ w → ⊥). false_from_ne_true _ (λ both. let parts = and_parts (linked net v x) (suits s v x) both in another x apart parts.0 parts.1) ∙ sym (ne_eqb x w apart))
      (cases_eq x w);
}
  where
    net : Network
    net = s.network

    good : IsNetwork net
    good = is_state.is_network

    near : IsTrue (linked net v w) × IsTrue (suits s v w)
    near = near_some net (suits s v) v w first

    not_true : (b : Bool) → true ≡ not b → b ≡ false
    not_true true e = e
    not_true false e = refl

    none : is_some (find (λ x. not (nat_eq x w) && suits s v x) (neighbours net v)) ≡ false
    none = not_true _ (sym (le-leb 1 1 (omega arith)) ∙ sym (ap₂ (λ (n : ℕ) (b : Bool). nat_le n (one_if b)) one near.1) ∙ others_counted net (suits s v) v w good near.0)

    another : (x : ℕ) → (x ≡ w → ⊥) → IsTrue (linked net v x) → IsTrue (suits s v x) → ⊥
    another x apart there points =
        let found = near_found net (λ y. not (nat_eq y w) && suits s v y) v x good there (ap₂ (λ (b c : Bool). not b && c) (ne_eqb x w apart) points) in
        true≢false (sym (ap is_some found.1) ∙ none)

-- so it is if the count is 1 and the sum its name
pub lone_counted : (above : Bool) (opens : Option ℕ → Bool → Bool) (s : State) (v : ℕ) (t : Tally) (o : Option ℕ) → IsState s → reduced t ≡ tally_at above opens s v → s.network.size ≤ 65535 → t.sum ≤ 65535 → t.suitors ≡ 1 → SomeIff o ((1 ≤ t.sum) × (t.sum ≤ 65535)) t.sum → MatchOption o (suitor_count s v ≢ 1) (IsLoneSuitor s v)
lone_counted above opens s v t o is_state is few small one named =
    let count : suitor_count s v ≡ 1 = sym (ap (λ (u : Tally). u.suitors) is) ∙ one in
    let w = sum_by (name_if (suits s v)) (neighbours s.network v) in
    let first : first_suitor s v ≡ Some w = count_one (suits s v) (neighbours s.network v) count in
    subst (λ q. MatchOption q (suitor_count s v ≢ 1) (IsLoneSuitor s v)) (sym (one_suitor_counted above opens s v t o is_state is few small one named ∙ first)) (lone s v w is_state count first)
