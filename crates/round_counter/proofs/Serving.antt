-- The names that a step leaves pending.
use Rattle.round_counter.proofs.Prelude.{◌≡◌, ℕ, ◌+◌, ◌<◌, Bool, false, not, ◌&&◌, ◌||◌, List, length, get_or, take, nat_eq, IsTrue, sym, ap, ◌∙◌, arith, list_any_more, is_in, AreNoted, RemovedNames, Moved, is_mover_in}

-- one more mover is removed
pub removed_more : (a b c : List Bool) (moves : List Moved) (i : ℕ) (m : Moved) → i < length moves → m ≡ get_or moves i m → ((u : ℕ) → is_in b u ≡ (is_in a u && not (is_mover_in (take i moves) u))) → ((u : ℕ) → is_in c u ≡ (is_in b u && not (nat_eq m.node u))) → (u : ℕ) → is_in c u ≡ (is_in a u && not (is_mover_in (take (i + 1) moves) u))
removed_more a b c moves i m low is first next u =
    next u ∙ ap (λ x. x && not (nat_eq m.node u)) (first u)
    ∙ by_tests (is_in a u) (is_mover_in (take i moves) u) (nat_eq m.node u)
    ∙ ap (λ (x : Moved). is_in a u && not (is_mover_in (take i moves) u || nat_eq x.node u)) is
    ∙ ap (λ x. is_in a u && not x) (sym (list_any_more (λ m. nat_eq m.node u) moves i m low))
  where
    by_tests : (x y z : Bool) → ((x && not y) && not z) ≡ (x && not (y || z))
    by_tests x y z = grind arith

-- Of the pending nodes a step leaves those that are still enabled and did not move, and none that moved. If
-- the names that left the set are noted, it leaves only enabled nodes.
pub record LeavesPending (e : List Bool) (removed : RemovedNames) (moves : List Moved) (was is : List Bool) : Type 0 where
  pub stay : (u : ℕ) → IsTrue (is_in was u) → IsTrue (is_in e u) → is_mover_in moves u ≡ false → IsTrue (is_in is u)
  pub left : (u : ℕ) → IsTrue (is_in is u) → IsTrue (is_in was u) × (is_mover_in moves u ≡ false)
  pub off : AreNoted was e removed → (u : ℕ) → IsTrue (is_in is u) → IsTrue (is_in e u)
