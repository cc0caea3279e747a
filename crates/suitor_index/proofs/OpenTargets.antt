-- The open nodes that a guard asks for.
use Rattle.suitor_index.proofs.Prelude.{◌≡◌, ℕ, Bool, true, false, ◌&&◌, Option, refl, ap, arith, count_by, neighbours, State, is_open, asks_for, is_reached, tally_at}

swapped : (a b : Bool) → (a && b) ≡ (b && a)
swapped a b = grind arith

pub reached_is : (above : Bool) (opens : Option ℕ → Bool → Bool) (s : State) (v w : ℕ) → is_reached above opens s v w ≡ (asks_for above v w && is_open opens s w)
reached_is true opens s v w = swapped (is_open opens s w) (asks_for true v w)
reached_is false opens s v w = refl

-- as the tally counts them
pub open_is : (above : Bool) (opens : Option ℕ → Bool → Bool) (s : State) (v : ℕ) → (tally_at above opens s v).reached ≡ count_by (λ w. asks_for above v w && is_open opens s w) (neighbours s.network v)
open_is above opens s v = ap (λ (p : ℕ → Bool). count_by p (neighbours s.network v)) (λ i w. reached_is above opens s v w i)
