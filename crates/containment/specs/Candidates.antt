-- The nodes that may be in the reach of a disturbance, merged from two ascending lists.
use Rattle.std.specs.Prelude.{ℕ, min, Bool, cond, not, ◌&&◌, ◌||◌, List, [], ◌∷◌, Option, None, Some, nat_eq}
use Rattle.rule_machine.specs.declared.event.Event.{Event}
use Rattle.rule_machine.specs.State.{State, married}
use Rattle.containment_laws.specs.Reach.{is_parted, is_hit, parts_a_pair}

-- the lesser of the first numbers of two lists
abbrev pub least_head : List ℕ → List ℕ → Option ℕ
least_head [] [] = None
least_head [] (y ∷ ys) = Some y
least_head (x ∷ xs) [] = Some x
least_head (x ∷ xs) (y ∷ ys) = Some (min x y)

-- the list without its first number if that number is v, else the same list
abbrev pub without_head : ℕ → List ℕ → List ℕ
without_head v [] = []
without_head v (x ∷ xs) = cond (nat_eq x v) xs (x ∷ xs)

-- the event hits or parts v, or parts a pair while v is unmarried: a test without a look at v's neighbours
abbrev pub is_hit_or_parted : State → Event → ℕ → Bool
is_hit_or_parted s event v = is_hit s event v || is_parted s event v || (parts_a_pair s event && not (married s v))

-- whether a number passes p or q, and also the test
abbrev pub is_kept : (ℕ → Bool) → (ℕ → Bool) → (ℕ → Bool) → ℕ → Bool
is_kept p q test v = (p v || q v) && test v
