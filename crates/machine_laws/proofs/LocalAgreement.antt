-- Two states with the same local view of a node agree on the node's pointer, on its suitors and on whether
-- it is married.
use Rattle.machine_laws.proofs.ChargePrelude.Imports.{◌≡◌, ℕ, Bool, find, IsTrue, refl, ap, ◌∙◌, inl, linked, neighbours, State, pointer, has_suitor, married, SameAt, arith}
use Rattle.machine_laws.proofs.Neighbours.{near_agree}

-- a search among the neighbours
pub same_find : (s u : State) (v : ℕ) (p q : ℕ → Bool) → SameAt s u v → ((w : ℕ) → IsTrue (linked s.network v w) → p w ≡ q w) → find p (neighbours s.network v) ≡ find q (neighbours u.network v)
same_find s u v p q same h = near_agree s.network p q v h ∙ ap (find q) same.neighbours

-- the node's own pointer, and a neighbour's
pub same_pointer : (s u : State) (v : ℕ) → SameAt s u v → pointer s v ≡ pointer u v
same_pointer s u v same = same.pointers v (inl refl)

pub same_suitor : (s u : State) (v : ℕ) → SameAt s u v → has_suitor s v ≡ has_suitor u v
same_suitor s u v same = grind (arith, same_find)

pub same_married : (s u : State) (v : ℕ) → SameAt s u v → married s v ≡ married u v
same_married s u v same = grind (arith, same_find, same_pointer)
