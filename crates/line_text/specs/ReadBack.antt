-- When a text, and what follows it, are read back in one way.
use Rattle.std.specs.Prelude.{◌≡◌, ℕ, List, ◌++◌}

-- Two values that fit, each before a rest that ends its text: if the whole texts are equal, so are the values
-- and the rests.
pub record IsReadBack {X : Type 0} (fits : X → Type 0) (text : X → List ℕ) (ends : X → List ℕ → Type 0) : Type 0 where
  pub once : (x y : X) (r s : List ℕ) → fits x → fits y → ends x r → ends y s → text x ++ r ≡ text y ++ s → (x ≡ y) × (r ≡ s)
