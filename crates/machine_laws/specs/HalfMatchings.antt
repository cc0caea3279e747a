-- A matching: edges without a common end, whether it is maximal or not.
use Rattle.std.specs.Prelude.{ℕ, List, [], ◌∷◌, IsTrue, All}
use Rattle.std.specs.FinMap as map
use Rattle.rule_machine.specs.Network.{Network}
use Rattle.rule_machine.specs.Stable.{ShareAnEnd}

-- no two edges at different places of the list share an end
abbrev pub AreApart : List (ℕ × ℕ) → Type 0
AreApart [] = Unit {0}
AreApart (e ∷ edges) = All (λ f. ShareAnEnd e f → ⊥) edges × AreApart edges

-- edges of the network that share no end
pub record IsMatching (net : Network) (matching : List (ℕ × ℕ)) : Type 0 where
  pub of_edges : All (λ e. IsTrue (map.contains_key net.edges e)) matching
  pub apart : AreApart matching
