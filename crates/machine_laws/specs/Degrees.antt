-- How many neighbours a node has.
use Rattle.std.specs.Prelude.{ℕ, length, Option, None, Some}
use Rattle.rule_machine.specs.Network.{Network, neighbours}

-- how many neighbours a node has
abbrev pub degree : Network → ℕ → ℕ
degree net v = length (neighbours net v)

-- the degree of a pointer's target; 0 for null
abbrev pub degree_at : Network → Option ℕ → ℕ
degree_at net None = 0
degree_at net (Some v) = degree net v
