-- Stable states, and maximal matchings.
use Rattle.std.specs.Prelude.{◌≡◌, ℕ, ◌⊎◌, Bool, List, Option, None, Some, IfSome, IsTrue, All, Any, Contains, nat_lt, if◌then◌else◌}
use Rattle.std.specs.List.{filter_map}
use Rattle.std.specs.FinMap as map
use Rattle.rule_machine.specs.Network.{Network, names, present, linked}
use Rattle.rule_machine.specs.State.{State, pointer, flag, married, partner}

-- Every pointer is null or answered, and no edge has two ends with null pointers. If flags are used,
-- each node's flag says whether the node is married.
pub record IsStable (uses_flags : Bool) (s : State) : Type 0 where
  pub answered : (v : ℕ) → IfSome (pointer s v) (λ w. pointer s w ≡ Some v)
  pub covered : (v w : ℕ) → IsTrue (linked s.network v w) → pointer s v ≡ None → pointer s w ≡ None → ⊥
  pub flagged : IsTrue uses_flags → (v : ℕ) → IsTrue (present s.network v) → flag s v ≡ married s v

-- two edges have an end in common
abbrev pub ShareAnEnd : ℕ × ℕ → ℕ × ℕ → Type 0
ShareAnEnd e f = (e.0 ≡ f.0) ⊎ (e.0 ≡ f.1) ⊎ (e.1 ≡ f.0) ⊎ (e.1 ≡ f.1)

-- The matching has only edges of the network, and no two of them share an end. Each edge of the
-- network shares an end with an edge of the matching.
pub record IsMaximalMatching (net : Network) (matching : List (ℕ × ℕ)) : Type 0 where
  pub of_edges : All (λ e. IsTrue (map.contains_key net.edges e)) matching
  pub apart : (e f : ℕ × ℕ) → Contains matching e → Contains matching f → ShareAnEnd e f → e ≡ f
  pub maximal : (e : ℕ × ℕ) → IsTrue (map.contains_key net.edges e) → Any (ShareAnEnd e) matching

-- the pair of v and its partner if v is the lower end; otherwise None
abbrev pub pair_above : ℕ → Option ℕ → Option (ℕ × ℕ)
pair_above v None = None
pair_above v (Some w) = if nat_lt v w then Some (v, w) else None

-- the mutual pairs, ascending by lower end
abbrev pub mutual_pairs : State → List (ℕ × ℕ)
mutual_pairs s = filter_map (λ v. pair_above v (partner s v)) (names s.network)
