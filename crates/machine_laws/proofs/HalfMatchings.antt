-- A maximal matching has at least half as many edges as any other matching.
use Rattle.machine_laws.proofs.ChargePrelude.{◌≡◌, ℕ, ◌*◌, ◌≤◌, List, [], ◌∷◌, length, Bool, All, Any, refl, inl, inr, ⊎_elim, ◌⊎◌, arith, All-head, All-tail, Network, State, IsState, IsStable, mutual_pairs}
use Rattle.std.proofs.Common.{Contains}
use Rattle.rule_machine.specs.Stable.{IsMaximalMatching, ShareAnEnd}
use Rattle.machine_laws.specs.HalfMatchings.{AreApart, IsMatching}
use Rattle.machine_laws.proofs.ListCounts.{IsIn, in_without, length_without, without}
use Rattle.machine_laws.proofs.MaximalMatchings.{maximal_from_stable}
use Rattle.machine_laws.proofs.Pairs.{contains_cases, contains_empty}

-- ---- each edge takes an end of its own

-- an end of the edge is one of the names
abbrev Touches : List ℕ → ℕ × ℕ → Type 0
Touches xs e = IsIn e.0 xs ⊎ IsIn e.1 xs

-- an edge that shares no end with one whose end is taken away still has its own
still_touches : (xs : List ℕ) (e f : ℕ × ℕ) (v : ℕ) (h : IsIn v xs) → (v ≡ e.0) ⊎ (v ≡ e.1) → (ShareAnEnd e f → ⊥) → Touches xs f → Touches (without xs v h) f
still_touches xs e f v h x apart y = grind (arith, in_without)

-- Edges that share no ends and each have an end among the names are at most as many as the names: the first
-- removes its end.
no_more_than_names : (edges : List (ℕ × ℕ)) (xs : List ℕ) → AreApart edges → All (Touches xs) edges → length edges ≤ length xs
no_more_than_names [] xs apart touch = omega arith
no_more_than_names (e ∷ edges) xs apart touch =
    let take : (v : ℕ) → (v ≡ e.0) ⊎ (v ≡ e.1) → IsIn v xs → length (e ∷ edges) ≤ length xs = λ v is h.
    let rest = no_more_than_names edges (without xs v h) apart.1 (λ k d below. still_touches xs e _ v h is (apart.0 k d below) (All-tail (Touches xs) e edges touch k d below)) in
    omega (arith, rest, length_without xs v h) in
    ⊎_elim (take e.0 (inl refl)) (take e.1 (inr refl)) (All-head (Touches xs) e edges touch)

-- ---- the ends of a matching

abbrev ends : List (ℕ × ℕ) → List ℕ
ends [] = []
ends (e ∷ edges) = e.0 ∷ e.1 ∷ ends edges

ends_len : (edges : List (ℕ × ℕ)) → length (ends edges) ≡ 2 * length edges
ends_len [] = refl
ends_len (e ∷ edges) = let rest = ends_len edges in omega (arith, rest)

ends_have : (edges : List (ℕ × ℕ)) (e : ℕ × ℕ) → Contains edges e → IsIn e.0 (ends edges) × IsIn e.1 (ends edges)
ends_have [] e c = absurd (contains_empty e c)
ends_have (f ∷ edges) e c = grind (arith, ends_have edges e, contains_cases f e edges)

-- an edge that shares an end with one of the list has it among the ends
shares_touches : (edges : List (ℕ × ℕ)) (e : ℕ × ℕ) → Any (ShareAnEnd e) edges → Touches (ends edges) e
shares_touches edges e (k, f, below, at, shared) = let have = ends_have edges f (k, below, at) in grind arith

-- No matching has more than twice the edges of a maximal matching: each edge of the first has an end of the
-- second for itself.
pub maximal_is_half : (net : Network) (maximal other : List (ℕ × ℕ)) → IsMaximalMatching net maximal → IsMatching net other → length other ≤ 2 * length maximal
maximal_is_half net maximal other most is =
    let fits = no_more_than_names other (ends maximal) is.apart (λ k d below. shares_touches maximal _ (most.maximal _ (is.of_edges k d below))) in
    let len = ends_len maximal in
    omega (arith, fits, len)

-- a stable network has at least half as many mutual pairs as any matching has edges
pub stable_is_half : (uses_flags : Bool) (s : State) → IsState s → IsStable uses_flags s → (other : List (ℕ × ℕ)) → IsMatching s.network other → length other ≤ 2 * length (mutual_pairs s)
stable_is_half uses_flags s good stable other is =
    maximal_is_half s.network (mutual_pairs s) other (maximal_from_stable uses_flags s good stable) is
