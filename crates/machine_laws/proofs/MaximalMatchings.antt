-- The mutual pairs of a state are a matching; of a stable one a maximal matching, and the other way round.
use Rattle.machine_laws.proofs.ChargePrelude.Imports.{◌≡◌, ℕ, ◌⊎◌, min, max, Bool, Option, None, Some, IfSome, IsTrue, All, Any, Contains, sym, ◌∙◌, arith, Contains-get_or, linked, present, State, IsState, pointer, flag, married, IsStable, IsMaximalMatching, ShareAnEnd, mutual_pairs}
use Rattle.std.specs.FinMap as map
use Rattle.machine_laws.proofs.Neighbours.{option_cases, linked_pair}
use Rattle.machine_laws.proofs.Pointers.{pointer_linked}
use Rattle.machine_laws.proofs.Writes.{if_some_at}
use Rattle.machine_laws.proofs.Pairs.{IsMutualPair, pair_from, pair_at}
use Rattle.machine_laws.proofs.Members.{edge_either}

-- each mutual pair is an edge, since pointers cross edges
pub pairs_are_edges : (s : State) → IsState s → All (λ e. IsTrue (map.contains_key s.network.edges e)) (mutual_pairs s)
pairs_are_edges s is_state k d within =
    let e = pair_from s _ (Contains-get_or (mutual_pairs s) k d within) in
    sym (linked_pair s.network _ _ e.ordered) ∙ pointer_linked s _ _ is_state e.there

-- Two pairs that share an end are equal: the end points at the other end of both. If it is the lower end of
-- one and the higher end of the other, that other end is both above and below it.
same_pair : (s : State) (e f : ℕ × ℕ) → IsMutualPair s e → IsMutualPair s f → ShareAnEnd e f → e ≡ f
same_pair s e f pe pf shared = grind arith

pub pairs_apart : (s : State) (e f : ℕ × ℕ) → Contains (mutual_pairs s) e → Contains (mutual_pairs s) f → ShareAnEnd e f → e ≡ f
pairs_apart s e f in_e in_f shared = same_pair s e f (pair_from s e in_e) (pair_from s f in_f) shared

-- of an edge's two ends one points somewhere, and is answered
pub end_answered : (uses_flags : Bool) (s : State) → IsState s → IsStable uses_flags s → (e : ℕ × ℕ) → IsTrue (map.contains_key s.network.edges e) → ((w : ℕ) × (pointer s e.0 ≡ Some w) × (pointer s w ≡ Some e.0)) ⊎ ((w : ℕ) × (pointer s e.1 ≡ Some w) × (pointer s w ≡ Some e.1))
end_answered uses_flags s good stable e h =
    let near : IsTrue (linked s.network e.0 e.1) = linked_pair s.network e.0 e.1 (good.is_network.low_first e.0 e.1 h) ∙ h in
    grind (arith, stable.covered e.0 e.1 near, stable.answered e.0, stable.answered e.1, if_some_at, option_cases)

-- that end's pair shares the end with the edge
touched : (uses_flags : Bool) (s : State) → IsState s → IsStable uses_flags s → (e : ℕ × ℕ) → IsTrue (map.contains_key s.network.edges e) → Any (ShareAnEnd e) (mutual_pairs s)
touched uses_flags s good stable e h = grind (arith, end_answered uses_flags s good stable e h, pair_at)

pub maximal_from_stable : (uses_flags : Bool) (s : State) → IsState s → IsStable uses_flags s → IsMaximalMatching s.network (mutual_pairs s)
maximal_from_stable uses_flags s is_state stable = record {
  of_edges = pairs_are_edges s is_state;
  apart = pairs_apart s;
  maximal = touched uses_flags s is_state stable;
}

clash : (p : ℕ → Option ℕ) (e f : ℕ × ℕ) → p e.0 ≡ None → p e.1 ≡ None → p f.0 ≡ Some f.1 → p f.1 ≡ Some f.0 → ShareAnEnd e f → ⊥
clash p e f low high there back shared = grind arith

-- An edge with two null ends would share an end with a pair, whose ends both point somewhere.
uncovered : (s : State) → IsMaximalMatching s.network (mutual_pairs s) → (v w : ℕ) → IsTrue (linked s.network v w) → pointer s v ≡ None → pointer s w ≡ None → ⊥
uncovered s matching v w h null other =
    let found = matching.maximal (min v w, max v w) h in
    let pair = pair_from s found.1 (found.0, found.2, found.3) in
    let ends : (pointer s (min v w) ≡ None) × (pointer s (max v w) ≡ None) = edge_either (λ e. (pointer s e.0 ≡ None) × (pointer s e.1 ≡ None)) v w (null, other) (other, null) in
    clash (pointer s) (min v w, max v w) found.1 ends.0 ends.1 pair.there pair.back found.4

pub stable_from_maximal : (uses_flags : Bool) (s : State) → IsState s → ((v : ℕ) → IfSome (pointer s v) (λ w. pointer s w ≡ Some v)) → (IsTrue uses_flags → (v : ℕ) → IsTrue (present s.network v) → flag s v ≡ married s v) → IsMaximalMatching s.network (mutual_pairs s) → IsStable uses_flags s
stable_from_maximal uses_flags s is_state answered flagged matching =
    record { answered = answered; covered = uncovered s matching; flagged = flagged }
