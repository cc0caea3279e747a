-- A node's contribution depends only on its registers, its neighbours and the nodes that point at it.
use Rattle.net_totals.proofs.Prelude.{◌≡◌, ℕ, ◌+◌, Bool, true, false, cond, not, ◌&&◌, List, length, count_by, None, Some, is_some, is_none, option_and_then, sym, ap, ◌∙◌, arith, is_in, neighbours, State, IsState, holds_at, points, pair_above, AreNear, IsSameChargeInput, points_true, count_agree, EdgeStance, Shut, Courted, Free, StateView, IsUnaffected, affected_by, IsChange, Change, round_changed, size_kept, IsSameRound, same_suitors, same_marriage, Contribution, closing_at, IsExactAt, AreExactUnlessStale}

pub same_standing : (s u : State) (v : ℕ) → IsSameRound s u v → IsSameChargeInput s u v
same_standing s u v round = record {
  points = round.own_pointer;
  flagged = round.own_flag;
  paired = same_marriage s u v round;
  courted = same_suitors s u v round;
}

same_closing : (closes : State → ℕ → Bool) (adds : State → ℕ → ℕ) (s u : State) (v : ℕ) → AreNear closes adds → IsState s → IsState u → IsSameRound s u v → closing_at (closes s) s v ≡ closing_at (closes u) u v
same_closing closes adds s u v near good also round =
    count_agree (λ x. points s.registers x v && closes s x) (λ x. points u.registers x v && closes u x) each (neighbours s.network v)
    ∙ ap (count_by (λ x. points u.registers x v && closes u x)) round.near
  where
    each : (x : ℕ) → (points s.registers x v && closes s x) ≡ (points u.registers x v && closes u x)
    each x =
        let pointed = round.pointed x in
        let closing = λ (at : points s.registers x v ≡ true) (there : points u.registers x v ≡ true). near.closes_by_target s u x v good also (points_true s x v at) (points_true u x v there) (same_standing s u v round) in
        grind arith

-- so what is kept of a node is still right
pub told_again : (courted_close : Bool) (closes : State → ℕ → Bool) (adds : State → ℕ → ℕ) (s u : State) (ends : List EdgeStance) (each : List Contribution) (lower : List Bool) (v : ℕ) → AreNear closes adds → IsState s → IsState u → IsSameRound s u v → IsExactAt courted_close closes adds s ends each lower v → IsExactAt courted_close closes adds u ends each lower v
told_again courted_close closes adds s u ends each lower v near good also round told =
    let standing = same_standing s u v round in
    let added : adds s v ≡ adds u v = near.adds_by_standing s u v standing in
    let closing = same_closing closes adds s u v near good also round in
    record {
      added = told.added ∙ (λ i. cond (round.here i) (cond (holds_at (λ w. not (round.pointed w i)) (round.own_pointer i)) 1 0 + added i) 0);
      closing = told.closing ∙ (λ i. cond (round.here i) (closing i) 0);
      is_lower = told.is_lower ∙ (λ i. is_some (pair_above v (option_and_then (λ w. cond (round.pointed w i) (Some w) None) (round.own_pointer i))));
      end = λ here. told.end (round.here ∙ here) ∙ (λ i. cond (standing.paired i) Shut (cond (courted_close && (is_none (standing.points i) && standing.courted i)) Courted Free));
    }

-- and so is all that is not stale after a change, if the names whose surroundings it may alter are
pub told_after : (courted_close : Bool) (closes : State → ℕ → Bool) (adds : State → ℕ → ℕ) (before now : StateView) (change : Change) (ends : List EdgeStance) (each : List Contribution) (lower stale stale' : List Bool) → AreNear closes adds → IsChange before change now → length stale' ≡ length stale → ((v : ℕ) → is_in stale' v ≡ false → (is_in stale v ≡ false) × IsUnaffected (affected_by change) v) → AreExactUnlessStale courted_close closes adds before.state ends each lower stale → AreExactUnlessStale courted_close closes adds now.state ends each lower stale'
told_after courted_close closes adds before now change ends each lower stale stale' near made same_places elsewhere told = record {
  places = told.places ∙ sizes;
  lower_places = told.lower_places ∙ sizes;
  stale_places = same_places ∙ told.stale_places ∙ sizes;
  told = λ v fresh.
      let was = elsewhere v fresh in
      told_again courted_close closes adds before.state now.state ends each lower v near made.was_state made.is_state (round_changed before now change v made was.1) (told.told v was.0);
} where
  sizes : before.state.network.size + 1 ≡ now.state.network.size + 1
  sizes = sym (ap (λ n. n + 1) (size_kept before now change made))
