-- The surroundings of a name in two states (its registers, its neighbours, the nodes that point at it), and
-- which writes leave them as they are.
use Rattle.net_state.proofs.Prelude.{◌≡◌, ◌≢◌, ℕ, ◌<◌, Bool, ◌&&◌, length, set, filter, find, Option, is_some, sym, refl, ap, ◌∙◌, ⊎_elim, cases_eq, Network, PairSet, IsNetwork, linked, names, neighbours, present, with_edge, without_edge, State, Registers, is_at, partner, pointer, flag, points, married, has_suitor, with_pointer, after_point, after_flag, present_other, neighbours_range, pointer-with_pointer_other, pointer-with_pointer_same, flag-with_flag_other, IsUntouchedBy}
use Rattle.net_state.proofs.Edges.{linked_with_other, linked_without_other}

-- two states have the same round a name
pub record IsSameRound (s u : State) (v : ℕ) : Type 0 where
  pub here : present s.network v ≡ present u.network v
  pub near : neighbours s.network v ≡ neighbours u.network v
  pub link : (x : ℕ) → linked s.network v x ≡ linked u.network v x
  pub own_pointer : pointer s v ≡ pointer u v
  pub own_flag : flag s v ≡ flag u v
  pub pointed : (x : ℕ) → points s.registers x v ≡ points u.registers x v

pub same_suitors : (s u : State) (v : ℕ) → IsSameRound s u v → has_suitor s v ≡ has_suitor u v
same_suitors s u v round = λ i. is_some (find (λ w. round.pointed w i) (round.near i))

pub same_partner : (s u : State) (v : ℕ) → IsSameRound s u v → partner s v ≡ partner u v
same_partner s u v round = λ i. find (λ w. is_at (round.own_pointer i) w && round.pointed w i) (round.near i)

pub same_marriage : (s u : State) (v : ℕ) → IsSameRound s u v → married s v ≡ married u v
same_marriage s u v round = ap is_some (same_partner s u v round)

-- a pointer is written
pub round_pointed : (s : State) (v : ℕ) (target : Option ℕ) (w : ℕ) → v < length s.registers.pointers → IsUntouchedBy v (pointer s v) target w → IsSameRound s (after_point s v target) w
round_pointed s v target w within apart = record {
  here = refl;
  near = refl;
  link = λ x. refl;
  own_pointer = sym (pointer-with_pointer_other s.registers v target w apart.other);
  own_flag = refl;
  pointed = λ x.
      ⊎_elim
      (λ (same : x ≡ v).
      ap (λ y. points s.registers y w) same ∙ apart.not_was
      ∙ sym (ap (λ y. points (with_pointer s.registers v target) y w) same ∙ ap (λ o. is_at o w) (pointer-with_pointer_same s.registers v target within) ∙ apart.not_is))
      (λ (other : x ≢ v). sym (ap (λ o. is_at o w) (pointer-with_pointer_other s.registers v target x other)))
      (cases_eq x v);
}

-- a flag is written
pub round_flagged : (s : State) (v : ℕ) (value : Bool) (w : ℕ) → w ≢ v → IsSameRound s (after_flag s v value) w
round_flagged s v value w apart = record {
  here = refl;
  near = refl;
  link = λ x. refl;
  own_pointer = refl;
  own_flag = sym (flag-with_flag_other s.registers v value w apart);
  pointed = λ x. refl;
}

-- the edges change, and none of them that has this end
round_edges : (s : State) (edges : PairSet) (w : ℕ) → ((x : ℕ) → linked s.network w x ≡ linked (record s.network { edges = edges }) w x) → IsSameRound s (record s { network = record s.network { edges = edges } }) w
round_edges s edges w link = record {
  here = refl;
  near = λ i. filter (λ x. link x i) (names s.network);
  link = link;
  own_pointer = refl;
  own_flag = refl;
  pointed = λ x. refl;
}

-- an edge comes or goes at two other nodes
pub round_linked : (s : State) (a b w : ℕ) → w ≢ a → w ≢ b → IsSameRound s (record s { network = with_edge s.network a b }) w
round_linked s a b w not_a not_b = round_edges s _ w (λ x. sym (linked_with_other s.network a b w x (λ e f. not_a e) (λ e f. not_b e)))

pub round_unlinked : (s : State) (a b w : ℕ) → w ≢ a → w ≢ b → IsSameRound s (record s { network = without_edge s.network a b }) w
round_unlinked s a b w not_a not_b = round_edges s _ w (λ x. sym (linked_without_other s.network a b w x (λ e f. not_a e) (λ e f. not_b e)))

-- a name becomes present or absent, without an edge
pub round_seated : (net : Network) (r : Registers) (v : ℕ) (b : Bool) (w : ℕ) → IsNetwork net → IsNetwork (record net { here = set net.here v b }) → w ≢ v → IsSameRound (record { network = net; registers = r }) (record { network = record net { here = set net.here v b }; registers = r }) w
round_seated net r v b w good also apart = record {
  here = sym (present_other net v b w apart);
  near = neighbours_range net w good ∙ sym (neighbours_range (record net { here = set net.here v b }) w also);
  link = λ x. refl;
  own_pointer = refl;
  own_flag = refl;
  pointed = λ x. refl;
}
