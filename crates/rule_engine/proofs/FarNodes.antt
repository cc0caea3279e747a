-- A node far from a change shows the same as before.
use Rattle.rule_engine.proofs.Prelude.{◌≡◌, ℕ, Bool, false, ◌||◌, List, nat_eq, refl, sym, ◌∙◌, eq-eqb, or_parts, true≢false, Network, linked, neighbours, with_edge, without_edge, State, IsState, after_link, SameAt, neighbours_range, round_linked, round_unlinked}

pub not_same : (v w : ℕ) → nat_eq w v ≡ false → w ≡ v → ⊥
not_same v w apart same = true≢false (sym (eq-eqb w v same) ∙ apart)

-- if no register changed and the node sees the same neighbours, it shows the same
pub same_shown : (s : State) (net : Network) (w : ℕ) → neighbours s.network w ≡ neighbours net w → ((x : ℕ) → linked s.network w x ≡ linked net w x) → SameAt s (record s { network = net }) w
same_shown s net w near link = record { neighbours = near; linked = link; pointers = λ x _. refl; flags = λ x _. refl }

pub link_far : (s : State) (a b w : ℕ) → (nat_eq w a || nat_eq w b) ≡ false → SameAt s (after_link s a b) w
link_far s a b w far =
    let parts = or_parts (nat_eq w a) (nat_eq w b) far in
    let round = round_linked s a b w (not_same a w parts.0) (not_same b w parts.1) in
    same_shown s (with_edge s.network a b) w round.near round.link

pub cut_far : (s : State) (a b w : ℕ) → (nat_eq w a || nat_eq w b) ≡ false → SameAt s (record s { network = without_edge s.network a b }) w
cut_far s a b w far =
    let parts = or_parts (nat_eq w a) (nat_eq w b) far in
    let round = round_unlinked s a b w (not_same a w parts.0) (not_same b w parts.1) in
    same_shown s (without_edge s.network a b) w round.near round.link

-- nor do nodes that come or go change who the neighbours are
pub seat_far : (s : State) (here : List Bool) (w : ℕ) → IsState s → IsState (record s { network = record s.network { here = here } }) → SameAt s (record s { network = record s.network { here = here } }) w
seat_far s here w good good' =
    same_shown s (record s.network { here = here }) w (neighbours_range s.network w good.is_network ∙ sym (neighbours_range (record s.network { here = here }) w good'.is_network)) (λ x. refl)
