-- The ends of a new edge, and pointers that do not cross it.
use Rattle.net_state.proofs.Prelude.{after_link, may_link, ◌≡◌, ℕ, false, cond, not, ◌&&◌, ◌||◌, None, sym, ap, ◌∙◌, ⊎_elim, eq_by_cmp, true≢false, false_from_ne_true, eq-eqb, tells_apart, Network, pair_cmp, edge, linked, with_edge, without_edge, Registers, IsState, points, with_pointer, without_pointer, pair_exact, contains-insert, contains-remove, edge_ends, link_keeps, link_fault, State}

-- a state in which an edge may be added stays a state with it
pub link_sound : (s : State) (a b : ℕ) → IsState s → link_fault s.network a b ≡ None → IsState (after_link s a b)
link_sound s a b good free =
    let ends = may_link s.network a b free in
    link_keeps s a b good ends.here_a ends.here_b (λ same. true≢false (sym (eq-eqb a b same) ∙ ends.apart))

-- without a pointer that does not cross, nothing changes
pub stays : (r : Registers) (v w : ℕ) → points r v w ≡ false → without_pointer r v w ≡ r
stays r v w e = ap (λ t. cond t (with_pointer r v None) r) e

-- ---- an edge that comes or goes between two other names

other_pair : (a b k x : ℕ) → (k ≡ a → x ≡ b → ⊥) → (k ≡ b → x ≡ a → ⊥) → eq_by_cmp pair_cmp (edge k x) (edge a b) ≡ false
other_pair a b k x not_ab not_ba =
    false_from_ne_true _ (λ same. ⊎_elim (λ p. not_ab p.0 p.1) (λ p. not_ba p.0 p.1) (edge_ends a b k x (tells_apart pair_exact (edge k x) (edge a b) same)))

pub linked_with_other : (net : Network) (a b k x : ℕ) → (k ≡ a → x ≡ b → ⊥) → (k ≡ b → x ≡ a → ⊥) → linked (with_edge net a b) k x ≡ linked net k x
linked_with_other net a b k x not_ab not_ba =
    contains-insert net.edges (edge a b) (edge k x) ∙ ap (λ t. t || linked net k x) (other_pair a b k x not_ab not_ba)

pub linked_without_other : (net : Network) (a b k x : ℕ) → (k ≡ a → x ≡ b → ⊥) → (k ≡ b → x ≡ a → ⊥) → linked (without_edge net a b) k x ≡ linked net k x
linked_without_other net a b k x not_ab not_ba =
    contains-remove net.edges (edge a b) (edge k x) ∙ ap (λ t. not t && linked net k x) (other_pair a b k x not_ab not_ba)
