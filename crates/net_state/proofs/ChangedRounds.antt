-- What a change leaves as it is.
use Rattle.net_state.proofs.Prelude.{may_link, ◌≡◌, ◌≢◌, ℕ, ◌+◌, ◌<◌, true, false, length, Some, IsTrue, refl, sym, ap, subst, ◌∙◌, arith, true≢false, linked, present, State, IsState, is_at, linked_back, linked_present, present_range, pointer_linked, if_some_from, is_at_from_some, pointer-with_pointer_same, IsChange, changed_state, StateView, affected_by, IsUnaffected, AreNamesBelow, Change, Pointed, Flagged, Linked, Unlinked, Joined, Removed}
use Rattle.net_state.proofs.Rounds.{IsSameRound, round_pointed, round_flagged, round_linked, round_unlinked, round_seated}

not_other : (b w : ℕ) → is_at (Some b) w ≡ false → w ≢ b
not_other b w fails same = true≢false (sym (is_at_from_some (Some b) w (ap Some (sym same))) ∙ fails)

has_place : (s : State) (v : ℕ) → IsState s → IsTrue (present s.network v) → v < length s.registers.pointers
has_place s v good here =
    let within = present_range s.network v here in
    omega (arith, within.1, good.pointers_len)

-- what is round each other name is as it was
round_after : (before now : StateView) (change : Change) (w : ℕ) → IsChange before change now → IsUnaffected (affected_by change) w → IsSameRound before.state (changed_state before.state change) w
round_after before now (Pointed v was is) w c apart =
    round_pointed before.state v is w (has_place before.state v c.was_state c.due.0) (record { other = apart.other; not_was = ap (λ o. is_at o w) (sym c.due.1) ∙ apart.not_was; not_is = apart.not_is })
round_after before now (Flagged v was is) w c apart = round_flagged before.state v is w apart.other
round_after before now (Linked a b) w c apart = round_linked before.state a b w apart.other (not_other b w apart.not_was)
round_after before now (Unlinked a b) w c apart = round_unlinked before.state a b w apart.other (not_other b w apart.not_was)
round_after before now (Joined v) w c apart =
    let kept = subst IsState c.made c.is_state in
    round_seated before.state.network before.state.registers v true w c.was_state.is_network kept.is_network apart.other
round_after before now (Removed v) w c apart =
    let kept = subst IsState c.made c.is_state in
    round_seated before.state.network before.state.registers v false w c.was_state.is_network kept.is_network apart.other

pub round_changed : (before now : StateView) (change : Change) (w : ℕ) → IsChange before change now → IsUnaffected (affected_by change) w → IsSameRound before.state now.state w
round_changed before now change w c apart =
    subst (λ (s : State). IsSameRound before.state s w) (sym c.made) (round_after before now change w c apart)

node_below : (s : State) (v places : ℕ) → places ≡ s.network.size + 1 → IsTrue (present s.network v) → v < places
node_below s v places length here =
    let within = present_range s.network v here in
    omega (arith, within.1, length)

target_below : (s : State) (v w places : ℕ) → places ≡ s.network.size + 1 → IsState s → IsTrue (linked s.network v w) → w < places
target_below s v w places length good near = node_below s w places length (linked_present s.network w v good.is_network (linked_back s.network w v ∙ near))

-- a table with a place for each name, and one more, has places for the names that a change affects
pub names_below : (before now : StateView) (change : Change) (places : ℕ) → IsChange before change now → places ≡ before.state.network.size + 1 → AreNamesBelow places (affected_by change)
names_below before now (Pointed v was is) places c length =
    let s = before.state in
    let kept = subst IsState c.made c.is_state in
    record {
      node = node_below s v places length c.due.0;
      one = if_some_from was (λ w. w < places) (λ w e. target_below s v w places length c.was_state (pointer_linked s v w c.was_state (sym c.due.1 ∙ e)));
      two = if_some_from is (λ w. w < places) (λ w e. target_below s v w places length c.was_state (pointer_linked (changed_state s (Pointed v was is)) v w kept (pointer-with_pointer_same s.registers v is (has_place s v c.was_state c.due.0) ∙ e)));
    }
names_below before now (Flagged v was is) places c length = record { node = node_below before.state v places length c.due.0; one = tt; two = tt }
names_below before now (Linked a b) places c length =
    let s = before.state in
    let ends = may_link s.network a b c.due in
    record { node = node_below s a places length ends.here_a; one = node_below s b places length ends.here_b; two = tt }
names_below before now (Unlinked a b) places c length =
    let s = before.state in
    record { node = target_below s b a places length c.was_state (linked_back s.network b a ∙ c.due.0); one = target_below s a b places length c.was_state c.due.0; two = tt }
names_below before now (Joined v) places c length = record { node = (let within = c.due.1.0 in omega (arith, within, length)); one = tt; two = tt }
names_below before now (Removed v) places c length = record { node = node_below before.state v places length c.due.0; one = tt; two = tt }

same_size : (s : State) (change : Change) → (changed_state s change).network.size ≡ s.network.size
same_size s (Pointed v was is) = refl
same_size s (Flagged v was is) = refl
same_size s (Linked a b) = refl
same_size s (Unlinked a b) = refl
same_size s (Joined v) = refl
same_size s (Removed v) = refl

pub size_kept : (before now : StateView) (change : Change) → IsChange before change now → now.state.network.size ≡ before.state.network.size
size_kept before now change c = ap (λ (s : State). s.network.size) c.made ∙ same_size before.state change
