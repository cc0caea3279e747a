-- An entry leaves the names that it does not affect as they are, as far as their rules depend on it.
use Rattle.judged_rounds.proofs.Prelude.{◌≡◌, ◌≢◌, ℕ, Bool, true, false, ◌&&◌, ◌||◌, ◌⊎◌, flag, is_touched, witness_at, depends_on, Witness, AgreeAt, List, [], ◌∷◌, find, get_or, nat_eq, Option, None, Some, IsTrue, refl, sym, ap, ◌∙◌, inl, inr, ⊎_elim, arith, map, ne_eqb, unless_at, and_from, or_left, or_right, or_parts, or_from, eq-eqb, true≢false, false_from_ne_true, list_any, linked_back, linked_present, present_other, near_found, without_pointer_stays, without_pointer_flags, pointer-with_pointer_other, flag-with_flag_other, neighbours_range, pointer_linked, some_from_is_at, is_mover_in, followed, disturbed, linked, neighbours, present, State, IsState, Registers, pointer, points, with_pointer, with_flag, after_link, after_unlink, after_join, after_leave, without_pointer, registers_after, Moved, Event, Link, Unlink, Point, Flag, Step, Show, Enabled, Matching, Status, Join, Leave, Reply, Accepted, Refused, Moves, Shown, EnabledAre, Pairs, Counts, SameAt, IsNear, round_linked, round_unlinked, is_near, is_near_leaver, is_near_suitor, is_affected, is_affected_by}
use Rattle.judged_rounds.proofs.Apart.{not_it, not_linked, far_names, unmoved, link_left, near_left, pointer_left}

-- w is u, or a neighbour on which u depends
abbrev Matters : State → List Witness → ℕ → ℕ → Type 0
Matters s witnesses u w = (w ≡ u) ⊎ (IsTrue (linked s.network u w) × IsTrue (depends_on (witness_at witnesses u) w))

agree_near : (s s' : State) (u : ℕ) (witness : Option ℕ) → present s.network u ≡ present s'.network u → SameAt s s' u → AgreeAt s s' u witness
agree_near s s' u witness here same = record {
  presence = here;
  neighbours = same.neighbours;
  links = same.linked;
  own_pointer = same.pointers u (inl refl);
  own_flag = same.flags u (inl refl);
  pointers = λ w link may. same.pointers w (inr link);
  flags = λ w link may. same.flags w (inr link);
}

agree_itself : (s : State) (u : ℕ) (witness : Option ℕ) → AgreeAt s s u witness
agree_itself s u witness = agree_near s s u witness refl (record { neighbours = refl; linked = λ w. refl; pointers = λ w near. refl; flags = λ w near. refl })

-- other registers, the same where it matters
agree_written : (s : State) (witnesses : List Witness) (r : Registers) (u : ℕ) → ((w : ℕ) → Matters s witnesses u w → (pointer (record s { registers = r }) w ≡ pointer s w) × (flag (record s { registers = r }) w ≡ flag s w)) → AgreeAt s (record s { registers = r }) u (witness_at witnesses u)
agree_written s witnesses r u kept = record {
  presence = refl;
  neighbours = refl;
  links = λ w. refl;
  own_pointer = sym (kept u (inl refl)).0;
  own_flag = sym (kept u (inl refl)).1;
  pointers = λ w link may. sym (kept w (inr (link, may))).0;
  flags = λ w link may. sym (kept w (inr (link, may))).1;
}

-- what matters to a name that v does not touch is not v
untouched_apart : (s : State) (witnesses : List Witness) (v u w : ℕ) → IsState s → is_touched s witnesses v u ≡ false → Matters s witnesses u w → w ≢ v
untouched_apart s witnesses v u w good far (inl own) same = not_it v u (or_parts (nat_eq u v) _ far).0 (sym own ∙ same)
untouched_apart s witnesses v u w good far (inr (link, may)) same =
    let back : IsTrue (linked s.network v u) = linked_back s.network v u ∙ ap (linked s.network u) (sym same) ∙ link in
    let on : IsTrue (depends_on (witness_at witnesses u) v) = ap (depends_on (witness_at witnesses u)) (sym same) ∙ may in
    true≢false (sym (or_right (nat_eq u v) _ (and_from (present s.network v) _ (linked_present s.network v u good.is_network back) (and_from (linked s.network v u) _ back on))) ∙ far)

some_any : (p : ℕ → Bool) (xs : List ℕ) (x : ℕ) → find p xs ≡ Some x → IsTrue (list_any p xs)
some_any p [] x e = absurd cc
some_any p (y ∷ xs) x e = let rest = some_any p xs x in grind arith

-- ---- disturbances

link_same : (s : State) (a b u : ℕ) → (nat_eq u a || nat_eq u b) ≡ false → SameAt s (after_link s a b) u
link_same s a b u far =
    let parts = or_parts (nat_eq u a) (nat_eq u b) far in
    let round = round_linked s a b u (not_it a u parts.0) (not_it b u parts.1) in
    record { neighbours = round.near; linked = round.link; pointers = λ w near. refl; flags = λ w near. refl }

unlink_same : (s : State) (a b u : ℕ) → IsState s → (is_near s a u || is_near s b u) ≡ false → SameAt s (after_unlink s a b) u
unlink_same s a b u good far =
    let parts = or_parts (is_near s a u) (is_near s b u) far in
    let round = round_unlinked s a b u (far_names s a u u good parts.0 (inl refl)) (far_names s b u u good parts.1 (inl refl)) in
    record {
      neighbours = round.near;
      linked = round.link;
      pointers = λ w near.
          sym (without_pointer_stays (without_pointer s.registers a b) b a w (λ same. absurd (far_names s b u w good parts.1 near same))
          ∙ without_pointer_stays s.registers a b w (λ same. absurd (far_names s a u w good parts.0 near same)));
      flags = λ w near. ap (λ row. get_or row w false) (sym (without_pointer_flags (without_pointer s.registers a b) b a ∙ without_pointer_flags s.registers a b));
    }

join_same : (s : State) (v u : ℕ) → IsState s → IsState (after_join s v) → SameAt s (after_join s v) u
join_same s v u good good' = record {
  neighbours = neighbours_range s.network u good.is_network ∙ sym (neighbours_range (after_join s v).network u good'.is_network);
  linked = λ w. refl;
  pointers = λ w near. refl;
  flags = λ w near. refl;
}

-- a suitor of the node that leaves is a neighbour of it, and so no name near u
unsuited : (s : State) (v u w : ℕ) → IsState s → (present s.network v && list_any (λ x. is_near_suitor s v x u) (neighbours s.network v)) ≡ false → IsNear s u w → points s.registers w v ≡ false
unsuited s v u w good far near = false_from_ne_true (points s.registers w v) (λ at. true≢false (sym (hit at) ∙ far))
  where
    beside : IsTrue (is_near s w u)
    beside =
        ⊎_elim
        (λ (same : w ≡ u). or_left (nat_eq u w) _ (eq-eqb u w (sym same)))
        (λ link.
        let back = linked_back s.network w u ∙ link in
        or_right (nat_eq u w) _ (and_from (present s.network w) (linked s.network w u) (linked_present s.network w u good.is_network back) back)) near

    hit : IsTrue (points s.registers w v) → IsTrue (present s.network v && list_any (λ x. is_near_suitor s v x u) (neighbours s.network v))
    hit at =
        let link = linked_back s.network v w ∙ pointer_linked s w v good (some_from_is_at (pointer s w) v at) in
        let found = near_found s.network (λ x. is_near_suitor s v x u) v w good.is_network link (and_from (points s.registers w v) (is_near s w u) at beside) in
        and_from (present s.network v) _ (linked_present s.network v w good.is_network link) (some_any (λ x. is_near_suitor s v x u) (neighbours s.network v) found.0 found.1)

leave_same : (s : State) (v u : ℕ) → IsState s → IsState (after_leave s v) → is_near_leaver s v u ≡ false → SameAt s (after_leave s v) u
leave_same s v u good good' far =
    let parts = or_parts (is_near s v u) _ far in
    let apart = far_names s v u u good parts.0 (inl refl) in
    let none = linked_back s.network u v ∙ not_linked s v u good parts.0 in
    record {
      neighbours = near_left s.network v u good.is_network good'.is_network apart none;
      linked = λ w. link_left s.network v u w apart none;
      pointers = λ w near. sym (pointer_left s.registers v w (far_names s v u w good parts.0 near) (unsuited s v u w good parts.1 near));
      flags = λ w near. sym (flag-with_flag_other (with_pointer (record s.registers { pointers = map (unless_at v) s.registers.pointers }) v None) v false w (far_names s v u w good parts.0 near));
    }

-- an accepted disturbance
disturbed_agree : (s : State) (witnesses : List Witness) (event : Event) (u : ℕ) → IsState s → IsState (disturbed s event) → is_affected_by s witnesses event u ≡ false → AgreeAt s (disturbed s event) u (witness_at witnesses u)
disturbed_agree s witnesses (Link a b) u good good' far = agree_near s (after_link s a b) u _ refl (link_same s a b u far)
disturbed_agree s witnesses (Unlink a b) u good good' far = agree_near s (after_unlink s a b) u _ refl (unlink_same s a b u good far)
disturbed_agree s witnesses (Point v target) u good good' far =
    agree_written s witnesses (with_pointer s.registers v target) u (λ w matters. (pointer-with_pointer_other s.registers v target w (untouched_apart s witnesses v u w good far matters), refl))
disturbed_agree s witnesses (Flag v value) u good good' far =
    agree_written s witnesses (with_flag s.registers v value) u (λ w matters. (refl, flag-with_flag_other s.registers v value w (untouched_apart s witnesses v u w good far matters)))
disturbed_agree s witnesses (Join v) u good good' far = agree_near s (after_join s v) u _ (sym (present_other s.network v true u (not_it v u far))) (join_same s v u good good')
disturbed_agree s witnesses (Leave v) u good good' far =
    let apart = far_names s v u u good (or_parts (is_near s v u) _ far).0 (inl refl) in
    agree_near s (after_leave s v) u _ (sym (present_other s.network v false u apart)) (leave_same s v u good good' far)
disturbed_agree s witnesses (Step items) u good good' far = agree_itself s u _
disturbed_agree s witnesses (Show v) u good good' far = agree_itself s u _
disturbed_agree s witnesses Enabled u good good' far = agree_itself s u _
disturbed_agree s witnesses Matching u good good' far = agree_itself s u _
disturbed_agree s witnesses Status u good good' far = agree_itself s u _

-- ---- steps

-- what matters to a name that no mover touches does not move
idle : (s : State) (witnesses : List Witness) (moves : List Moved) (u w : ℕ) → IsState s → list_any (λ m. is_touched s witnesses m.node u) moves ≡ false → Matters s witnesses u w → is_mover_in moves w ≡ false
idle s witnesses [] u w good far matters = refl
idle s witnesses (m ∷ moves) u w good far matters =
    let parts = or_parts (is_touched s witnesses m.node u) (list_any (λ m. is_touched s witnesses m.node u) moves) far in
    or_from (nat_eq m.node w) (is_mover_in moves w) (ne_eqb m.node w (λ same. untouched_apart s witnesses m.node u w good parts.0 matters (sym same))) (idle s witnesses moves u w good parts.1 matters)

-- ---- any entry

pub unaffected_agree : (s : State) (witnesses : List Witness) (event : Event) (reply : Reply) (u : ℕ) → IsState s → IsState (followed s event reply) → is_affected s witnesses event reply u ≡ false → AgreeAt s (followed s event reply) u (witness_at witnesses u)
unaffected_agree s witnesses event Accepted u good good' far = disturbed_agree s witnesses event u good good' far
unaffected_agree s witnesses event (Moves moves) u good good' far =
    agree_written s witnesses (registers_after s moves) u (λ w matters. unmoved s s.registers moves w (idle s witnesses moves u w good far matters))
unaffected_agree s witnesses event (Refused x) u good good' far = agree_itself s u _
unaffected_agree s witnesses event (Shown x) u good good' far = agree_itself s u _
unaffected_agree s witnesses event (EnabledAre x) u good good' far = agree_itself s u _
unaffected_agree s witnesses event (Pairs x) u good good' far = agree_itself s u _
unaffected_agree s witnesses event (Counts x) u good good' far = agree_itself s u _

disturbed_size : (s : State) (event : Event) → (disturbed s event).network.size ≡ s.network.size
disturbed_size s (Link a b) = refl
disturbed_size s (Unlink a b) = refl
disturbed_size s (Point v target) = refl
disturbed_size s (Flag v value) = refl
disturbed_size s (Join v) = refl
disturbed_size s (Leave v) = refl
disturbed_size s (Step items) = refl
disturbed_size s (Show v) = refl
disturbed_size s Enabled = refl
disturbed_size s Matching = refl
disturbed_size s Status = refl

-- an entry keeps the number of names
pub followed_size : (s : State) (event : Event) (reply : Reply) → (followed s event reply).network.size ≡ s.network.size
followed_size s event Accepted = disturbed_size s event
followed_size s event (Moves moves) = refl
followed_size s event (Refused x) = refl
followed_size s event (Shown x) = refl
followed_size s event (EnabledAre x) = refl
followed_size s event (Pairs x) = refl
followed_size s event (Counts x) = refl
