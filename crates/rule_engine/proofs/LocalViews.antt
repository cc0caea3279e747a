-- What a write of one node's registers leaves unchanged in a glance at another.
use Rattle.rule_engine.proofs.Prelude.{◌≡◌, ℕ, Bool, true, false, not, ◌&&◌, ◌||◌, List, [], ◌∷◌, reverse, Option, None, Some, is_some, is_none, find, nat_eq, nat_lt, IsTrue, refl, sym, ap, ap₂, ◌∙◌, ◌⊎◌, inl, inr, ⊎_elim, and-false, or-false, or-true, or_assoc, or_comm, list_any, and_right, cases_Bool, cases_eq, eq-eqb, false_from_ne_true, ne_eqb, or_parts, true≢false, reverse-append, list_any-append, linked, neighbours, State, Registers, IsState, pointer, flag, points, is_at, married, has_suitor, is_open, AgreesLocally, asks_for, reaches, is_reached, reaches_beside, linked_comm, if_some_at, is_at_from_some, some_from_is_at, is_suitor, may_turn, may_change_guard}
use Rattle.rule_engine.proofs.FarNodes.{not_same}
use Rattle.rule_engine.proofs.GuardRefresh.{found_any}
use Rattle.suitor_index.proofs.NeighbourSums.{listed_is_linked}

-- the state of the same network with these registers
abbrev pub with_registers : State → Registers → State
with_registers s r = record s { registers = r }

-- registers that differ at one name only
pub record AreAlikeBut (s u : State) (v : ℕ) : Type 0 where
  pub pointers : (x : ℕ) → (x ≡ v → ⊥) → pointer s x ≡ pointer u x
  pub flags : (x : ℕ) → (x ≡ v → ⊥) → flag s x ≡ flag u x

-- from whichever end it is searched
any_reverse : (p : ℕ → Bool) (xs : List ℕ) → list_any p (reverse xs) ≡ list_any p xs
any_reverse p [] = refl
any_reverse p (x ∷ xs) =
    ap (list_any p) (reverse-append (x ∷ []) xs) ∙ list_any-append p (reverse xs) (x ∷ []) ∙ ap (λ b. b || (p x || false)) (any_reverse p xs) ∙ ap (λ b. list_any p xs || b) (or-false (p x)) ∙ or_comm (list_any p xs) (p x)

reach_any : (above : Bool) (opens : Option ℕ → Bool → Bool) (s : State) (w : ℕ) → reaches above opens s w ≡ list_any (is_reached above opens s w) (neighbours s.network w)
reach_any true opens s w = found_any (is_reached true opens s w) (reverse (neighbours s.network w)) ∙ any_reverse (is_reached true opens s w) (neighbours s.network w)
reach_any false opens s w = found_any (is_reached false opens s w) (neighbours s.network w)

-- one of a list passes if v does and is listed, or another does
any_beside : (p : ℕ → Bool) (v : ℕ) (xs : List ℕ) → list_any p xs ≡ (list_any (λ x. not (nat_eq x v) && p x) xs || (list_any (nat_eq v) xs && p v))
any_beside p v [] = refl
any_beside p v (x ∷ xs) =
    ap (λ b. p x || b) (any_beside p v xs)
    ∙ ⊎_elim
    (λ (same : x ≡ v).
    ap (λ b. b || (list_any (λ y. not (nat_eq y v) && p y) xs || (list_any (nat_eq v) xs && p v))) (ap p same)
    ∙ at (list_any (λ y. not (nat_eq y v) && p y) xs) (list_any (nat_eq v) xs) (p v)
    ∙ sym (ap₂ (λ (b c : Bool). ((not b && p x) || list_any (λ y. not (nat_eq y v) && p y) xs) || ((c || list_any (nat_eq v) xs) && p v)) (eq-eqb x v same) (eq-eqb v x (sym same))))
    (λ (apart : x ≡ v → ⊥).
    sym (or_assoc (p x) (list_any (λ y. not (nat_eq y v) && p y) xs) (list_any (nat_eq v) xs && p v))
    ∙ sym (ap₂ (λ (b c : Bool). ((not b && p x) || list_any (λ y. not (nat_eq y v) && p y) xs) || ((c || list_any (nat_eq v) xs) && p v)) (ne_eqb x v apart) (ne_eqb v x (λ e. apart (sym e)))))
    (cases_eq x v)
  where
    at : (a l q : Bool) → (q || (a || (l && q))) ≡ (a || q)
    at a l true = sym (or-true a)
    at a l false = ap (λ b. a || b) (and-false l)

-- so a node reaches an open one other than v, or v
reach_beside : (above : Bool) (opens : Option ℕ → Bool → Bool) (s : State) (v w : ℕ) → IsState s → reaches above opens s w ≡ (reaches_beside above opens s w v || (linked s.network w v && is_reached above opens s w v))
reach_beside above opens s v w good =
    reach_any above opens s w
    ∙ any_beside (is_reached above opens s w) v (neighbours s.network w)
    ∙ ap₂ (λ (b c : Bool). b || (c && is_reached above opens s w v)) (sym (found_any (λ x. not (nat_eq x v) && is_reached above opens s w x) (neighbours s.network w))) (listed_is_linked s.network w v good.is_network)

-- a node that is not asked for is not reached
never_asked : (above : Bool) (opens : Option ℕ → Bool → Bool) (s : State) (v w : ℕ) → asks_for above w v ≡ false → is_reached above opens s w v ≡ false
never_asked true opens s v w e = and_right (is_open opens s v) (nat_lt w v) e
never_asked false opens s v w e = absurd (true≢false e)

settled : (near asks null beside : Bool) → null ≡ true → (near && (asks && (null && not beside))) ≡ false → (near ≡ false) ⊎ ((asks ≡ false) ⊎ (beside ≡ true))
settled false asks null beside is e = inl refl
settled true false null beside is e = inr (inl refl)
settled true true null true is e = inr (inr refl)
settled true true true false is e = absurd (true≢false e)
settled true true false false is e = absurd (true≢false (sym is))

reached_alike : (above : Bool) (opens : Option ℕ → Bool → Bool) (s u : State) (w x : ℕ) → is_open opens s x ≡ is_open opens u x → is_reached above opens s w x ≡ is_reached above opens u w x
reached_alike true opens s u w x e = ap (λ b. b && nat_lt w x) e
reached_alike false opens s u w x e = e

module _ (above : Bool) (opens : Option ℕ → Bool → Bool) (s : State) (r : Registers) (v : ℕ) (good : IsState s) (good' : IsState (with_registers s r)) (alike : AreAlikeBut s (with_registers s r) v) where
  not_suitor : (w : ℕ) → is_suitor (with_registers s r) v w ≡ false → points r w v ≡ false
  not_suitor w off =
      ⊎_elim
      (λ (on : linked s.network v w ≡ true). ap (λ b. b && points r w v) (sym on) ∙ off)
      (λ (no : linked s.network v w ≡ false).
      false_from_ne_true _ (λ at. true≢false (sym (if_some_at (pointer (with_registers s r) w) (λ x. IsTrue (linked s.network w x)) v (some_from_is_at (pointer (with_registers s r) w) v at) (good'.neighbourly w)) ∙ linked_comm s.network w v ∙ no)))
      (cases_Bool (linked s.network v w))

  beside_same : (w : ℕ) → reaches_beside above opens s w v ≡ reaches_beside above opens (with_registers s r) w v
  beside_same w = ap (λ (p : ℕ → Bool). is_some (find p (neighbours s.network w))) (λ i x. each x i)
    where
      each : (x : ℕ) → (not (nat_eq x v) && is_reached above opens s w x) ≡ (not (nat_eq x v) && is_reached above opens (with_registers s r) w x)
      each x =
          ⊎_elim
          (λ (same : x ≡ v). ap (λ b. not b && is_reached above opens s w x) (eq-eqb x v same) ∙ sym (ap (λ b. not b && is_reached above opens (with_registers s r) w x) (eq-eqb x v same)))
          (λ (apart : x ≡ v → ⊥). ap (λ b. not (nat_eq x v) && b) (reached_alike above opens s (with_registers s r) w x (ap₂ opens (alike.pointers x apart) (alike.flags x apart))))
          (cases_eq x v)

  -- what is reached at v counts alike if w points nowhere
  reached_same : (w : ℕ) (turned : Bool) → pointer (with_registers s r) w ≡ None → (turned ≡ false → is_open opens s v ≡ is_open opens (with_registers s r) v) → (turned && may_turn above opens (with_registers s r) v w) ≡ false → (reaches_beside above opens (with_registers s r) w v || (linked s.network w v && is_reached above opens s w v)) ≡ (reaches_beside above opens (with_registers s r) w v || (linked s.network w v && is_reached above opens (with_registers s r) w v))
  reached_same w false null stays off =
      ap (λ b. reaches_beside above opens (with_registers s r) w v || (linked s.network w v && b)) (reached_alike above opens s (with_registers s r) w v (stays refl))
  reached_same w true null stays off =
      ⊎_elim
      (λ (no : linked s.network v w ≡ false).
      let none : linked s.network w v ≡ false = linked_comm s.network w v ∙ no in
      ap (λ b. reaches_beside above opens (with_registers s r) w v || (b && is_reached above opens s w v)) none
      ∙ sym (ap (λ b. reaches_beside above opens (with_registers s r) w v || (b && is_reached above opens (with_registers s r) w v)) none))
      (λ rest. ⊎_elim
      (λ (no : asks_for above w v ≡ false).
      ap (λ b. reaches_beside above opens (with_registers s r) w v || (linked s.network w v && b)) (never_asked above opens s v w no ∙ sym (never_asked above opens (with_registers s r) v w no)))
      (λ (yes : reaches_beside above opens (with_registers s r) w v ≡ true).
      ap (λ b. b || (linked s.network w v && is_reached above opens s w v)) yes
      ∙ sym (ap (λ b. b || (linked s.network w v && is_reached above opens (with_registers s r) w v)) yes))
      rest)
      (settled (linked s.network v w) (asks_for above w v) (is_none (pointer (with_registers s r) w)) (reaches_beside above opens (with_registers s r) w v) (ap is_none null) off)

  reach_same : (w : ℕ) (turned : Bool) → pointer (with_registers s r) w ≡ None → (turned ≡ false → is_open opens s v ≡ is_open opens (with_registers s r) v) → (turned && may_turn above opens (with_registers s r) v w) ≡ false → reaches above opens s w ≡ reaches above opens (with_registers s r) w
  reach_same w turned null stays off =
      reach_beside above opens s v w good
      ∙ ap (λ b. b || (linked s.network w v && is_reached above opens s w v)) (beside_same w)
      ∙ reached_same w turned null stays off
      ∙ sym (reach_beside above opens (with_registers s r) v w good')

  pub suitor_same : (w : ℕ) → is_at (pointer s v) w ≡ false → is_at (pointer (with_registers s r) v) w ≡ false → has_suitor s w ≡ has_suitor (with_registers s r) w
  suitor_same w old new = ap (λ (p : ℕ → Bool). is_some (find p (neighbours s.network w))) (λ i x. each x i)
    where
      each : (x : ℕ) → points s.registers x w ≡ points r x w
      each x =
          ⊎_elim
          (λ (same : x ≡ v). ap (λ y. points s.registers y w) same ∙ old ∙ sym (ap (λ y. points r y w) same ∙ new))
          (λ (apart : x ≡ v → ⊥). ap (λ o. is_at o w) (alike.pointers x apart))
          (cases_eq x v)

  marriage_same : (w : ℕ) → (w ≡ v → ⊥) → points r w v ≡ false → married s w ≡ married (with_registers s r) w
  marriage_same w other off = ap (λ (p : ℕ → Bool). is_some (find p (neighbours s.network w))) (λ i x. each x i)
    where
      was : points s.registers w v ≡ false
      was = ap (λ o. is_at o v) (alike.pointers w other) ∙ off

      each : (x : ℕ) → (points s.registers w x && points s.registers x w) ≡ (points r w x && points r x w)
      each x =
          ⊎_elim
          (λ (same : x ≡ v).
          ap (λ y. points s.registers w y && points s.registers x w) same ∙ ap (λ b. b && points s.registers x w) was
          ∙ sym (ap (λ y. points r w y && points r x w) same ∙ ap (λ b. b && points r x w) off))
          (λ (apart : x ≡ v → ⊥). ap₂ (λ (b c : Bool). b && c) (ap (λ o. is_at o x) (alike.pointers w other)) (ap (λ o. is_at o w) (alike.pointers x apart)))
          (cases_eq x v)

  -- a glance at an untouched node is unchanged, if it gained or lost no suitor, or it points somewhere
  pub glance_far : (w : ℕ) (turned : Bool) → (turned ≡ false → is_open opens s v ≡ is_open opens (with_registers s r) v) → (pointer (with_registers s r) w ≡ None → has_suitor s w ≡ has_suitor (with_registers s r) w) → may_change_guard above opens (with_registers s r) v turned w ≡ false → AgreesLocally above opens s (with_registers s r) w
  glance_far w turned stays suitors off =
      let parts = or_parts (nat_eq w v || is_suitor (with_registers s r) v w) (turned && may_turn above opens (with_registers s r) v w) off in
      let first = or_parts (nat_eq w v) (is_suitor (with_registers s r) v w) parts.0 in
      let other = not_same v w first.0 in
      let away = not_suitor w first.1 in
      let target : (x : ℕ) → pointer s w ≡ Some x → x ≡ v → ⊥ = λ x at same. true≢false (sym (is_at_from_some (pointer (with_registers s r) w) v (sym (alike.pointers w other) ∙ at ∙ ap Some same)) ∙ away) in
      record {
        own_pointer = alike.pointers w other;
        own_flag = alike.flags w other;
        marriage = marriage_same w other away;
        suitor = λ null. suitors (sym (alike.pointers w other) ∙ null);
        reach = λ null. reach_same w turned (sym (alike.pointers w other) ∙ null) stays parts.1;
        target_pointer = λ x at. alike.pointers x (target x at);
        target_flag = λ x at. alike.flags x (target x at);
      }
