-- The set of enabled nodes, found name by name.
use Rattle.rule_engine.proofs.Prelude.{◌≡◌, ◌≢◌, ℕ, ◌+◌, ◌<◌, ◌≤◌, Bool, true, false, List, length, set, None, is_some, IsTrue, cond, refl, sym, ap, subst, ◌∙◌, ⊎_elim, arith, cases_eq, cases_lt, length-set, length-replicate, get_or-set_same, get_or-set_other, replicate, State, present, RuleTable, rule_at, is_in, present_range, AreOn, is_enabled_at, get_or, get_or-replicate, get_or_past}

-- a table of one value
blank_at : {X : Type 0} (n v : ℕ) (x : X) → get_or (replicate n x) v x ≡ x
blank_at n v x =
    ⊎_elim
    (λ (below : v < n). get_or-replicate n v x x below)
    (λ (past : n ≤ v). get_or_past (replicate n x) v x (let k = length-replicate n x in omega (arith, k)))
    (cases_lt v n)

-- the set has a place for each name; the first names are members if they are enabled, the others are not
pub record AreFirstOn (t : RuleTable) (s : State) (below : ℕ) (bits : List Bool) : Type 0 where
  pub places : length bits ≡ s.network.size + 1
  pub each : (v : ℕ) → v ≤ below → is_in bits v ≡ is_enabled_at t s v
  pub later : (v : ℕ) → below < v → is_in bits v ≡ false

-- no rule is enabled at a name that is not present
off_range : (t : RuleTable) (s : State) (v : ℕ) → (IsTrue (present s.network v) → ⊥) → is_enabled_at t s v ≡ false
off_range t s v absent = go (present s.network v) refl
  where
    go : (b : Bool) → present s.network v ≡ b → is_enabled_at t s v ≡ false
    go true has = absurd (absent has)
    go false gone = ap (λ b. is_some (cond b (rule_at t s v) None)) gone

-- before the first name
pub on_first : (t : RuleTable) (s : State) (n : ℕ) (bits : List Bool) → n ≡ s.network.size → bits ≡ replicate (n + 1) false → AreFirstOn t s 0 bits
on_first t s n bits size empty = record {
  places = ap length empty ∙ length-replicate (n + 1) false ∙ ap (λ k. k + 1) size;
  each = λ v low.
      ap (λ l. is_in l v) empty ∙ blank_at (n + 1) v false
      ∙ sym (off_range t s v (λ has. let range = present_range s.network v has in omega (arith, range.0, low)));
  later = λ v _. ap (λ l. is_in l v) empty ∙ blank_at (n + 1) v false;
}

-- one more name, which is put in
pub on_more : (t : RuleTable) (s : State) (below v : ℕ) (bits bits' : List Bool) → AreFirstOn t s below bits → v ≡ below + 1 → below < s.network.size → is_enabled_at t s v ≡ true → bits' ≡ set bits v true → AreFirstOn t s (below + 1) bits'
on_more t s below v bits bits' so_far at within is_on made = record {
  places = ap length made ∙ length-set bits v true ∙ so_far.places;
  each = λ w low.
      ap (λ l. is_in l w) made ∙ ⊎_elim
      (λ (here : w ≡ v). ap (is_in (set bits v true)) here ∙ get_or-set_same bits v true false (let p = so_far.places in omega (arith, p, at, within)) ∙ sym (ap (is_enabled_at t s) here ∙ is_on))
      (λ (other : w ≢ v). get_or-set_other bits v w true false other ∙ so_far.each w (omega (arith, other, low, at)))
      (cases_eq w v);
  later = λ w above.
      ap (λ l. is_in l w) made
      ∙ get_or-set_other bits v w true false (λ same. omega (arith, same, above, at))
      ∙ so_far.later w (omega (arith, above));
}

-- one more name, which is not
pub on_less : (t : RuleTable) (s : State) (below v : ℕ) (bits bits' : List Bool) → AreFirstOn t s below bits → v ≡ below + 1 → is_enabled_at t s v ≡ false → bits' ≡ bits → AreFirstOn t s (below + 1) bits'
on_less t s below v bits bits' so_far at is_off same =
    subst (AreFirstOn t s (below + 1)) (sym same) record {
      places = so_far.places;
      each = λ w low.
          ⊎_elim
          (λ (here : w ≡ v). so_far.later w (omega (arith, here, at)) ∙ sym (ap (is_enabled_at t s) here ∙ is_off))
          (λ (other : w ≢ v). so_far.each w (omega (arith, other, low, at)))
          (cases_eq w v);
      later = λ w above. so_far.later w (omega (arith, above));
    }

-- after the last name
pub on_all : (t : RuleTable) (s : State) (below : ℕ) (bits : List Bool) → s.network.size ≤ below → AreFirstOn t s below bits → AreOn t s bits
on_all t s below bits end so_far = record {
  places = so_far.places;
  each = λ v.
      ⊎_elim
      (λ (past : below < v). so_far.later v past ∙ sym (off_range t s v (λ has. let range = present_range s.network v has in omega (arith, range.1, past, end))))
      (λ (low : v ≤ below). so_far.each v low)
      (cases_lt below v);
}
